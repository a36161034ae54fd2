use Rattle.std.proofs.Common.{rules}
use Rattle.watch.proofs.Assembling.{push_open, push_other}
use Rattle.watch.proofs.sections.section.Section.push.Goals as goal
use Rattle.watch.proofs.sections.section.Section.push.Goals.{in-Ok-Open, in_default, in_default-2}

pub returns : goal.returns
returns c =
    let s = c.args.self.now in
    let v = c.args.byte in
    elim c.match-progress.branch [
      | in-Ok-Open w ↦ push_open s v c.progress_of-progress.result c.match-progress.self c.progress_of-progress.ensures w.self-is
      | in_default w ↦ push_other s v c.progress_of-progress.result c.match-progress.self c.progress_of-progress.ensures (λ e. search rules)
      | in_default-2 w ↦ push_other s v c.progress_of-progress.result c.match-progress.self c.progress_of-progress.ensures (λ e. search rules)
    ]
