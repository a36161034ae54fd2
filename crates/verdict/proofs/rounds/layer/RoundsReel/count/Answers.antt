use Rattle.std.proofs.Common.{◌*◌, sym, ap, ◌∙◌}
use Rattle.model.specs.Sheets.{entries_of, round_of}
use Rattle.verdict.specs.RoundLaws.{rounds_length}
use Rattle.verdict.proofs.rounds.layer.RoundsReel.count.Goals as goal

pub returns : goal.returns
returns g c =
    let s = c.args.self.now in
    ap (λ n. s.rounds * n) c.count.ensures ∙ sym (rounds_length (entries_of s.sheet) (round_of s.sheet) s.tallies s.rounds (g.R.Reel.packets s.below) s.fit)
