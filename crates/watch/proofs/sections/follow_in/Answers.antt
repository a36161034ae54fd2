use Rattle.std.proofs.Common.{map, set, sym, ap, ◌∙◌}
use Rattle.std.proofs.lemmas.List.{get_or-map, map-set}
use Rattle.model.specs.Sections.{Phase, unstarted, advance, offence}
use Rattle.watch.specs.Phases.{phase_of}
use Rattle.watch.proofs.sections.follow_in.Goals as goal

pub returns : goal.returns
returns c =
    let rows = c.args.rows.now in
    let i = c.args.row in
    let p = c.args.packet.now in
    let e = get_or-map phase_of rows i c.index-rows-row.result unstarted c.requires in
    record {
      moves = map-set phase_of rows i c.follow.new.self ∙ ap (set (map phase_of rows) i) (c.follow.ensures.moves ∙ ap (λ (ph : Phase). advance ph p) (sym e));
      answers = c.follow.ensures.answers ∙ ap (λ (ph : Phase). offence ph (advance ph p)) (sym e);
    }
