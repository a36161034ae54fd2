use Rattle.std.proofs.Common.{eqb, None, sym}
use Rattle.std.proofs.lemmas.Bool.{cond-false}
use Rattle.model.specs.Packet.{pid, has_pcr}
use Rattle.model.specs.Entries.{kind_of, row_of, is_clock}
use Rattle.model.specs.Form.{sound}
use Rattle.model.specs.Sheets.{entries_of}
use Rattle.watch.proofs.Booleans.{fourth_false}
use Rattle.watch.proofs.clock.clock_row.Goals as goal

pub returns-then-not-has_pcr-clause-row : goal.returns-then-not-has_pcr-clause-row
returns-then-not-has_pcr-clause-row c = λ place.
    let p = c.args.packet.now in
    let es = entries_of c.args.sheet.now in
    sym (cond-false _ (row_of es (pid p)) None (sym (fourth_false (sound es p) (is_clock (kind_of es (pid p))) (eqb (pid p) (pid p)) (has_pcr p) (sym c.if-not-has_pcr.ensures))))
