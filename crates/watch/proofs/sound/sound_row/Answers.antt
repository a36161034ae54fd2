use Rattle.std.proofs.Common.{◌≡◌, false, Some, None, sym, ap, ◌∙◌, rules}
use Rattle.std.proofs.lemmas.Bool.{cond-false, and_right}
use Rattle.model.specs.Entries.{kind_of, row_of}
use Rattle.model.specs.Packet.{pid}
use Rattle.model.specs.Form.{sound}
use Rattle.model.specs.Sheets.{entries_of}
use Rattle.watch.specs.Tables.{is_of}
use Rattle.watch.proofs.ByKind.{not_of}
use Rattle.watch.proofs.sound.sound_row.Goals as goal

pub returns-then-ne-clause-row : goal.returns-then-ne-clause-row
returns-then-ne-clause-row c =
    let p = c.args.packet.now in
    let es = entries_of c.args.sheet.now in
    let listed = c.in_ok-listed.listed in
    let k : kind_of es (pid p) ≡ Some listed.kind = ap (kind_of es) (sym c.pid.ensures) ∙ sym c.in_ok-listed.ensures.kind in
    let f : is_of c.args.kind (kind_of es (pid p)) ≡ false = ap (is_of c.args.kind) k ∙ not_of c.args.kind listed.kind (λ e. search rules) in
    sym (cond-false _ (row_of es (pid p)) None (and_right (sound es p) _ f))
