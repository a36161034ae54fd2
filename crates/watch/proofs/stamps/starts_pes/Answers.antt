use Rattle.std.proofs.Common.{sym}
use Rattle.model.specs.Packet.{pid, payload_unit_start, has_payload}
use Rattle.model.specs.Entries.{kind_of, is_pes}
use Rattle.model.specs.Form.{sound}
use Rattle.model.specs.Sheets.{entries_of}
use Rattle.watch.proofs.Booleans.{third_false}
use Rattle.watch.proofs.stamps.starts_pes.Goals as goal

pub returns-then-not-payload_unit_start : goal.returns-then-not-payload_unit_start
returns-then-not-payload_unit_start c =
    let p = c.args.packet.now in
    let es = entries_of c.args.sheet.now in
    third_false (sound es p) (is_pes (kind_of es (pid p))) (payload_unit_start p) (has_payload p) (sym c.if-not-payload_unit_start.ensures)
