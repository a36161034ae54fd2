use Rattle.std.proofs.Common.{sym}
use Rattle.model.specs.Packet.{Bytes}
use Rattle.laws.proofs.Moved.{still}
use Rattle.packet.proofs.Moves.{unlisted_stays, broken_stays}
use Rattle.packet.proofs.moving.move_on_as.Goals as goal
use Rattle.packet.proofs.moving.move_on_as.Goals.{else-is_some-via-then-is_some+else-is_none, else-is_some-via-else-is_some}

pub returns-else-is_some : goal.returns-else-is_some
returns-else-is_some c es k =
    let p : Bytes = c.args.packet.now in
    sym (still es c.args.steps c.args.ticks p (elim c.else-is_some.branch [
      | else-is_some-via-then-is_some+else-is_none w ↦ broken_stays es p w.form_of_kind.result (w.form_of_kind.ensures es k) w.if-is_none.ensures
      | else-is_some-via-else-is_some w ↦ unlisted_stays es p c.args.kind k (sym w.if-is_some.ensures)
    ]))
