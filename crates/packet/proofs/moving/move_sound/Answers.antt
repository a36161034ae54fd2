use Rattle.std.proofs.Common.{sym}
use Rattle.packet.proofs.Moves.{without_stamps, with_stamps_after}
use Rattle.packet.proofs.moving.move_sound.Goals as goal

pub returns-then-has_stamps : goal.returns-then-has_stamps
returns-then-has_stamps c es k h =
    with_stamps_after es c.args.steps c.args.ticks c.args.packet.now c.told-packet h c.move_header.new.packet c.move_header.ensures
    (sym (c.if-has_stamps.ensures.stamps es k)) c.move_stamps.new.payload c.payload_place-place.result c.payload_place-place.ensures.place c.move_stamps.ensures

pub returns-else-has_stamps : goal.returns-else-has_stamps
returns-else-has_stamps c es k h =
    without_stamps es c.args.steps c.args.ticks c.args.packet.now c.told-packet h c.move_header.new.packet c.move_header.ensures
    (sym (c.if-has_stamps.ensures.stamps es k))
