use Rattle.std.proofs.Common.{sym}
use Rattle.packet.proofs.Moves.{counter_alone, counter_and_clock}
use Rattle.packet.proofs.moving.move_header.Goals as goal

pub returns-then-has_pcr : goal.returns-then-has_pcr
returns-then-has_pcr c =
    counter_and_clock c.args.steps c.args.ticks c.args.packet.now c.told-packet (sym c.if-has_pcr.ensures)
    c.pcr.result c.pcr.ensures.value c.put_pcr.new.field c.put_pcr.ensures

pub returns-else-has_pcr : goal.returns-else-has_pcr
returns-else-has_pcr c = counter_alone c.args.steps c.args.ticks c.args.packet.now c.told-packet (sym c.if-has_pcr.ensures)
