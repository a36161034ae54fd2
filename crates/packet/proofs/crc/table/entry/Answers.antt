use Rattle.std.proofs.Common.{arith}
use Rattle.packet.proofs.CrcSteps.{entry_is}
use Rattle.packet.proofs.crc.table.entry.Goals as goal

pub returns : goal.returns
returns c = entry_is c.args.byte (omega (arith, c.ranges.byte.fits))
