use Rattle.std.proofs.Common.{◌*◌, ◌%◌, ap, ◌∙◌, arith}
use lib.Bits.{bit_xor}
use Rattle.packet.proofs.CrcSteps.{byte_step}
use Rattle.packet.proofs.crc.step.Goals as goal

pub returns : goal.returns
returns c =
    ap (λ x. bit_xor x (c.args.running % 16777216 * 256)) c.entry.ensures
    ∙ byte_step c.args.running c.args.byte (omega (arith, c.ranges.running.fits)) (omega (arith, c.ranges.byte.fits))
