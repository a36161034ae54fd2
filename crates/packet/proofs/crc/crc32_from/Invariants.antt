use Rattle.std.proofs.Common.{◌≡◌, drop}
use Rattle.model.specs.Crc.{crc_from}
use Rattle.packet.proofs.crc.crc32_from.Given as goal

abbrev pub invariant-loop-byte : goal.invariant-loop-byte
invariant-loop-byte l = crc_from l.crc (drop l.byte-index l.bytes) ≡ crc_from l.initial.crc l.bytes
