use Rattle.std.proofs.Common.{◌≡◌, ◌&&◌, drop}
use Rattle.model.specs.Tests.{all255}
use Rattle.packet.proofs.stuffing.is_stuffing.Given as goal

abbrev pub invariant-loop-byte : goal.invariant-loop-byte
invariant-loop-byte l = all255 l.bytes ≡ (l.all && all255 (drop l.byte-index l.bytes))
