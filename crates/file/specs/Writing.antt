-- What a buffer holds after a tail was asked for.
use Rattle.std.specs.Prelude.{◌≡◌, ℕ, ◌*◌, ◌++◌, length, take, Ok, Err, Result}
use Rattle.model.specs.declared.refusal.Refusal.{Refusal}
use Rattle.model.specs.Buffers.{laid}
use Rattle.model.specs.Packet.{Bytes}
use Rattle.model.specs.File.{FileText, tail, opened}

-- the tail at its front, or nothing new where it was refused
abbrev pub buffer_after : Result ℕ Refusal → FileText → Bytes → Bytes
buffer_after (Ok n) t b = laid 0 (tail t) b
buffer_after (Err e) t b = b

-- so many packets followed by the tail that was written are read back as the same sheet and count
abbrev pub ReadsBack : FileText → Result ℕ Refusal → Bytes → Type 0
ReadsBack t (Ok n) b = (packets : Bytes) → length packets ≡ 188 * t.count → opened (packets ++ take n b) ≡ Ok t
ReadsBack t (Err e) b = Unit {0}
