-- What the constructor of packets in memory answers: the packets, or the refusal's number with the bytes handed back.
use Rattle.std.specs.Prelude.{ℕ, cond, Ok, Err, Result}
use Rattle.model.specs.declared.refusal.Refusal.{Refusal}
use Rattle.model.specs.Packet.{Bytes}
use Rattle.model.specs.Refusals.{refusal_number}
use Rattle.model.specs.Runs.{Packets}
use Rattle.model.specs.Reels.{cut, held, bad_bytes}
use Rattle.reel.specs.declared.memory.Memory.{Memory}

module _ {T : Type 0} (list : T → Bytes) where
  abbrev pub memory_made : {b : _} → Result (Memory T b) (Refusal × T) → Result Packets (ℕ × T)
  memory_made (Ok m) = Ok (held (list m.store))
  memory_made (Err e) = Err (refusal_number e.0, e.1)

  abbrev pub memory_of : T → Result Packets (ℕ × T)
  memory_of s = cond (bad_bytes (list s)) (Err (3, s)) (Ok (cut (list s)))
