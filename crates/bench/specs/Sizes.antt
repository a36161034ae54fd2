-- What is timed of a payload.
use Rattle.std.specs.Prelude.{ℕ, length, Some, None, Ok, Err, Option, Result}
use Rattle.model.specs.Packet.{Bytes}

abbrev pub size_of : Result (Option Bytes) ℕ → ℕ
size_of (Ok (Some u)) = length u
size_of (Ok None) = 0
size_of (Err n) = 1000
