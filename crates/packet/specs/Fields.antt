-- The clock field by itself, six bytes.
use Rattle.std.specs.Prelude.{ℕ, ◌∷◌, drop}
use Rattle.model.specs.Packet.{Bytes}
use Rattle.model.specs.Moves.{set_pcr}

-- a clock field with another value: what stands from place 6 on of a packet that has it there
abbrev pub set_pcr_field : ℕ → Bytes → Bytes
set_pcr_field v field = drop 6 (set_pcr v (0 ∷ 0 ∷ 0 ∷ 0 ∷ 0 ∷ 0 ∷ field))
