-- Bytes below 256.
use Rattle.std.proofs.Common.{ℕ, zero, suc, ◌<◌, [], ◌∷◌, ◌++◌, length, take, drop, set, suc-le-suc, zero-le, lit<}
use Rattle.model.specs.Packet.{Bytes, byte}

abbrev pub Small : Bytes → Type 0
Small [] = Unit
Small (b ∷ bs) = (b < 256) × Small bs

pub small_at : (p : Bytes) → Small p → (i : ℕ) → byte p i < 256
small_at [] s i = lit< tt
small_at (b ∷ bs) s zero = s.0
small_at (b ∷ bs) s (suc i) = small_at bs s.1 i

pub small_from : (p : Bytes) → ((i : ℕ) → i < length p → byte p i < 256) → Small p
small_from [] h = tt
small_from (b ∷ bs) h = (h zero (suc-le-suc zero-le), small_from bs (λ i l. h (suc i) (suc-le-suc l)))

pub small_set : (p : Bytes) → Small p → (i b : ℕ) → b < 256 → Small (set p i b)
small_set [] s i b h = tt
small_set (a ∷ p) s zero b h = (h, s.1)
small_set (a ∷ p) s (suc i) b h = (s.0, small_set p s.1 i b h)

pub small_append : (p q : Bytes) → Small p → Small q → Small (p ++ q)
small_append [] q s t = t
small_append (b ∷ bs) q s t = (s.0, small_append bs q s.1 t)

pub small_take : (n : ℕ) (p : Bytes) → Small p → Small (take n p)
small_take zero p s = tt
small_take (suc n) [] s = tt
small_take (suc n) (b ∷ bs) s = (s.0, small_take n bs s.1)

pub small_drop : (n : ℕ) (p : Bytes) → Small p → Small (drop n p)
small_drop zero p s = s
small_drop (suc n) [] s = tt
small_drop (suc n) (b ∷ bs) s = small_drop n bs s.1
