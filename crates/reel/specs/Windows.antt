-- What the constructor of a window answers: the window's parts, or the refusal's number with the reel handed back.
use Rattle.std.specs.Prelude.{ℕ, ◌+◌, cond, ◌&&◌, Ok, Err, Result, nat_le}
use Rattle.model.specs.declared.refusal.Refusal.{Refusal}
use Rattle.model.specs.Refusals.{refusal_number}
use Rattle.reel.specs.declared.window.Window.{Window}

-- the reel below, the first place and how many packets there are
abbrev pub Parts : Type 0 → Type 0
Parts R = R × (ℕ × ℕ)

abbrev pub window_made : {R : Type 0} {b : _} → Result (Window R b) (Refusal × R) → Result (Parts R) (ℕ × R)
window_made (Ok w) = Ok (w.below, (w.start, w.size))
window_made (Err e) = Err (refusal_number e.0, e.1)

-- over a reel of n packets
abbrev pub windowed : {R : Type 0} → ℕ → ℕ → R → ℕ → Result (Parts R) (ℕ × R)
windowed start size below n =
    cond (nat_le 1 size && nat_le (start + size) n) (Ok (below, (start, size))) (Err (6, below))
