-- Bytes that are packets are taken into memory.
use Rattle.std.proofs.Common.{◌≡◌, ℕ, Bool, false, cond, ap, Ok, Err, Result, ◌∙◌}
use Rattle.std.proofs.lemmas.Bool.{cond-false}
use Rattle.std.specs.Result.{MatchResult, is_ok}
use Rattle.model.specs.declared.refusal.Refusal.{Refusal}
use Rattle.model.specs.Packet.{Bytes}
use Rattle.model.specs.Reels.{held}
use Rattle.model.specs.Runs.{Packets}
use Rattle.reel.specs.Memories.{memory_made}
use Rattle.reel.specs.declared.memory.Memory.{Memory}

module _ {T : Type 0} (list : T → Bytes) {bad : Bool} (good : bad ≡ false) (e : ℕ × T) (ps : Packets) where
  pub never_refused : {b : _} (r : Result (Memory T b) (Refusal × T)) → memory_made list r ≡ cond bad (Err e) (Ok ps)
      → (q : Result (Memory T b) Refusal) → is_ok q ≡ is_ok r → (x : Refusal) → q ≡ Err x → ⊥
  never_refused {b} (Ok m) h q s x i = let k : is_ok q ≡ false = ap is_ok i in cc
  never_refused {b} (Err y) h q s x i = let k : memory_made list {b = b} (Err y) ≡ Ok ps = h ∙ cond-false bad _ _ good in cc

  pub taken_as : {b : _} (r : Result (Memory T b) (Refusal × T)) → memory_made list r ≡ cond bad (Err e) (Ok ps)
      → (q : Result (Memory T b) Refusal) (Q : Refusal × T → Type 0) (m : Memory T b) → MatchResult r (λ x. q ≡ Ok x) Q → q ≡ Ok m → held (list m.store) ≡ ps
  taken_as {b} (Ok x) h q Q m p i = let k : memory_made list {b = b} (Ok x) ≡ Ok ps = h ∙ cond-false bad _ _ good in cc
  taken_as {b} (Err x) h q Q m p i = let k : memory_made list {b = b} (Err x) ≡ Ok ps = h ∙ cond-false bad _ _ good in cc
