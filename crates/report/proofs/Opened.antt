-- What is known of a file that was read.
use Rattle.std.proofs.Common.{◌≡◌, ℕ, ◌-◌, ◌*◌, ◌≤◌, Bool, true, false, cond, length, take, Some, None, Ok, Option, refl, ap, arith, IfOk, Err, Result}
use Rattle.std.proofs.lemmas.Grind.{common_steps}
use Rattle.model.specs.Packet.{Bytes}
use Rattle.model.specs.File.{FileText, opened, last, bad_count, bad_number, count_in, distance_in}
use Rattle.model.specs.Reels.{bad_bytes}
use Rattle.model.specs.declared.refusal.Refusal.{Refusal}
use Rattle.report.specs.declared.checking.Checked.{Checked}
use Rattle.model.specs.Tests.{unless}
use Rattle.report.specs.Checks.{Checks}

-- of a file that passes all tests, the third says nothing
passed : {A : Type 0} (o : Option ℕ) (v t : A) → unless o v ≡ Ok t → v ≡ t
passed None v t h = cc
passed (Some n) v t h = cc

third : {A : Type 0} (a b c : Bool) (o : Option ℕ) (v t : A) → unless (cond a (Some 1) (cond b (Some 2) (cond c (Some 3) o))) v ≡ Ok t → (c ≡ false) × (v ≡ t)
third true b c o v t h = cc
third false true c o v t h = cc
third false false true o v t h = cc
third false false false o v t h = (refl, passed o v t h)

counted : (f : Bytes) (t : FileText) → opened f ≡ Ok t → (bad_count (length f - distance_in (last 24 f)) (count_in (last 24 f)) ≡ false) × (count_in (last 24 f) ≡ t.count)
counted f t h = let g = third _ _ _ _ _ t h in (g.0, ap (λ (x : FileText). x.count) g.1)

-- its packets lie within it, and are as many as there may be
pub count_within : (f : Bytes) (t : FileText) → opened f ≡ Ok t → 188 * t.count ≤ length f
count_within f t h = let g = counted f t h in grind (arith, common_steps)

pub count_right : (f : Bytes) (t : FileText) → opened f ≡ Ok t → bad_number t.count ≡ false
count_right f t h = let g = counted f t h in grind (arith, common_steps)

pub bytes_right : (f : Bytes) (t : FileText) → opened f ≡ Ok t → bad_bytes (take (188 * t.count) f) ≡ false
bytes_right f t h =
    let w = count_within f t h in
    let r = count_right f t h in
    grind (arith, common_steps)

pub few : (f : Bytes) (r : Result Checked Refusal) → Checks f r → length f ≤ 65536 → IfOk r (λ c. c.contents.count ≤ 999)
few f (Ok c) h k = let w = count_within f _ h.0 in omega arith
few f (Err e) h k = tt
