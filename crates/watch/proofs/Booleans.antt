-- Tests joined by `&&`, decided by one of them.
use Rattle.std.proofs.Common.{◌≡◌, ℕ, Bool, true, false, cond, not, ◌&&◌, Some, None, Option, sym, refl, arith}
use Rattle.std.proofs.lemmas.Bool.{and_left, and_right, both_ways}

pub third_false : (a b c d : Bool) → c ≡ false → false ≡ (a && (b && (c && d)))
third_false a b c d e = sym (and_right a _ (and_right b _ (and_left c d e)))

pub fourth_false : (a b c d : Bool) → d ≡ false → false ≡ (a && (b && (c && d)))
fourth_false a b c d e = sym (and_right a _ (and_right b _ (and_right c d e)))

-- a row, where there is one
pub some_row : (b : Bool) (o : Option ℕ) (i : ℕ) → Some i ≡ cond b o None → (b ≡ true) × (o ≡ Some i)
some_row true o i h = (refl, sym h)
some_row false o i h = absurd (let z : ◌≡◌ {A = ℕ} 0 1 = cc in omega arith)

-- a finding, where both tests hold and the third does not
module _ {X : Type 0} (x y : X) where
  pub found_since : (a b c : Bool) → (a && b) ≡ true → c ≡ false → x ≡ cond (a && (b && not c)) x y
  found_since true true false h e = refl
  found_since true true true h e = absurd (both_ways true e refl)
  found_since true false c h e = absurd (both_ways false refl h)
  found_since false b c h e = absurd (both_ways false refl h)

  pub none_since : (a b c : Bool) → (a && b) ≡ false → y ≡ cond (a && (b && not c)) x y
  none_since false b c h = refl
  none_since true false c h = refl
  none_since true true c h = absurd (both_ways true h refl)

  pub none_right : (a b c : Bool) → c ≡ true → y ≡ cond (a && (b && not c)) x y
  none_right false b c h = refl
  none_right true false c h = refl
  none_right true true true h = refl
  none_right true true false h = absurd (both_ways false refl h)
