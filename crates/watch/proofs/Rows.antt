-- The row of a PID, and what stands in it after a write.
use Rattle.std.proofs.Common.{◌≡◌, ℕ, ◌+◌, ◌<◌, Bool, true, false, cond, eqb, List, [], ◌∷◌, length, set, Some, None, Option, sym, refl, ap, ◌∙◌, inl, inr, arith}
use Rattle.std.proofs.lemmas.List.{get_or-set_same, get_or-set_other}
use Rattle.std.proofs.lemmas.Bool.{cases_Bool, cond-true, cond-false, eqb-true, eqb-false, both_ways}
use Rattle.model.specs.declared.entry.Entry.{Entry}
use Rattle.model.specs.Entries.{row_of, next, kind_of, listed}
use Rattle.watch.specs.Tables.{at}

zero_one : ◌≡◌ {A = ℕ} 0 1 → ⊥
zero_one h = omega arith

next_some : (o : Option ℕ) (i : ℕ) → next o ≡ Some i → (k : ℕ) × (o ≡ Some k) × (k + 1 ≡ i)
next_some None i h = absurd (zero_one (cc))
next_some (Some k) i h = (k, refl, cc)

pub row_lt : (es : List Entry) (q i : ℕ) → row_of es q ≡ Some i → i < length es
row_lt [] q i h = absurd (zero_one (cc))
row_lt (e ∷ es) q i h = elim (cases_Bool (eqb e.pid q)) [
  | inl t ↦
      let z : Some 0 ≡ Some i = sym (cond-true (eqb e.pid q) (Some 0) (next (row_of es q)) t) ∙ h in
      let k : 0 ≡ i = cc in omega arith
  | inr t ↦
      let n = next_some (row_of es q) i (sym (cond-false (eqb e.pid q) (Some 0) (next (row_of es q)) t) ∙ h) in
      let l = row_lt es q n.0 n.1 in
      let k = n.2 in omega arith
]

-- two PIDs of one row are the same
pub row_same : (es : List Entry) (q r i : ℕ) → row_of es q ≡ Some i → row_of es r ≡ Some i → q ≡ r
row_same [] q r i h g = absurd (zero_one (cc))
row_same (e ∷ es) q r i h g = elim (cases_Bool (eqb e.pid q)) [
  | inl t ↦ elim (cases_Bool (eqb e.pid r)) [
    | inl u ↦ sym (eqb-true e.pid q t) ∙ eqb-true e.pid r u
    | inr u ↦ absurd (first q r t u h g)
  ]
  | inr t ↦ elim (cases_Bool (eqb e.pid r)) [
    | inl u ↦ absurd (first r q u t g h)
    | inr u ↦
        let n = next_some (row_of es q) i (sym (cond-false (eqb e.pid q) (Some 0) (next (row_of es q)) t) ∙ h) in
        let m = next_some (row_of es r) i (sym (cond-false (eqb e.pid r) (Some 0) (next (row_of es r)) u) ∙ g) in
        let k : m.0 ≡ n.0 = let a = n.2 in let b = m.2 in omega arith in
        row_same es q r n.0 n.1 (m.1 ∙ ap Some k)
  ]
]
  where
    first : (a b : ℕ) → eqb e.pid a ≡ true → eqb e.pid b ≡ false → row_of (e ∷ es) a ≡ Some i → row_of (e ∷ es) b ≡ Some i → ⊥
    first a b t u h g =
        let z : Some 0 ≡ Some i = sym (cond-true (eqb e.pid a) (Some 0) (next (row_of es a)) t) ∙ h in
        let n = next_some (row_of es b) i (sym (cond-false (eqb e.pid b) (Some 0) (next (row_of es b)) u) ∙ g) in
        let k : 0 ≡ i = cc in
        let l = n.2 in omega arith

module _ {A : Type 0} (rows : List A) (d v : A) (i : ℕ) (l : i < length rows) where
  set_other : (o : Option ℕ) → (o ≡ Some i → ⊥) → at (set rows i v) d o ≡ at rows d o
  set_other None n = refl
  set_other (Some j) n = get_or-set_other rows i j v d (λ e. n (ap Some e))

  -- what stands in the row of PID r once v was written into that of PID q
  pub at_set : (es : List Entry) (q r : ℕ) → row_of es q ≡ Some i → at (set rows i v) d (row_of es r) ≡ cond (eqb q r) v (at rows d (row_of es r))
  at_set es q r h = elim (cases_Bool (eqb q r)) [
    | inl t ↦
        let e : row_of es r ≡ Some i = ap (row_of es) (sym (eqb-true q r t)) ∙ h in
        ap (at (set rows i v) d) e ∙ get_or-set_same rows i v d l ∙ sym (cond-true (eqb q r) v (at rows d (row_of es r)) t)
    | inr t ↦ set_other (row_of es r) (λ g. eqb-false q r t (row_same es q r i h g)) ∙ sym (cond-false (eqb q r) v (at rows d (row_of es r)) t)
  ]

none_next : (o : Option ℕ) → next o ≡ None → o ≡ None
none_next None h = refl
none_next (Some k) h = absurd (zero_one (cc))

row_none : (es : List Entry) (q : ℕ) → row_of es q ≡ None → kind_of es q ≡ None
row_none [] q h = refl
row_none (e ∷ es) q h = elim (cases_Bool (eqb e.pid q)) [
  | inl t ↦
      let z : ◌≡◌ {A = Option ℕ} (Some 0) None = sym (cond-true (eqb e.pid q) (Some 0) (next (row_of es q)) t) ∙ h in
      absurd (zero_one (cc))
  | inr t ↦ cond-false (eqb e.pid q) (Some e.kind) (kind_of es q) t
      ∙ row_none es q (none_next (row_of es q) (sym (cond-false (eqb e.pid q) (Some 0) (next (row_of es q)) t) ∙ h))
]

-- a listed PID has a row, so where none is answered the test failed
pub no_row : (es : List Entry) (q : ℕ) (b : Bool) → (b ≡ true → listed (kind_of es q) ≡ true) → None ≡ cond b (row_of es q) None → b ≡ false
no_row es q false k h = refl
no_row es q true k h = absurd (both_ways (listed (kind_of es q)) (ap listed (row_none es q (sym h))) (k refl))
