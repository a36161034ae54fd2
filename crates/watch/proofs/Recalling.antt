-- The marks of the clock watch stand for the packets that it has observed.
use Rattle.std.proofs.Common.{◌≡◌, ℕ, ◌<◌, Bool, true, false, cond, ◌&&◌, eqb, List, [], ◌∷◌, length, get_or, set, replicate, Some, None, Option, sym, refl, ap, ◌∙◌, subst, inl, inr, zero-add}
use Rattle.std.proofs.lemmas.List.{get_or-replicate, get_or_past}
use Rattle.std.proofs.lemmas.Bool.{cases_Bool, cases_lt, cond-true, cond-false, and_parts, and_from, eqb-true, eq-eqb, both_ways}
use Rattle.model.specs.declared.entry.Entry.{Entry}
use Rattle.model.specs.declared.entry.Kind.{Kind}
use Rattle.model.specs.declared.entry.Kind.TheVariants.{Clock}
use Rattle.model.specs.Entries.{row_of, is_clock, kind_of, listed}
use Rattle.model.specs.Packet.{Bytes, pid, has_pcr}
use Rattle.model.specs.Form.{sound}
use Rattle.model.specs.Runs.{Placed}
use Rattle.model.specs.Clock.{carries_pcr, last_pcr, later, judged, clock_finding}
use Rattle.watch.specs.declared.mark.Mark.{Mark}
use Rattle.watch.specs.Tables.{at}
use Rattle.watch.specs.Marks.{mark_of, placed_of, recalled, clock_from}
use Rattle.watch.proofs.Rows.{at_set}

-- a stand-in is judged as the packet that it stands for
pub judged_here : (r : ℕ) (o : Option Placed) (x : Placed) → judged r o (placed_of (mark_of x)) ≡ judged r o x
judged_here r None x = refl
judged_here r (Some y) x = simp zero-add

judged_last : (r : ℕ) (y x : Placed) → judged r (Some (placed_of (mark_of y))) x ≡ judged r (Some y) x
judged_last r y x = simp zero-add

blank_at : (o : Option ℕ) → at {A = Option Mark} (replicate 16 None) None o ≡ None
blank_at None = refl
blank_at (Some i) = elim (cases_lt i 16) [
  | inl l ↦ get_or-replicate 16 i None None l
  | inr l ↦ get_or_past (replicate 16 None) i None l
]

later_none : (o : Option Placed) → later o None ≡ o
later_none None = refl
later_none (Some z) = refl

-- with no marks
pub recalls_none : (es : List Entry) (r : ℕ) (xs : List Placed) (x : Placed) → clock_from es r (replicate 16 None) xs x ≡ clock_finding es r xs x
recalls_none es r xs x =
    let q = pid x.bytes in
    ap (λ m. cond (carries_pcr es q x) (judged r (later (last_pcr es q xs) (recalled m)) x) None) (blank_at (row_of es q))
    ∙ ap (λ o. cond (carries_pcr es q x) (judged r o x) None) (later_none (last_pcr es q xs))

-- who carries a clock value of some PID carries one of its own
carries_own : (es : List Entry) (q : ℕ) (y : Placed) → carries_pcr es (pid y.bytes) y ≡ false → carries_pcr es q y ≡ false
carries_own es q y h = elim (cases_Bool (carries_pcr es q y)) [
  | inr f ↦ f
  | inl t ↦
      let e = eqb-true (pid y.bytes) q (and_parts (eqb (pid y.bytes) q) _ (and_parts (is_clock (kind_of es q)) _ (and_parts (sound es y.bytes) _ t).1).1).0 in
      absurd (both_ways (carries_pcr es (pid y.bytes) y) h (subst (λ v. carries_pcr es v y ≡ true) (sym e) t))
]

-- a packet without a clock value changes nothing
pub recalls_same : (es : List Entry) (r : ℕ) (marks : List (Option Mark)) (y : Placed) → carries_pcr es (pid y.bytes) y ≡ false →
    (xs : List Placed) (x : Placed) → clock_from es r marks xs x ≡ clock_from es r marks (y ∷ xs) x
recalls_same es r marks y h xs x =
    let q = pid x.bytes in
    sym (ap (λ b. cond (carries_pcr es q x) (judged r (later (later (last_pcr es q xs) (cond b (Some y) None)) (recalled (at marks None (row_of es q)))) x) None) (carries_own es q y h)
    ∙ ap (λ o. cond (carries_pcr es q x) (judged r (later o (recalled (at marks None (row_of es q)))) x) None) (later_none (last_pcr es q xs)))

module _ (es : List Entry) (r : ℕ) (marks : List (Option Mark)) (y : Placed) (i : ℕ) (l : i < length marks)
    (c : carries_pcr es (pid y.bytes) y ≡ true) (h : row_of es (pid y.bytes) ≡ Some i) where
  carries_eqb : (q : ℕ) → is_clock (kind_of es q) ≡ true → carries_pcr es q y ≡ eqb (pid y.bytes) q
  carries_eqb q k = elim (cases_Bool (eqb (pid y.bytes) q)) [
    | inl t ↦ subst (λ v. carries_pcr es v y ≡ true) (eqb-true (pid y.bytes) q t) c ∙ sym t
    | inr t ↦ ap (λ b. sound es y.bytes && (is_clock (kind_of es q) && (b && has_pcr y.bytes))) t ∙ none (sound es y.bytes) (is_clock (kind_of es q)) ∙ sym t
  ]
    where
      none : (a b : Bool) → (a && (b && false)) ≡ false
      none true true = refl
      none true false = refl
      none false b = refl

  step : (b : Bool) (o : Option Placed) (m : Option Mark) (x : Placed) →
      judged r (later o (recalled (cond b (Some (mark_of y)) m))) x ≡ judged r (later (later o (cond b (Some y) None)) (recalled m)) x
  step true None m x = judged_last r y x
  step true (Some z) m x = refl
  step false None m x = refl
  step false (Some z) m x = refl

  -- one with a clock value is kept as a mark
  pub recalls_more : (xs : List Placed) (x : Placed) → clock_from es r (set marks i (Some (mark_of y))) xs x ≡ clock_from es r marks (y ∷ xs) x
  recalls_more xs x =
      let q = pid x.bytes in
      elim (cases_Bool (carries_pcr es q x)) [
        | inr t ↦ cond-false (carries_pcr es q x) _ None t ∙ sym (cond-false (carries_pcr es q x) _ None t)
        | inl t ↦
            let k = (and_parts (is_clock (kind_of es q)) _ (and_parts (sound es x.bytes) _ t).1).0 in
            ap (λ m. cond (carries_pcr es q x) (judged r (later (last_pcr es q xs) (recalled m)) x) None) (at_set marks None (Some (mark_of y)) i l es (pid y.bytes) q h)
            ∙ ap (λ b. cond (carries_pcr es q x) (judged r (later (last_pcr es q xs) (recalled (cond b (Some (mark_of y)) (at marks None (row_of es q))))) x) None) (sym (carries_eqb q k))
            ∙ ap (λ v. cond (carries_pcr es q x) v None) (step (carries_pcr es q y) (last_pcr es q xs) (at marks None (row_of es q)) x)
      ]

-- a sound packet with a clock value, on a PID of that kind
pub carries_from : (es : List Entry) (place : ℕ) (p : Bytes) → sound es p ≡ true → kind_of es (pid p) ≡ Some Clock → has_pcr p ≡ true →
    carries_pcr es (pid p) (record { place = place; bytes = p }) ≡ true
carries_from es place p s k h =
    and_from (sound es p) _ s (and_from (is_clock (kind_of es (pid p))) _ (ap is_clock k) (and_from (eqb (pid p) (pid p)) _ (eq-eqb (pid p) (pid p) refl) h))

clock_listed : (o : Option Kind) → is_clock o ≡ true → listed o ≡ true
clock_listed None h = absurd (both_ways false refl h)
clock_listed (Some k) h = refl

pub carries_listed : (es : List Entry) (q : ℕ) (x : Placed) → carries_pcr es q x ≡ true → listed (kind_of es q) ≡ true
carries_listed es q x t = clock_listed (kind_of es q) (and_parts (is_clock (kind_of es q)) _ (and_parts (sound es x.bytes) _ t).1).0

-- what is found at a packet, by the mark in its row
pub recalls_here : (es : List Entry) (r : ℕ) (marks : List (Option Mark)) (y : Placed) (i : ℕ) → carries_pcr es (pid y.bytes) y ≡ true → row_of es (pid y.bytes) ≡ Some i →
    judged r (recalled (get_or marks i None)) (placed_of (mark_of y)) ≡ clock_from es r marks [] y
recalls_here es r marks y i c h =
    let q = pid y.bytes in
    judged_here r (recalled (get_or marks i None)) y
    ∙ sym (cond-true (carries_pcr es q y) (judged r (recalled (at marks None (row_of es q))) y) None c ∙ ap (λ o. judged r (recalled (at marks None o)) y) h)

-- nothing, at a packet without a clock value
pub recalls_nothing : (es : List Entry) (r : ℕ) (marks : List (Option Mark)) (y : Placed) → carries_pcr es (pid y.bytes) y ≡ false → None ≡ clock_from es r marks [] y
recalls_nothing es r marks y c = sym (cond-false (carries_pcr es (pid y.bytes) y) _ None c)
