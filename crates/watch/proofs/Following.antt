-- The phases of the sections watch stand for the packets that it has observed.
use Rattle.std.proofs.Common.{◌≡◌, ℕ, ◌<◌, Bool, true, false, cond, ◌&&◌, eqb, List, [], ◌∷◌, length, get_or, set, replicate, Some, None, Option, sym, refl, ap, ◌∙◌, subst, inl, inr}
use Rattle.std.proofs.lemmas.List.{get_or-replicate, get_or_past}
use Rattle.std.proofs.lemmas.Bool.{cases_Bool, cases_lt, cond-true, cond-false, and_parts, and_from, eqb-true, eq-eqb, both_ways}
use Rattle.model.specs.declared.entry.Entry.{Entry}
use Rattle.model.specs.declared.entry.Kind.{Kind}
use Rattle.model.specs.declared.entry.Kind.TheVariants.{Sections}
use Rattle.model.specs.Entries.{row_of, is_sections, kind_of, listed}
use Rattle.model.specs.Packet.{Bytes, pid, has_payload}
use Rattle.model.specs.Form.{sound}
use Rattle.model.specs.Runs.{Placed}
use Rattle.model.specs.Sections.{Phase, unstarted, carries, phase_from, advance, offence, sections_finding}
use Rattle.watch.specs.Tables.{at}
use Rattle.watch.specs.Phases.{sections_from}
use Rattle.watch.proofs.Rows.{at_set}

blank_at : (o : Option ℕ) → at {A = Phase} (replicate 16 unstarted) unstarted o ≡ unstarted
blank_at None = refl
blank_at (Some i) = elim (cases_lt i 16) [
  | inl l ↦ get_or-replicate 16 i unstarted unstarted l
  | inr l ↦ get_or_past (replicate 16 unstarted) i unstarted l
]

-- with no packet observed
pub follows_none : (es : List Entry) (xs : List Placed) (x : Placed) → sections_from es (replicate 16 unstarted) xs x ≡ sections_finding es xs x
follows_none es xs x =
    let q = pid x.bytes in
    ap (λ s. cond (carries es q x) (offence (phase_from es q s xs) (advance (phase_from es q s xs) x.bytes)) None) (blank_at (row_of es q))

carries_own : (es : List Entry) (q : ℕ) (y : Placed) → carries es (pid y.bytes) y ≡ false → carries es q y ≡ false
carries_own es q y h = elim (cases_Bool (carries es q y)) [
  | inr f ↦ f
  | inl t ↦
      let e = eqb-true (pid y.bytes) q (and_parts (eqb (pid y.bytes) q) _ (and_parts (is_sections (kind_of es q)) _ (and_parts (sound es y.bytes) _ t).1).1).0 in
      absurd (both_ways (carries es (pid y.bytes) y) h (subst (λ v. carries es v y ≡ true) (sym e) t))
]

-- a packet without section bytes changes nothing
pub follows_same : (es : List Entry) (phases : List Phase) (y : Placed) → carries es (pid y.bytes) y ≡ false →
    (xs : List Placed) (x : Placed) → sections_from es phases xs x ≡ sections_from es phases (y ∷ xs) x
follows_same es phases y h xs x =
    let q = pid x.bytes in
    let s = at phases unstarted (row_of es q) in
    let e : s ≡ cond (carries es q y) (advance s y.bytes) s = sym (cond-false (carries es q y) (advance s y.bytes) s (carries_own es q y h)) in
    ap (λ v. cond (carries es q x) (offence (phase_from es q v xs) (advance (phase_from es q v xs) x.bytes)) None) e

module _ (es : List Entry) (phases : List Phase) (y : Placed) (i : ℕ) (l : i < length phases)
    (c : carries es (pid y.bytes) y ≡ true) (h : row_of es (pid y.bytes) ≡ Some i) where
  -- the phase of the packet's row, and what it is after the packet
  abbrev old : Phase
  old = get_or phases i unstarted

  abbrev new : Phase
  new = advance old y.bytes

  step : (q : ℕ) → is_sections (kind_of es q) ≡ true → (b : Bool) → eqb (pid y.bytes) q ≡ b →
      cond b new (at phases unstarted (row_of es q)) ≡ cond (carries es q y) (advance (at phases unstarted (row_of es q)) y.bytes) (at phases unstarted (row_of es q))
  step q k true t =
      let e = eqb-true (pid y.bytes) q t in
      let r : row_of es q ≡ Some i = ap (row_of es) (sym e) ∙ h in
      let d : carries es q y ≡ true = subst (λ v. carries es v y ≡ true) e c in
      sym (cond-true (carries es q y) _ _ d ∙ ap (λ o. advance (at phases unstarted o) y.bytes) r)
  step q k false t =
      sym (cond-false (carries es q y) _ _ (ap (λ b. sound es y.bytes && (is_sections (kind_of es q) && (b && has_payload y.bytes))) t ∙ none (sound es y.bytes) (is_sections (kind_of es q))))
    where
      none : (a b : Bool) → (a && (b && false)) ≡ false
      none true true = refl
      none true false = refl
      none false b = refl

  -- one with section bytes takes the phase of its row on
  pub follows_more : (xs : List Placed) (x : Placed) → sections_from es (set phases i new) xs x ≡ sections_from es phases (y ∷ xs) x
  follows_more xs x =
      let q = pid x.bytes in
      elim (cases_Bool (carries es q x)) [
        | inr t ↦ cond-false (carries es q x) _ None t ∙ sym (cond-false (carries es q x) _ None t)
        | inl t ↦
            let k = (and_parts (is_sections (kind_of es q)) _ (and_parts (sound es x.bytes) _ t).1).0 in
            ap (λ v. cond (carries es q x) (offence (phase_from es q v xs) (advance (phase_from es q v xs) x.bytes)) None)
            (at_set phases unstarted new i l es (pid y.bytes) q h ∙ step q k (eqb (pid y.bytes) q) refl)
      ]

  -- what is found at the packet itself
  pub follows_here : offence old new ≡ sections_from es phases [] y
  follows_here =
      let q = pid y.bytes in
      sym (cond-true (carries es q y) _ None c ∙ ap (λ o. offence (at phases unstarted o) (advance (at phases unstarted o) y.bytes)) h)

-- nothing, at a packet without section bytes
pub follows_nothing : (es : List Entry) (phases : List Phase) (y : Placed) → carries es (pid y.bytes) y ≡ false → None ≡ sections_from es phases [] y
follows_nothing es phases y c = sym (cond-false (carries es (pid y.bytes) y) _ None c)

-- a sound packet with a payload, on a PID of that kind
pub carries_from : (es : List Entry) (place : ℕ) (p : Bytes) → sound es p ≡ true → kind_of es (pid p) ≡ Some Sections → has_payload p ≡ true →
    carries es (pid p) (record { place = place; bytes = p }) ≡ true
carries_from es place p s k h =
    and_from (sound es p) _ s (and_from (is_sections (kind_of es (pid p))) _ (ap is_sections k) (and_from (eqb (pid p) (pid p)) _ (eq-eqb (pid p) (pid p) refl) h))

sections_listed : (o : Option Kind) → is_sections o ≡ true → listed o ≡ true
sections_listed None h = absurd (both_ways false refl h)
sections_listed (Some k) h = refl

pub carries_listed : (es : List Entry) (q : ℕ) (x : Placed) → carries es q x ≡ true → listed (kind_of es q) ≡ true
carries_listed es q x t = sections_listed (kind_of es q) (and_parts (is_sections (kind_of es q)) _ (and_parts (sound es x.bytes) _ t).1).0
