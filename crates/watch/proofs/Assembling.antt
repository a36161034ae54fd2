-- A section takes on one byte after the other.
use Rattle.std.proofs.Common.{Ok, Err, Result, ◌≡◌, ℕ, ◌+◌, ◌-◌, ◌*◌, ◌%◌, ◌<◌, ◌≤◌, cond, ◌&&◌, eqb, leb, ◌≢◌, [], ◌∷◌, ◌++◌, length, take, set, sym, refl, ap, ◌∙◌, inl, inr, arith}
use borrow.Rule.Slice.PartMut.{mid_of}
use Rattle.std.proofs.lemmas.List.{take_more_set, length-take-le, length-set, get_or-take, get_or-set_other}
use Rattle.std.proofs.lemmas.Bool.{cases_Bool, cases_lt, cond-true, cond-false, and_parts, leb-true, eq-eqb, ne_eqb}
use Rattle.model.specs.Packet.{Bytes, byte}
use Rattle.model.specs.Crc.{crc32}
use Rattle.model.specs.Sections.{Reading, section_length, grown, section, ended, wrong}
use Rattle.model.specs.declared.rule.Rule.{Rule}
use Rattle.watch.specs.declared.sections.progress.Progress.{Progress}
use Rattle.watch.specs.declared.sections.progress.Progress.TheVariants.{Open, Ended, Filling}
use Rattle.watch.specs.declared.sections.section.Section.{Section}
use Rattle.watch.specs.Readings.{reading_of}

zero_one : ◌≡◌ {A = ℕ} 0 1 → ⊥
zero_one h = omega arith

section_wrong : (u : Bytes) (r : ℕ) → ◌≡◌ {A = Reading} (wrong r) (section u) → ⊥
section_wrong u r h = zero_one (cc)

section_ended : (u : Bytes) → ◌≡◌ {A = Reading} ended (section u) → ⊥
section_ended u h = zero_one (cc)

-- what is known of a section that its third byte leaves open
open_third : (u : Bytes) → length u ≡ 3 → grown u ≡ section u → (9 ≤ section_length u) × (section_length u ≤ 1021)
open_third u l h =
    let test = leb 9 (section_length u) && leb (section_length u) 1021 in
    let e : cond test (section u) (wrong 28) ≡ section u =
    sym (cond-false (eqb (length u) 1) _ _ (ne_eqb (length u) 1 (λ z. omega arith))
    ∙ cond-false (eqb (length u) 2) _ _ (ne_eqb (length u) 2 (λ z. omega arith))
    ∙ cond-true (eqb (length u) 3) _ _ (eq-eqb (length u) 3 l)) ∙ h in
    elim (cases_Bool test) [
      | inl t ↦ let g = and_parts (leb 9 (section_length u)) _ t in (leb-true 9 (section_length u) g.0, leb-true (section_length u) 1021 g.1)
      | inr t ↦ absurd (section_wrong u 28 (sym (cond-false test (section u) (wrong 28) t) ∙ e))
    ]

-- a later byte leaves a section open only if it is not the last
open_later : (u : Bytes) → 4 ≤ length u → grown u ≡ section u → length u ≡ 3 + section_length u → ⊥
open_later u l h g =
    let e : cond (eqb (crc32 u) 0) ended (wrong 29) ≡ section u =
    sym (cond-false (eqb (length u) 1) _ _ (ne_eqb (length u) 1 (λ z. omega arith))
    ∙ cond-false (eqb (length u) 2) _ _ (ne_eqb (length u) 2 (λ z. omega arith))
    ∙ cond-false (eqb (length u) 3) _ _ (ne_eqb (length u) 3 (λ z. omega arith))
    ∙ cond-true (eqb (length u) (3 + section_length u)) _ _ (eq-eqb (length u) (3 + section_length u) g)) ∙ h in
    elim (cases_Bool (eqb (crc32 u) 0)) [
      | inl t ↦ section_ended u (sym (cond-true (eqb (crc32 u) 0) ended (wrong 29) t) ∙ e)
      | inr t ↦ section_wrong u 29 (sym (cond-false (eqb (crc32 u) 0) ended (wrong 29) t) ∙ e)
    ]

-- section_length stands in the first three bytes
pub length_in_front : (n : ℕ) (b : Bytes) → 3 ≤ n → section_length (take n b) ≡ section_length b
length_in_front n b h =
    ap (λ x. x % 16 * 256 + byte (take n b) 2) (get_or-take n b 1 0 (omega arith)) ∙ ap (λ x. byte b 1 % 16 * 256 + x) (get_or-take n b 2 0 (omega arith))

length_kept : (b : Bytes) (n v : ℕ) → 3 ≤ n → section_length (set b n v) ≡ section_length b
length_kept b n v h =
    ap (λ x. x % 16 * 256 + byte (set b n v) 2) (get_or-set_other b n 1 v 0 (λ e. omega arith)) ∙ ap (λ x. byte b 1 % 16 * 256 + x) (get_or-set_other b n 2 v 0 (λ e. omega arith))

-- an open section has room
pub room : (s : Section) → s.len < 1024
room s = elim (cases_lt s.len 3) [
  | inl l ↦ omega arith
  | inr l ↦ let u = s.unfinished l in let a = u.0 in let b = u.1 in omega arith
]

-- the byte v put after the bytes of s
module _ (s : Section) (v : ℕ) where
  abbrev pub after : Bytes
  after = set s.buffer s.len v

  within : s.len < length s.buffer
  within = let r = room s in let l = s.long in omega arith

  abbrev pub more : Bytes
  more = mid_of 0 (s.len + 1 - 0) after

  one_more : s.len + 1 - 0 ≡ s.len + 1
  one_more = omega arith

  pushed : more ≡ take s.len s.buffer ++ v ∷ []
  pushed = ap (λ k. take k after) one_more ∙ take_more_set s.buffer s.len v within

  pub long_after : length after ≡ 1024
  long_after = length-set s.buffer s.len v ∙ s.long

  more_length : length more ≡ s.len + 1
  more_length = ap (λ k. length (take k after)) one_more ∙ length-take-le (s.len + 1) after (let w = room s in let l = long_after in omega arith)

  more_section_length : 3 ≤ s.len + 1 → section_length more ≡ section_length after
  more_section_length h = ap (λ k. section_length (take k after)) one_more ∙ length_in_front (s.len + 1) after h

  -- where it leaves the section open
  pub still_unfinished : grown more ≡ section more → 3 ≤ s.len + 1 → (s.len + 1 < 3 + section_length after) × (section_length after ≤ 1021)
  still_unfinished g h =
      let e = more_section_length h in
      let l = more_length in
      elim (cases_lt s.len 3) [
        | inl k ↦
            let t = open_third more (omega arith) g in
            let a = t.0 in let b = t.1 in
            (omega arith, omega arith)
        | inr k ↦
            let o = s.unfinished k in
            let a = o.0 in let b = o.1 in
            let f = length_kept s.buffer s.len v k in
            let n : length more ≢ 3 + section_length more = open_later more (omega arith) g in
            (elim (cases_lt (s.len + 1) (3 + section_length after)) [ inl y ↦ y | inr y ↦ absurd (n (omega arith)) ], omega arith)
      ]

  module _ (p : Result Progress Rule) (m : ℕ) (h : reading_of p more ≡ grown more) where
    pub push_open : m ≡ s.len + 1 → reading_of p (take m after) ≡ grown (take s.len s.buffer ++ v ∷ [])
    push_open e = ap (λ k. reading_of p (take k after)) (e ∙ sym one_more) ∙ h ∙ ap grown pushed

    pub push_other : (p ≡ Ok Open → ⊥) → reading_of p (take m after) ≡ grown (take s.len s.buffer ++ v ∷ [])
    push_other n = alike p n (take m after) more ∙ h ∙ ap grown pushed
      where
        alike : (p : Result Progress Rule) → (p ≡ Ok Open → ⊥) → (u w : Bytes) → reading_of p u ≡ reading_of p w
        alike (Ok Open) n u w = absurd (n refl)
        alike (Ok Ended) n u w = refl
        alike (Ok Filling) n u w = refl
        alike (Err r) n u w = refl
