-- Copies and tallies over the seam between two rounds.
use Rattle.std.proofs.Common.{◌≡◌, ℕ, zero, suc, ◌+◌, ◌%◌, ◌<◌, Bool, true, false, cond, not, ◌&&◌, ◌||◌, eqb, List, [], ◌∷◌, sym, refl, ap, ◌∙◌, inl, inr, arith}
use Rattle.std.proofs.lemmas.Bool.{cases_Bool, cond-true, cond-false, and_parts, or_parts, or_right, or_left, both_ways, cases_lt}
use Rattle.model.specs.declared.entry.Entry.{Entry}
use Rattle.model.specs.Packet.{Bytes, pid, continuity_counter, has_payload}
use Rattle.model.specs.Form.{sound}
use Rattle.model.specs.Runs.{same, precedes, copy, continues, counts, counted, before}
use Rattle.laws.proofs.Rounds.{same_true}

module _ (es : List Entry) where
  -- whether p has a predecessor, and the counter of the last of PID x
  abbrev pub has_pred : List Bytes → Bytes → Bool
  has_pred [] p = false
  has_pred (q ∷ xs) p = precedes es q p || has_pred xs p

  abbrev pub last_counter : List Bytes → ℕ → ℕ
  last_counter [] x = 0
  last_counter (q ∷ xs) x = cond (sound es q && eqb (pid q) x) (continuity_counter q) (last_counter xs x)

  pub copy_none : (xs : List Bytes) (p : Bytes) → has_pred xs p ≡ false → copy es xs p ≡ false
  copy_none [] p h = refl
  copy_none (q ∷ xs) p h =
      let e = or_parts (precedes es q p) (has_pred xs p) h in
      cond-false (precedes es q p) _ _ e.0 ∙ copy_none xs p e.1

  -- a copy has its predecessor's counter, and a payload
  pub copy_tells : (xs : List Bytes) (p : Bytes) → copy es xs p ≡ true → (continuity_counter p ≡ last_counter xs (pid p)) × (has_payload p ≡ true)
  copy_tells [] p h = absurd (both_ways false refl h)
  copy_tells (q ∷ xs) p h = elim (cases_Bool (precedes es q p)) [
    | inl k ↦
        let a : (same q p && (has_payload q && not (copy es xs q))) ≡ true = sym (cond-true (precedes es q p) _ _ k) ∙ h in
        let e : q ≡ p = same_true q p (and_parts (same q p) _ a).0 in (
          ap continuity_counter (sym e) ∙ sym (cond-true (precedes es q p) (continuity_counter q) (last_counter xs (pid p)) k),
          ap has_payload (sym e) ∙ (and_parts (has_payload q) _ (and_parts (same q p) _ a).1).0,
        )
    | inr k ↦
        let a : copy es xs p ≡ true = sym (cond-false (precedes es q p) _ _ k) ∙ h in
        let r = copy_tells xs p a in
        (r.0 ∙ sym (cond-false (precedes es q p) (continuity_counter q) (last_counter xs (pid p)) k), r.1)
  ]

  pub continues_tells : (xs : List Bytes) (p : Bytes) → has_pred xs p ≡ true → continues es xs p ≡ true →
      cond (has_payload p) (eqb (continuity_counter p) ((last_counter xs (pid p) + 1) % 16) || copy es xs p) (eqb (continuity_counter p) (last_counter xs (pid p))) ≡ true
  continues_tells [] p g h = absurd (both_ways false refl g)
  continues_tells (q ∷ xs) p g h = elim (cases_Bool (precedes es q p)) [
    | inl k ↦
        let e : last_counter (q ∷ xs) (pid p) ≡ continuity_counter q = cond-true (precedes es q p) (continuity_counter q) (last_counter xs (pid p)) k in
        ap (λ x. cond (has_payload p) (eqb (continuity_counter p) ((x + 1) % 16) || copy es (q ∷ xs) p) (eqb (continuity_counter p) x)) e ∙ sym (cond-true (precedes es q p) _ (continues es xs p) k) ∙ h
    | inr k ↦
        let e : last_counter (q ∷ xs) (pid p) ≡ last_counter xs (pid p) = cond-false (precedes es q p) (continuity_counter q) (last_counter xs (pid p)) k in
        let f : copy es (q ∷ xs) p ≡ copy es xs p = cond-false (precedes es q p) _ _ k in
        let h2 : continues es xs p ≡ true = sym (cond-false (precedes es q p) _ (continues es xs p) k) ∙ h in
        let g2 : has_pred xs p ≡ true = rw k at g in
        ap (λ x. cond (has_payload p) (eqb (continuity_counter p) ((x + 1) % 16) || copy es (q ∷ xs) p) (eqb (continuity_counter p) x)) e
        ∙ ap (λ x. cond (has_payload p) (eqb (continuity_counter p) ((last_counter xs (pid p) + 1) % 16) || x) (eqb (continuity_counter p) (last_counter xs (pid p)))) f
        ∙ continues_tells xs p g2 h2
  ]

  -- with no packet of the PID nothing counts
  pub counted_none : (xs : List Bytes) (p : Bytes) → has_pred xs p ≡ false → counted es (pid p) xs ≡ 0
  counted_none [] p h = refl
  counted_none (q ∷ xs) p h =
      let e = or_parts (precedes es q p) (has_pred xs p) h in
      let r : counted es (pid p) xs ≡ 0 = counted_none xs p e.1 in
      let f : (eqb (pid q) (pid p) && counts es xs q) ≡ false = swap_and (sound es q) (eqb (pid q) (pid p)) (has_payload q && not (copy es xs q)) e.0 in
      rw (f, r)
    where
      swap_and : (a b c : Bool) → (a && b) ≡ false → (b && (a && c)) ≡ false
      swap_and true true c h = absurd (both_ways true h refl)
      swap_and true false c h = refl
      swap_and false true c h = refl
      swap_and false false c h = refl

  -- a place among those before
  pub pred_at : (f : ℕ → Bytes) (k i : ℕ) (p : Bytes) → i < k → precedes es (f i) p ≡ true → has_pred (before f k) p ≡ true
  pred_at f zero i p h e = absurd (none i h)
    where
      none : (i : ℕ) → i < zero → ⊥
      none i h = omega arith
  pred_at f (suc k) i p h e = elim (cases_lt i k) [
    | inl l ↦ or_right (precedes es (f k) p) _ (pred_at f k i p l e)
    | inr l ↦ let same_place : i ≡ k = omega arith in or_left (precedes es (f k) p) _ (ap (λ x. precedes es (f x) p) (sym same_place) ∙ e)
  ]
