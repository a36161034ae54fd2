-- What a row knows of the packets past is what the definitions ask of them.
use Rattle.std.proofs.Common.{◌≡◌, ℕ, ◌+◌, ◌%◌, Bool, true, false, cond, not, ◌&&◌, ◌||◌, eqb, List, [], ◌∷◌, Some, None, sym, refl, ap, ◌∙◌, inl, inr, zero-add, arith}
use Rattle.std.proofs.lemmas.Bool.{cases_Bool, cond-true, cond-false, and_from, eq-eqb, both_ways}
use Rattle.model.specs.declared.entry.Entry.{Entry}
use Rattle.model.specs.declared.rule.Rule.TheVariants.{Continuity}
use Rattle.model.specs.Packet.{Bytes, pid, has_payload, continuity_counter, has_pcr, is_null}
use Rattle.model.specs.Form.{sound, form}
use Rattle.model.specs.Runs.{same, precedes, copy, continues, counts, is_observed, counted}
use Rattle.model.specs.Watches.{basic}
use Rattle.model.specs.Breaches.{clocked}
use Rattle.model.specs.Rules.{numbered}
use Rattle.verdict.specs.declared.ledger.Row.{Row}
use Rattle.verdict.specs.declared.ledger.Judged.{Judged}
use Rattle.verdict.specs.Ledgers.{last_of, last_copy, RowKnows, Knows, Judges, copy_of, right_of, copy_by, right_by, noted_by}
use Rattle.model.specs.Tests.{or_else}

module _ (es : List Entry) (p : Bytes) where
  abbrev q0 : ℕ
  q0 = pid p

  copy_last : (before : List Bytes) → copy_of (last_of es before q0) (last_copy es before q0) p ≡ copy es before p
  copy_last [] = refl
  copy_last (q ∷ before) = elim (cases_Bool (precedes es q p)) [
    | inl h ↦ ap (λ o. copy_of o (last_copy es (q ∷ before) q0) p) (cond-true (precedes es q p) (Some q) (last_of es before q0) h)
        ∙ ap (λ b. copy_of (Some q) b p) (cond-true (precedes es q p) (copy es before q) (last_copy es before q0) h)
        ∙ sym (cond-true (precedes es q p) (same q p && (has_payload q && not (copy es before q))) (copy es before p) h)
    | inr h ↦ ap (λ o. copy_of o (last_copy es (q ∷ before) q0) p) (cond-false (precedes es q p) (Some q) (last_of es before q0) h)
        ∙ ap (λ b. copy_of (last_of es before q0) b p) (cond-false (precedes es q p) (copy es before q) (last_copy es before q0) h)
        ∙ copy_last before
        ∙ sym (cond-false (precedes es q p) (same q p && (has_payload q && not (copy es before q))) (copy es before p) h)
  ]

  right_last : (before : List Bytes) → right_of (last_of es before q0) (last_copy es before q0) p ≡ continues es before p
  right_last [] = refl
  right_last (q ∷ before) = elim (cases_Bool (precedes es q p)) [
    | inl h ↦ ap (λ o. right_of o (last_copy es (q ∷ before) q0) p) (cond-true (precedes es q p) (Some q) (last_of es before q0) h)
        ∙ ap (λ b. right_of (Some q) b p) (cond-true (precedes es q p) (copy es before q) (last_copy es before q0) h)
        ∙ ap (λ b. cond (has_payload p) (eqb (continuity_counter p) ((continuity_counter q + 1) % 16) || b) (eqb (continuity_counter p) (continuity_counter q))) (sym (cond-true (precedes es q p) (same q p && (has_payload q && not (copy es before q))) (copy es before p) h))
        ∙ sym (cond-true (precedes es q p) (cond (has_payload p) (eqb (continuity_counter p) ((continuity_counter q + 1) % 16) || copy es (q ∷ before) p) (eqb (continuity_counter p) (continuity_counter q))) (continues es before p) h)
    | inr h ↦ ap (λ o. right_of o (last_copy es (q ∷ before) q0) p) (cond-false (precedes es q p) (Some q) (last_of es before q0) h)
        ∙ ap (λ b. right_of (last_of es before q0) b p) (cond-false (precedes es q p) (copy es before q) (last_copy es before q0) h)
        ∙ right_last before
        ∙ sym (cond-false (precedes es q p) (cond (has_payload p) (eqb (continuity_counter p) ((continuity_counter q + 1) % 16) || copy es (q ∷ before) p) (eqb (continuity_counter p) (continuity_counter q))) (continues es before p) h)
  ]

  module _ (before : List Bytes) (row : Row) (k : RowKnows es before q0 row) where
    pub by_copy : copy_by row p ≡ copy es before p
    by_copy = ap (λ o. copy_of o row.copied p) k.last ∙ ap (λ b. copy_of (last_of es before q0) b p) k.copied ∙ copy_last before

    pub by_right : right_by row p ≡ continues es before p
    by_right = ap (λ o. right_of o row.copied p) k.last ∙ ap (λ b. right_of (last_of es before q0) b p) k.copied ∙ right_last before

    module _ (s : sound es p ≡ true) where
      mine : (sound es p && eqb (pid p) q0) ≡ true
      mine = and_from (sound es p) (eqb (pid p) q0) s (eq-eqb (pid p) q0 refl)

      tally_more : (t c : ℕ) → t ≡ c % 16 → (b : Bool) → cond b ((t + 1) % 16) t ≡ (cond b 1 0 + c) % 16
      tally_more t c e true = let z : (t + 1) % 16 ≡ (1 + c) % 16 = omega arith in z
      tally_more t c e false = e ∙ ap (λ x. x % 16) (sym (zero-add c))

      counts_is : (eqb (pid p) q0 && counts es before p) ≡ (has_payload p && not (copy_by row p))
      counts_is = rw (eq-eqb (pid p) q0 refl, s, by_copy)

      or_flip : (a b : Bool) → (a || b) ≡ (b || a)
      or_flip true true = refl
      or_flip true false = refl
      or_flip false true = refl
      or_flip false false = refl

      pub knows_mine : RowKnows es (p ∷ before) q0 (noted_by row p)
      knows_mine = record {
        last = sym (cond-true (sound es p && eqb (pid p) q0) (Some p) (last_of es before q0) mine);
        copied = by_copy ∙ sym (cond-true (sound es p && eqb (pid p) q0) (copy es before p) (last_copy es before q0) mine);
        tallied = tally_more row.tally (counted es q0 before) k.tallied (has_payload p && not (copy_by row p)) ∙ ap (λ b. (cond b 1 0 + counted es q0 before) % 16) (sym counts_is);
        clock = or_flip row.clocked (has_pcr p) ∙ ap (λ b. has_pcr p || b) k.clock ∙ ap (λ b. b || clocked es before q0) (let z : has_pcr p ≡ (sound es p && (eqb (pid p) q0 && has_pcr p)) = rw (s, eq-eqb (pid p) q0 refl) in z);
      }

      judged : is_null p ≡ false → form es p ≡ None → (r : Judged) → r ≡ record { rule = cond (right_by row p) None (Some Continuity); observed = not (copy_by row p) } → (numbered r.rule ≡ basic es before p) × (r.observed ≡ is_observed es before p)
      judged nn f r e = (
        ap (λ x. numbered x.rule) e ∙ numbers (right_by row p) ∙ ap (λ b. cond (not b) (Some 25) None) by_right
            ∙ sym (ap (λ o. or_else o (cond (not (is_null p) && not (continues es before p)) (Some 25) None)) f ∙ ap (λ b. cond (not b && not (continues es before p)) (Some 25) None) nn),
        ap (λ x. x.observed) e ∙ ap not by_copy ∙ sym (rw (s, nn)),
      )
        where
          numbers : (b : Bool) → numbered (cond b None (Some Continuity)) ≡ cond (not b) (Some 25) None
          numbers true = refl
          numbers false = refl

      pub judges_mine : is_null p ≡ false → form es p ≡ None → (r : Judged) → r ≡ record { rule = cond (right_by row p) None (Some Continuity); observed = not (copy_by row p) } → (rows : List Row) → Knows es (p ∷ before) rows → Judges es before p r rows
      judges_mine nn f r e rows h = let j = judged nn f r e in record { rule = j.0; observed = j.1; knows = h }

  -- the row of another PID, or of any where p is not sound
  pub knows_other : (before : List Bytes) (q : ℕ) (row : Row) → (sound es p && eqb (pid p) q) ≡ false → RowKnows es before q row → RowKnows es (p ∷ before) q row
  knows_other before q row h k = record {
    last = k.last ∙ sym (cond-false (sound es p && eqb (pid p) q) (Some p) (last_of es before q) h);
    copied = k.copied ∙ sym (cond-false (sound es p && eqb (pid p) q) (copy es before p) (last_copy es before q) h);
    tallied = k.tallied ∙ ap (λ x. x % 16) (sym (zero-add (counted es q before)) ∙ ap (λ b. cond b 1 0 + counted es q before) (sym (no_count (sound es p) (eqb (pid p) q) (has_payload p && not (copy es before p)) h)));
    clock = k.clock ∙ ap (λ b. b || clocked es before q) (sym (no_clock (sound es p) (eqb (pid p) q) (has_pcr p) h));
  }
    where
      no_count : (a b c : Bool) → (a && b) ≡ false → (b && (a && c)) ≡ false
      no_count true true c x = absurd (both_ways true x refl)
      no_count true false c x = refl
      no_count false true c x = refl
      no_count false false c x = refl

      no_clock : (a b c : Bool) → (a && b) ≡ false → (a && (b && c)) ≡ false
      no_clock true true c x = absurd (both_ways true x refl)
      no_clock true false c x = refl
      no_clock false b c x = refl
