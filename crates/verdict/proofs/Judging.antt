-- A packet judged by the rows.
use Rattle.std.proofs.Common.{◌≡◌, ℕ, ◌<◌, ◌≤◌, true, false, cond, not, ◌&&◌, eqb, List, ◌∷◌, length, get_or, set, Some, None, sym, ap, ◌∙◌, subst, inl, inr, arith, get_or-set_other, get_or-set_same}
use Rattle.std.proofs.lemmas.Bool.{cases_Bool, cases_eq, and_left, and_right, eqb-true, ne_eqb, both_ways}
use Rattle.model.specs.declared.entry.Entry.{Entry}
use Rattle.model.specs.declared.entry.Kind.TheVariants.{Pes}
use Rattle.model.specs.declared.rule.Rule.{Rule}
use Rattle.model.specs.declared.rule.Rule.TheVariants.{Continuity}
use Rattle.model.specs.Packet.{Bytes, pid, is_null}
use Rattle.model.specs.Entries.{lawful, row_of}
use Rattle.model.specs.Form.{sound, form}
use Rattle.model.specs.Runs.{copy, continues}
use Rattle.model.specs.Rules.{rule_number}
use Rattle.laws.proofs.SoundForm.{sound_listed}
use Rattle.verdict.specs.declared.ledger.Row.{Row}
use Rattle.verdict.specs.declared.ledger.Judged.{Judged}
use Rattle.verdict.specs.Ledgers.{RowKnows, Knows, Judges, copy_by, right_by, noted_by}
use Rattle.verdict.proofs.Entries.{low_pid, same_row}
use Rattle.verdict.proofs.Rows.{knows_other, knows_mine, judges_mine}
use Rattle.verdict.specs.Going.{unlisted, row, rows}
use Rattle.model.specs.Tests.{is_none, or_else}

module _ (es : List Entry) (legal : lawful es ≡ true) (p : Bytes) (before : List Bytes) (table : List Row) (k : Knows es before table) where
  -- p breaks a rule of form
  pub judges_broken : (r : Rule) → Some (rule_number r) ≡ form es p → Judges es before p (record { rule = Some r; observed = false }) table
  judges_broken r f =
      let s : sound es p ≡ false = ap is_none (sym f) in
      record {
        rule = ap (λ o. or_else o (cond (not (is_null p) && not (continues es before p)) (Some 25) None)) f;
        observed = sym (and_left (sound es p) (not (is_null p) && not (copy es before p)) s);
        knows = λ i e d l. knows_other es p before (get_or es i e).pid (get_or table i d) (and_left (sound es p) (eqb (pid p) (get_or es i e).pid) s) (k i e d l);
      }

  module _ (f : None ≡ form es p) where
    whole : sound es p ≡ true
    whole = ap is_none (sym f)

    -- p is sound and of no row: a null packet
    pub judges_null : is_null p ≡ true → Judges es before p (record { rule = None; observed = false }) table
    judges_null z =
        let q : pid p ≡ 8191 = eqb-true (pid p) 8191 z in
        record {
          rule = sym (ap (λ o. or_else o (cond (not (is_null p) && not (continues es before p)) (Some 25) None)) (sym f) ∙ ap (λ b. cond (not b && not (continues es before p)) (Some 25) None) z);
          observed = sym (and_right (sound es p) (not (is_null p) && not (copy es before p)) (and_left (not (is_null p)) (not (copy es before p)) (ap not z)));
          knows = λ i e d l. knows_other es p before (get_or es i e).pid (get_or table i d)
              (and_right (sound es p) (eqb (pid p) (get_or es i e).pid) (ne_eqb (pid p) (get_or es i e).pid (λ h. let o = low_pid es legal i e l in other (get_or es i e).pid (pid p) h q o))) (k i e d l);
        }
      where
        other : (a b : ℕ) → b ≡ a → b ≡ 8191 → a ≤ 8190 → ⊥
        other a b h q o = omega arith

    pub no_row_null : None ≡ row_of es (pid p) → is_null p ≡ true
    no_row_null h = elim (cases_Bool (is_null p)) [
      | inl z ↦ z
      | inr z ↦ elim (rows es (pid p)) [
        | unlisted a b ↦ absurd (both_ways _ b (sound_listed es p whole z))
        | row i a l e ↦ absurd (never (h ∙ a))
      ]
    ]
      where
        never : {r : ℕ} → None ≡ Some r → ⊥
        never {r} h = let z : ◌≡◌ {A = ℕ} 0 1 = cc in omega arith

    pub row_place : (i : ℕ) → Some i ≡ row_of es (pid p) → (i < length es) × ((e : Entry) → (get_or es i e).pid ≡ pid p)
    row_place i h = elim (rows es (pid p)) [
      | unlisted a b ↦ absurd (never (h ∙ a))
      | row j a l e ↦ let s : j ≡ i = same_some (sym a ∙ sym h) in (subst (λ x. x < length es) s l, subst (λ x. (d : Entry) → (get_or es x d).pid ≡ pid p) s e)
    ]
      where
        never : {r : ℕ} → Some r ≡ None → ⊥
        never {r} h = let z : ◌≡◌ {A = ℕ} 0 1 = cc in omega arith

        same_some : {a b : ℕ} → Some a ≡ Some b → a ≡ b
        same_some {a} {b} h = cc

    -- p has the row i, which d0 reads where there is none
    pub judges_row : (i : ℕ) → Some i ≡ row_of es (pid p) → i < length table → (d0 : Row) (r : Judged) (new : Row) → r ≡ record { rule = cond (right_by (get_or table i d0) p) None (Some Continuity); observed = not (copy_by (get_or table i d0) p) } → new ≡ noted_by (get_or table i d0) p → Judges es before p r (set table i new)
    judges_row i h m d0 r new e w =
        let at = row_place i h in
        let d : Entry = record { pid = 0; kind = Pes } in
        let low = low_pid es legal i d at.0 in
        let own : RowKnows es before (pid p) (get_or table i d0) = subst (λ q. RowKnows es before q (get_or table i d0)) (at.1 d) (k i d d0 at.0) in
        let mine : RowKnows es (p ∷ before) (pid p) new = subst (λ x. RowKnows es (p ∷ before) (pid p) x) (sym w) (knows_mine es p before (get_or table i d0) own whole) in
        judges_mine es p before (get_or table i d0) own whole (ne_eqb (pid p) 8191 (λ z. high (get_or es i d).pid (pid p) (at.1 d) z low)) (sym f) r e (set table i new)
        (λ j c x l. elim (cases_eq j i) [
          | inl q ↦ subst (λ y. RowKnows es (p ∷ before) y (get_or (set table i new) j x)) (sym (ap (λ y. (get_or es y c).pid) q ∙ at.1 c))
              (subst (λ y. RowKnows es (p ∷ before) (pid p) y) (sym (ap (λ y. get_or (set table i new) y x) q ∙ get_or-set_same table i new x m)) mine)
          | inr q ↦ subst (λ y. RowKnows es (p ∷ before) (get_or es j c).pid y) (sym (get_or-set_other table i j new x q))
              (knows_other es p before (get_or es j c).pid (get_or table j x)
              (and_right (sound es p) (eqb (pid p) (get_or es j c).pid) (ne_eqb (pid p) (get_or es j c).pid (λ z. q (same_row es legal j i c l at.0 (sym z ∙ sym (at.1 c))))))
              (k j c x l))
        ])
      where
        high : (a b : ℕ) → a ≡ b → b ≡ 8191 → a ≤ 8190 → ⊥
        high a b x y z = omega arith
