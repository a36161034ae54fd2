-- Rule 31 by the rows.
use Rattle.std.proofs.Common.{◌≡◌, ℕ, zero, suc, ◌<◌, Bool, true, false, not, ◌&&◌, ◌||◌, List, [], ◌∷◌, length, get_or, Some, sym, refl, ap, ◌∙◌, suc-le-suc, zero-le, le_of_suc-le-suc, arith}
use Rattle.std.proofs.lemmas.Bool.{and_left, and_right, and_from}
use Rattle.model.specs.declared.entry.Entry.{Entry}
use Rattle.model.specs.Packet.{Bytes}
use Rattle.model.specs.Entries.{is_clock}
use Rattle.model.specs.Breaches.{clocked, all_clocked}
use Rattle.verdict.specs.declared.ledger.Row.{Row}
use Rattle.verdict.specs.Ledgers.{lacks, Knows}

module _ (es : List Entry) (before : List Bytes) where
  abbrev has : Entry → Bool
  has e = not (is_clock (Some e.kind)) || clocked es before e.pid

  all_false : (os : List Entry) (i : ℕ) (d : Entry) → i < length os → has (get_or os i d) ≡ false → all_clocked es os before ≡ false
  all_false [] i d l h = absurd (let z : i < 0 = l in omega arith)
  all_false (o ∷ os) zero d l h = and_left (has o) (all_clocked es os before) h
  all_false (o ∷ os) (suc i) d l h = and_right (has o) (all_clocked es os before) (all_false os i d (le_of_suc-le-suc l) h)

  all_true : (os : List Entry) → ((i : ℕ) (d : Entry) → i < length os → has (get_or os i d) ≡ true) → all_clocked es os before ≡ true
  all_true [] h = refl
  all_true (o ∷ os) h = and_from (has o) (all_clocked es os before) (h 0 o (suc-le-suc zero-le)) (all_true os (λ i d l. h (suc i) d (suc-le-suc l)))

  -- the other way round of lacks
  turned : (a b : Bool) → (not a || b) ≡ not (a && not b)
  turned true true = refl
  turned true false = refl
  turned false b = refl

  module _ (rows : List Row) (k : Knows es before rows) where
    has_is : (i : ℕ) (e : Entry) (row : Row) → i < length es → has (get_or es i e) ≡ not (lacks (get_or es i e) (get_or rows i row))
    has_is i e row l = ap (λ b. not (is_clock (Some (get_or es i e).kind)) || b) (sym (k i e row l).clock) ∙ turned (is_clock (Some (get_or es i e).kind)) (get_or rows i row).clocked

    pub one_lacks : (i : ℕ) (e : Entry) (row : Row) → i < length es → lacks (get_or es i e) (get_or rows i row) ≡ true → false ≡ all_clocked es es before
    one_lacks i e row l h = sym (all_false es i e l (has_is i e row l ∙ ap not h))

    pub none_lacks : Row → ((i : ℕ) (e : Entry) (row : Row) → i < length es → lacks (get_or es i e) (get_or rows i row) ≡ false) → true ≡ all_clocked es es before
    none_lacks row h = sym (all_true es (λ i e l. has_is i e row l ∙ ap not (h i e row l)))
