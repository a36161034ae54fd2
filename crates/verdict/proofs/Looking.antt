-- One packet more: what is found at it, and what is then known.
use Rattle.std.proofs.Common.{◌≡◌, ℕ, suc, ◌+◌, true, false, List, [], ◌∷◌, ◌++◌, Some, None, Option, sym, refl, ap, ◌∙◌, subst, append_assoc, add-one}
use Rattle.std.proofs.lemmas.List.{append-nil}
use Rattle.std.proofs.lemmas.Bool.{cond-true, cond-false}
use Rattle.model.specs.declared.entry.Entry.{Entry}
use Rattle.model.specs.declared.rule.Rule.{Rule}
use Rattle.model.specs.Packet.{Bytes}
use Rattle.model.specs.Runs.{Packets, Placed, run, past, observed, is_observed}
use Rattle.model.specs.Watches.{Finding, basic, breach, found}
use Rattle.model.specs.Rules.{numbered, rule_number}
use Rattle.verdict.specs.declared.ledger.Row.{Row}
use Rattle.verdict.specs.declared.ledger.Judged.{Judged}
use Rattle.verdict.specs.Ledgers.{Judges, State}
use Rattle.model.specs.Tests.{or_else}

abbrev pub at : ℕ → Bytes → Placed
at k p = record { place = k; bytes = p }

module _ (es : List Entry) (T : ℕ) (f : Finding) (ps : Packets) (k : ℕ) where
  abbrev p0 : Bytes
  p0 = run es T ps k

  abbrev before : List Bytes
  before = past es T ps k

  rule_basic : (j : Judged) (rows2 : List Row) → Judges es before p0 j rows2 → (o : Option Rule) → j.rule ≡ o → basic es before p0 ≡ numbered o
  rule_basic j rows2 h o e = sym h.rule ∙ ap numbered e

  broken : (j : Judged) (rows2 : List Row) → Judges es before p0 j rows2 → (r : Rule) → j.rule ≡ Some r → Some (rule_number r) ≡ breach es T f ps k
  broken j rows2 h r e = sym (ap (λ v. or_else v (found es T f ps k)) (rule_basic j rows2 h (Some r) e))

  breach_found : (j : Judged) (rows2 : List Row) → Judges es before p0 j rows2 → j.rule ≡ None → breach es T f ps k ≡ found es T f ps k
  breach_found j rows2 h e = ap (λ v. or_else v (found es T f ps k)) (rule_basic j rows2 h None e)

  observed_found : is_observed es before p0 ≡ true → found es T f ps k ≡ f (observed es T ps k) (at k p0)
  observed_found h = cond-true (is_observed es before p0) _ None h

  untold_found : is_observed es before p0 ≡ false → found es T f ps k ≡ None
  untold_found h = cond-false (is_observed es before p0) (f (observed es T ps k) (at k p0)) None h

  observed_next : is_observed es before p0 ≡ true → observed es T ps (suc k) ≡ observed es T ps k ++ at k p0 ∷ []
  observed_next h = cond-true (is_observed es before p0) (observed es T ps k ++ at k p0 ∷ []) (observed es T ps k) h

  untold_next : is_observed es before p0 ≡ false → observed es T ps (suc k) ≡ observed es T ps k
  untold_next h = cond-false (is_observed es before p0) (observed es T ps k ++ at k p0 ∷ []) (observed es T ps k) h

  module _ (rows : List Row) (g : Finding) (s : State es T f ps k rows g) (j : Judged) (rows2 : List Row) where
    tell_here : Judges es before p0 j rows2 → j.rule ≡ None → j.observed ≡ true → (n : Option ℕ) → n ≡ g [] (at k p0) → n ≡ breach es T f ps k
    tell_here h e t n a =
        a ∙ s.heard [] (at k p0) ∙ ap (λ x. f x (at k p0)) (append-nil (observed es T ps k))
        ∙ sym (observed_found (sym h.observed ∙ t)) ∙ sym (breach_found j rows2 h e)

    tell_state : Judges es before p0 j rows2 → j.observed ≡ true → (g2 : Finding) → ((xs : List Placed) (x : Placed) → g2 xs x ≡ g (at k p0 ∷ xs) x) → State es T f ps (suc k) rows2 g2
    tell_state h t g2 l = record {
      knows = h.knows;
      heard = λ xs x. l xs x ∙ s.heard (at k p0 ∷ xs) x
          ∙ ap (λ v. f v x) (sym (append_assoc (observed es T ps k) (at k p0 ∷ []) xs) ∙ ap (λ v. v ++ xs) (sym (observed_next (sym h.observed ∙ t))));
    }

    pass_here : Judges es before p0 j rows2 → j.rule ≡ None → j.observed ≡ false → None ≡ breach es T f ps k
    pass_here h e t = sym (untold_found (sym h.observed ∙ t)) ∙ sym (breach_found j rows2 h e)

    pass_state : Judges es before p0 j rows2 → j.observed ≡ false → State es T f ps (suc k) rows2 g
    pass_state h t = record {
      knows = h.knows;
      heard = λ xs x. s.heard xs x ∙ ap (λ v. f (v ++ xs) x) (sym (untold_next (sym h.observed ∙ t)));
    }

    -- over the packet as it was fetched
    module _ (p : Bytes) (q : run es T ps k ≡ p) (h : Judges es before p j rows2) where
      h0 : Judges es before p0 j rows2
      h0 = subst (λ x. Judges es before x j rows2) (sym q) h

      pub look_broken : (r : Rule) → j.rule ≡ Some r → Some (rule_number r) ≡ breach es T f ps k
      look_broken r e = broken j rows2 h0 r e

      pub look_observed : j.rule ≡ None → j.observed ≡ true → (n : Option ℕ) → n ≡ g [] (at k p) → n ≡ breach es T f ps k
      look_observed e t n a = tell_here h0 e t n (a ∙ ap (λ x. g [] (at k x)) (sym q))

      pub next_observed : j.observed ≡ true → (g2 : Finding) → ((xs : List Placed) (x : Placed) → g2 xs x ≡ g (at k p ∷ xs) x) → State es T f ps (k + 1) rows2 g2
      next_observed t g2 l = subst (λ m. State es T f ps m rows2 g2) (sym (add-one k)) (tell_state h0 t g2 (λ xs x. l xs x ∙ ap (λ v. g (at k v ∷ xs) x) (sym q)))

      pub look_untold : j.rule ≡ None → j.observed ≡ false → None ≡ breach es T f ps k
      look_untold e t = pass_here h0 e t

      pub next_untold : j.observed ≡ false → State es T f ps (k + 1) rows2 g
      next_untold t = subst (λ m. State es T f ps m rows2 g) (sym (add-one k)) (pass_state h0 t)

      -- where the watches are told of nothing
      pub look_else : (j.rule ≡ None → j.observed ≡ false) → numbered j.rule ≡ breach es T f ps k
      look_else h = by_rule j.rule refl
        where
          by_rule : (o : Option Rule) → j.rule ≡ o → numbered j.rule ≡ breach es T f ps k
          by_rule None e = ap numbered e ∙ look_untold e (h e)
          by_rule (Some r) e = ap numbered e ∙ look_broken r e
