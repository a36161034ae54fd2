-- The check of two rounds decides all rounds.
use Rattle.std.proofs.Common.{◌≡◌, ℕ, zero, suc, ◌+◌, ◌-◌, ◌*◌, ◌%◌, ◌<◌, ◌≤◌, true, cond, ◌⊎◌, List, length, Some, None, Option, sym, refl, ap, ◌∙◌, subst, inl, inr, suc-le-suc, zero-le, add-zero, one-mul, zero-add, zero-mul, arith}
use Rattle.std.proofs.lemmas.Bool.{cases_Bool, cond-true, cond-false, both_ways, cases_lt, cases_order}
use Rattle.model.specs.declared.entry.Entry.{Entry}
use Rattle.model.specs.Runs.{Packets, run, past}
use Rattle.model.specs.Watches.{Whole, Finding, found, breach, basic, RoundLaw}
use Rattle.model.specs.Breaches.{all_clocked, Breach, Broken, at, unclocked, Later, first_or, first_in, in_round, verdict, Decides}
use Rattle.laws.proofs.Loop.{all_fine}
use Rattle.laws.proofs.StampsLaw.{fine_from}
use Rattle.model.specs.Tests.{or_else}

never : {r : ℕ} → Some r ≡ None → ⊥
never {r} h = let z : ◌≡◌ {A = ℕ} 0 1 = cc in omega arith

never_breach : {b : Breach} → Some b ≡ None → ⊥
never_breach {b} h = let z : ◌≡◌ {A = ℕ} 0 1 = cc in omega arith

module _ (es : List Entry) (T : ℕ) (f : Finding) (ps : Packets) where
  abbrev n : ℕ
  n = length ps

  abbrev broke : ℕ → Option ℕ
  broke = breach es T f ps

  pub data First (k m : ℕ) : Type 0 where
    none : first_in es T f ps k m ≡ None → ((i : ℕ) → k ≤ i → i < k + m → broke i ≡ None) → First k m
    some : (i r : ℕ) → first_in es T f ps k m ≡ Some (i, r) → k ≤ i → i < k + m → broke i ≡ Some r → ((j : ℕ) → k ≤ j → j < i → broke j ≡ None) → First k m

  option : (o : Option ℕ) → (o ≡ None) ⊎ ((r : ℕ) × (o ≡ Some r))
  option None = inl refl
  option (Some r) = inr (r, refl)

  pub first : (m k : ℕ) → First k m
  first zero k = none refl (λ i a b. absurd (let e : k + 0 ≡ k = add-zero k in let x : suc i ≤ k + 0 = b in no k i a (omega arith)))
    where
      no : (k i : ℕ) → k ≤ i → i < k → ⊥
      no k i a b = omega arith
  first (suc m) k = elim (option (broke k)) [
    | inl e ↦ elim (first m (suc k)) [
      | none a b ↦ none (ap (λ o. first_or es T f ps o k (first_in es T f ps (suc k) m)) e ∙ a)
          (λ i x y. elim (cases_order i k) [
            | inl s ↦ ap broke s ∙ e
            | inr s ↦ b i (elim s [ inl v ↦ absurd (no i k x v) | inr v ↦ v ]) (omega arith)
          ])
      | some i r a b c d g ↦ some i r (ap (λ o. first_or es T f ps o k (first_in es T f ps (suc k) m)) e ∙ a) (omega arith) (omega arith) d
          (λ j x y. elim (cases_order j k) [
            | inl s ↦ ap broke s ∙ e
            | inr s ↦ g j (elim s [ inl v ↦ absurd (no j k x v) | inr v ↦ v ]) y
          ])
    ]
    | inr e ↦ some k e.0 (ap (λ o. first_or es T f ps o k (first_in es T f ps (suc k) m)) e.1) (omega arith) (omega arith) e.1 (λ j x y. absurd (no j k x y))
  ]
    where
      no : (i k : ℕ) → k ≤ i → i < k → ⊥
      no i k a b = omega arith

  pub data Outcome : Type 0 where
    clean : verdict es T f ps ≡ None → ((b : Breach) → Broken es T f ps b → ⊥) → Outcome
    broken : (b : Breach) → verdict es T f ps ≡ Some b → Broken es T f ps b → ((a : Breach) → Broken es T f ps a → (a ≡ b) ⊎ Later es T f ps b a) → Outcome

  decides : Outcome → Decides es T f ps (verdict es T f ps)
  decides (clean e nothing) = record {
    approves = (λ _ m b x l. nothing b x, λ _. e);
    broken = λ b h. absurd (never_breach (sym h ∙ e));
    first = λ b h. absurd (never_breach (sym h ∙ e));
  }
  decides (broken b e x l) = record {
    approves = (λ h. absurd (never_breach (sym e ∙ h)), λ c. absurd (c (suc b.round) b x (omega arith)));
    broken = λ c h. let s : c ≡ b = cc in subst (Broken es T f ps) (sym s) x;
    first = λ c h a y. let s : b ≡ c = cc in subst (λ v. (a ≡ v) ⊎ Later es T f ps v a) s (l a y);
  }

  abbrev mk : ℕ → ℕ → ℕ → Breach
  mk j i r = record { round = j; packet = i; rule = r }

  -- what is answered after a clean round 0
  abbrev rest : Option Breach
  rest = cond (all_clocked es es ps) (in_round es T f ps 1 (first_in es T f ps n n) None) (Some (mk 0 n 31))

  some_same : (a b : ℕ) → Some a ≡ Some b → a ≡ b
  some_same a b h = cc

  -- one breach against another
  module _ (i0 r0 : ℕ) where
    -- the first one lies in round 0
    in_zero : (low : i0 < n) → broke i0 ≡ Some r0 → ((j : ℕ) → 0 ≤ j → j < i0 → broke j ≡ None) → (a : Breach) → Broken es T f ps a → (a ≡ mk 0 i0 r0) ⊎ Later es T f ps (mk 0 i0 r0) a
    in_zero low e before _ (at zero i r l h) =
        let g : broke i ≡ Some r = ap broke (sym (ap (λ x. x + i) (zero-mul n) ∙ zero-add i)) ∙ h in
        elim (cases_order i i0) [
          | inl s ↦ let t : r ≡ r0 = some_same r r0 (sym g ∙ ap broke s ∙ e) in inl cc
          | inr s ↦ elim s [ inl v ↦ absurd (never (sym g ∙ before i zero-le v)) | inr v ↦ inr (inr (refl, v)) ]
        ]
    in_zero low e before _ (at (suc j) i r l h) = inr (inl (suc-le-suc zero-le))
    in_zero low e before _ (unclocked h) = inr (inr (refl, low))

    -- or in round 1
    in_one : ((j : ℕ) → 0 ≤ j → j < 0 + n → broke j ≡ None) → all_clocked es es ps ≡ true → broke (n + i0) ≡ Some r0 → ((j : ℕ) → n ≤ j → j < n + i0 → broke j ≡ None) → (a : Breach) → Broken es T f ps a → (a ≡ mk 1 i0 r0) ⊎ Later es T f ps (mk 1 i0 r0) a
    in_one z c e before _ (at zero i r l h) =
        let g : broke i ≡ Some r = ap broke (sym (ap (λ x. x + i) (zero-mul n) ∙ zero-add i)) ∙ h in
        absurd (never (sym g ∙ z i zero-le (omega arith)))
    in_one z c e before _ (at (suc zero) i r l h) =
        let g : broke (n + i) ≡ Some r = ap broke (sym (ap (λ x. x + i) (one-mul n))) ∙ h in
        elim (cases_order i i0) [
          | inl s ↦ let t : r ≡ r0 = some_same r r0 (sym g ∙ ap (λ x. broke (n + x)) s ∙ e) in inl cc
          | inr s ↦ elim s [ inl v ↦ absurd (never (sym g ∙ before (n + i) (omega arith) (omega arith))) | inr v ↦ inr (inr (refl, v)) ]
        ]
    in_one z c e before _ (at (suc (suc j)) i r l h) = inr (inl (suc-le-suc (suc-le-suc zero-le)))
    in_one z c e before _ (unclocked h) = absurd (both_ways _ h c)

  at_end : ((j : ℕ) → 0 ≤ j → j < 0 + n → broke j ≡ None) → (a : Breach) → Broken es T f ps a → (a ≡ mk 0 n 31) ⊎ Later es T f ps (mk 0 n 31) a
  at_end z _ (at zero i r l h) =
      let g : broke i ≡ Some r = ap broke (sym (ap (λ x. x + i) (zero-mul n) ∙ zero-add i)) ∙ h in
      absurd (never (sym g ∙ z i zero-le (omega arith)))
  at_end z _ (at (suc j) i r l h) = inr (inl (suc-le-suc zero-le))
  at_end z _ (unclocked h) = inl refl

  module _ (law : RoundLaw es T f) (w : Whole ps) (z : T % 300 ≡ 0) where
    quiet : ((j : ℕ) → 0 ≤ j → j < 0 + n → broke j ≡ None) → ((j : ℕ) → n ≤ j → j < n + n → broke j ≡ None) → (k : ℕ) → broke k ≡ None
    quiet a b k =
        let two : (k : ℕ) → k < 2 * n → broke k ≡ None = λ k h. elim (cases_lt k n) [ inl l ↦ a k zero-le (omega arith) | inr l ↦ b k l (omega arith) ] in
        let c : basic es (past es T ps k) (run es T ps k) ≡ None = all_fine es T ps w z (fine_from es T f ps w z two) k in
        ap (λ x. or_else x (found es T f ps k)) c ∙ law ps w two k

    outcome : Outcome
    outcome = elim (first n 0) [
      | some i r a b c d g ↦
          let e : 0 * n + i ≡ i = ap (λ x. x + i) (zero-mul n) ∙ zero-add i in
          let s : i - 0 * n ≡ i = omega arith in
          broken (mk 0 i r)
          (ap (λ o. in_round es T f ps 0 o rest) a ∙ ap (λ x. Some (mk 0 x r)) s)
          (at 0 i r (omega arith) (ap broke e ∙ d))
          (in_zero i r (omega arith) d g)
      | none a b ↦ elim (cases_Bool (all_clocked es es ps)) [
        | inr c ↦ broken (mk 0 n 31) (ap (λ o. in_round es T f ps 0 o rest) a ∙ cond-false (all_clocked es es ps) (in_round es T f ps 1 (first_in es T f ps n n) None) (Some (mk 0 n 31)) c) (unclocked c) (at_end b)
        | inl c ↦ elim (first n n) [
          | some i r d e g h k ↦
              let s : i - 1 * n ≡ i - n = ap (λ x. i - x) (one-mul n) in
              let t : n + (i - n) ≡ i = omega arith in
              let u : 1 * n + (i - n) ≡ i = ap (λ x. x + (i - n)) (one-mul n) ∙ t in
              broken (mk 1 (i - n) r)
              (ap (λ o. in_round es T f ps 0 o rest) a ∙ cond-true (all_clocked es es ps) (in_round es T f ps 1 (first_in es T f ps n n) None) (Some (mk 0 n 31)) c ∙ ap (λ o. in_round es T f ps 1 o None) d ∙ ap (λ x. Some (mk 1 x r)) s)
              (at 1 (i - n) r (omega arith) (ap broke u ∙ h))
              (in_one (i - n) r b c (ap broke t ∙ h) (λ j x y. k j x (omega arith)))
          | none d e ↦
              clean (ap (λ o. in_round es T f ps 0 o rest) a ∙ cond-true (all_clocked es es ps) (in_round es T f ps 1 (first_in es T f ps n n) None) (Some (mk 0 n 31)) c ∙ ap (λ o. in_round es T f ps 1 o None) d)
              (nothing (quiet b e) c)
        ]
      ]
    ]
      where
        nothing : ((k : ℕ) → broke k ≡ None) → all_clocked es es ps ≡ true → (b : Breach) → Broken es T f ps b → ⊥
        nothing q c _ (at j i r l h) = never (sym h ∙ q (j * n + i))
        nothing q c _ (unclocked h) = both_ways _ h c

    -- the loop theorem
    pub check_decides : Decides es T f ps (verdict es T f ps)
    check_decides = decides outcome
