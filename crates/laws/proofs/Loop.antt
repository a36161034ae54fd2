-- A clean reel: every round after the first is as the one before.
use Rattle.std.proofs.Common.{◌≡◌, ℕ, zero, suc, ◌+◌, ◌-◌, ◌%◌, ◌<◌, ◌≤◌, Bool, true, false, cond, not, ◌&&◌, ◌||◌, eqb, List, [], ◌∷◌, ◌++◌, map, length, get_or, Some, None, Option, sym, refl, ap, ◌∙◌, subst, inl, inr, add-zero, add-suc, arith}
use Rattle.std.proofs.lemmas.Bool.{cases_Bool, cond-true, cond-false, and_parts, and_from, and_right, or_parts, or_cases, or_right, or_left, both_ways, eqb-true, eq-eqb, eqb-false, ne_eqb, not-false, cases_lt}
use Rattle.std.proofs.lemmas.List.{append_assoc, map-append, append-nil}
use Rattle.model.specs.declared.entry.Entry.{Entry}
use Rattle.model.specs.Packet.{Bytes, pid, continuity_counter, has_payload, is_null}
use Rattle.model.specs.Form.{form, sound}
use Rattle.model.specs.Moves.{moves}
use Rattle.model.specs.Runs.{Packets, Placed, same, precedes, copy, continues, is_observed, counted, tally, before, run, past, observed}
use Rattle.model.specs.Watches.{Whole, basic, Finding, found}
use Rattle.laws.proofs.Bytes.{Packet}
use Rattle.laws.proofs.SoundForm.{sound_listed, is_none_lem}
use Rattle.laws.proofs.Rounds.{in_reel, run_packet, onward, run_first, run_form, run_next, on_pid, on_flag, on_null, on_continuity_counter, on_same, on_precedes}
use Rattle.laws.proofs.Seam.{has_pred, last_counter, copy_none, copy_tells, continues_tells, counted_none, pred_at}
use Rattle.model.specs.Tests.{is_none, or_else}

pub or_else_none : (a b : Option ℕ) → or_else a b ≡ None → (a ≡ None) × (b ≡ None)
or_else_none None b h = (refl, h)
or_else_none (Some x) b h = absurd (let y : ◌≡◌ {A = ℕ} 0 1 = cc in omega arith)

cond_not_none : (b : Bool) (r : ℕ) → cond b (Some r) None ≡ None → b ≡ false
cond_not_none true r h = absurd (let y : ◌≡◌ {A = ℕ} 0 1 = cc in omega arith)
cond_not_none false r h = refl

pub bytes_past : (f : ℕ → Bytes) (n k : ℕ) → before f (n + suc k) ≡ f (n + k) ∷ before f (n + k)
bytes_past f n k = ap (before f) (add-suc n k)

eqb_same : (a b c d : ℕ) → (a ≡ b → c ≡ d) → (c ≡ d → a ≡ b) → eqb c d ≡ eqb a b
eqb_same a b c d f g = elim (cases_Bool (eqb a b)) [
  | inl h ↦ eq-eqb c d (f (eqb-true a b h)) ∙ sym h
  | inr h ↦ ne_eqb c d (λ e. eqb-false a b h (g e)) ∙ sym h
]

step_same : (a b t c d : ℕ) → c ≡ (a + t) % 16 → d ≡ (b + t) % 16 → a < 16 → eqb c ((d + 1) % 16) ≡ eqb a ((b + 1) % 16)
step_same a b t c d h k l = eqb_same a ((b + 1) % 16) c ((d + 1) % 16) (λ e. omega arith) (λ e. omega arith)

stay_same : (a b t c d : ℕ) → c ≡ (a + t) % 16 → d ≡ (b + t) % 16 → a < 16 → b < 16 → eqb c d ≡ eqb a b
stay_same a b t c d h k l m = eqb_same a b c d (λ e. omega arith) (λ e. omega arith)

continuity_counter_lt : (p : Bytes) → continuity_counter p < 16
continuity_counter_lt p = omega arith

module _ (es : List Entry) (T : ℕ) (ps : Packets) (w : Whole ps) (z : T % 300 ≡ 0) where
  abbrev pub Fine : Type 0
  Fine = (k : ℕ) → k < length ps + length ps → basic es (past es T ps k) (run es T ps k) ≡ None

  module _ (fine : Fine) where
    abbrev n : ℕ
    n = length ps

    abbrev r : ℕ → Bytes
    r = run es T ps

    abbrev on : Bytes → Bytes
    on = onward es T ps w z

    abbrev pk : (k : ℕ) → Packet (r k)
    pk = run_packet es T ps w z

    pub run_sound : (k : ℕ) → sound es (r k) ≡ true
    run_sound k =
        let h = in_reel es T ps w z k in
        ap is_none (run_form es T ps w z k
        ∙ ap (form es) (sym (run_first es T ps w z (k % n) h))
        ∙ (or_else_none _ _ (fine (k % n) (omega arith))).0)

    pub run_continues : (k : ℕ) → k < n + n → is_null (r k) ≡ false → continues es (past es T ps k) (r k) ≡ true
    run_continues k h g =
        let a : (not (is_null (r k)) && not (continues es (past es T ps k) (r k))) ≡ false = cond_not_none _ 25 (or_else_none _ _ (fine k h)).1 in
        let b : not (continues es (past es T ps k) (r k)) ≡ false = rw g at a in
        not-false _ b

    pub run_moves : (k : ℕ) → is_null (r k) ≡ false → moves es (r k) ≡ true
    run_moves k h = and_from (sound es (r k)) _ (run_sound k) (sound_listed es (r k) (run_sound k) h)

    -- the tally is what round 0 counts
    before_first : (k : ℕ) → k ≤ n → before r k ≡ before (λ i. get_or ps i []) k
    before_first zero h = refl
    before_first (suc k) h = let e = run_first es T ps w z k h in let f = before_first k (omega arith) in cc

    tally_is : (x : ℕ) → tally es ps x ≡ counted es x (before r n)
    tally_is x = ap (counted es x) (sym (before_first n (omega arith)))

    -- place k is the first of its PID
    module _ (k : ℕ) (low : k < n) (real : is_null (r k) ≡ false) (first : has_pred es (before r k) (r k) ≡ false) where
      abbrev x : ℕ
      x = pid (r k)

      abbrev one : ℕ
      one = cond (has_payload (r k)) 1 0

      pub record Chain (j : ℕ) : Type 0 where
        pub some : has_pred es (before r j) (r k) ≡ true
        pub sum : (last_counter es (before r j) x + one) % 16 ≡ (continuity_counter (r k) + counted es x (before r j)) % 16

      start : Chain (suc k)
      start =
          let s : sound es (r k) ≡ true = run_sound k in
          let e : eqb (pid (r k)) x ≡ true = eq-eqb (pid (r k)) x refl in
          let c : copy es (before r k) (r k) ≡ false = copy_none es (before r k) (r k) first in
          let y : counted es x (before r k) ≡ 0 = counted_none es (before r k) (r k) first in
          record {
            some = or_left (precedes es (r k) (r k)) _ (and_from _ _ s e);
            sum = rw (s, e, c, y) (elim (cases_Bool (has_payload (r k))) [ inl f ↦ rw f (omega arith) | inr f ↦ rw f (omega arith) ]);
          }

      step : (j : ℕ) → j < n → Chain j → Chain (suc j)
      step j h g =
          let s : sound es (r j) ≡ true = run_sound j in
          elim (cases_Bool (eqb (pid (r j)) x)) [
            | inl e ↦
                let px : pid (r j) ≡ x = eqb-true (pid (r j)) x e in
                let nn : is_null (r j) ≡ false = ap (λ y. eqb y 8191) px ∙ real in
                let hp : has_pred es (before r j) (r j) ≡ true = has_same (before r j) (r k) (r j) (sym px) g.some in
                let ct = continues_tells es (before r j) (r j) hp (run_continues j (omega arith) nn) in
                let lx : last_counter es (before r j) (pid (r j)) ≡ last_counter es (before r j) x = ap (last_counter es (before r j)) px in
                record {
                  some = or_left (precedes es (r j) (r k)) _ (and_from _ _ s e);
                  sum = rw (s, e) (elim (cases_Bool (has_payload (r j))) [
                    | inl f ↦ elim (cases_Bool (copy es (before r j) (r j))) [
                      | inl c ↦
                          let cc1 : continuity_counter (r j) ≡ last_counter es (before r j) (pid (r j)) = (copy_tells es (before r j) (r j) c).0 in
                          let gs = g.sum in
                          rw (f, c) (next0 (continuity_counter (r j)) (last_counter es (before r j) x) one (continuity_counter (r k)) (counted es x (before r j)) (cc1 ∙ lx) gs)
                      | inr c ↦
                          let ct1 : eqb (continuity_counter (r j)) ((last_counter es (before r j) (pid (r j)) + 1) % 16) ≡ true = only_left _ (copy es (before r j) (r j)) c (sym (cond-true (has_payload (r j)) _ _ f) ∙ ct) in
                          let cc1 : continuity_counter (r j) ≡ (last_counter es (before r j) (pid (r j)) + 1) % 16 = eqb-true _ _ ct1 in
                          rw (f, c) (next1 (continuity_counter (r j)) (last_counter es (before r j) x) one (continuity_counter (r k)) (counted es x (before r j)) (cc1 ∙ ap (λ y. (y + 1) % 16) lx) g.sum)
                    ]
                    | inr f ↦
                        let ct1 : eqb (continuity_counter (r j)) (last_counter es (before r j) (pid (r j))) ≡ true = sym (cond-false (has_payload (r j)) _ _ f) ∙ ct in
                        let cc1 : continuity_counter (r j) ≡ last_counter es (before r j) (pid (r j)) = eqb-true _ _ ct1 in
                        rw f (next0 (continuity_counter (r j)) (last_counter es (before r j) x) one (continuity_counter (r k)) (counted es x (before r j)) (cc1 ∙ lx) g.sum)
                  ]);
                }
            | inr e ↦ record { some = or_right (precedes es (r j) (r k)) _ g.some; sum = rw (s, e) (next0 (last_counter es (before r j) x) (last_counter es (before r j) x) one (continuity_counter (r k)) (counted es x (before r j)) refl g.sum) }
          ]
        where
          has_same : (xs : List Bytes) (p q : Bytes) → pid p ≡ pid q → has_pred es xs p ≡ true → has_pred es xs q ≡ true
          has_same [] p q e h = h
          has_same (a ∷ xs) p q e h = elim (or_cases (precedes es a p) (has_pred es xs p) h) [
            | inl y ↦ or_left (precedes es a q) _ (ap (λ v. sound es a && eqb (pid a) v) (sym e) ∙ y)
            | inr y ↦ or_right (precedes es a q) _ (has_same xs p q e y)
          ]

          only_left : (a b : Bool) → b ≡ false → (a || b) ≡ true → a ≡ true
          only_left true b h y = refl
          only_left false b h y = absurd (both_ways b h y)

          next0 : (c l o a t : ℕ) → c ≡ l → (l + o) % 16 ≡ (a + t) % 16 → (c + o) % 16 ≡ (a + (0 + t)) % 16
          next0 c l o a t h y = omega arith

          next1 : (c l o a t : ℕ) → c ≡ (l + 1) % 16 → (l + o) % 16 ≡ (a + t) % 16 → (c + o) % 16 ≡ (a + (1 + t)) % 16
          next1 c l o a t h y = omega arith

      chain : (i : ℕ) → suc k + i ≤ n → Chain (suc k + i)
      chain zero h = let e : suc k + zero ≡ suc k = add-zero (suc k) in subst Chain (sym e) start
      chain (suc i) h = let e : suc k + suc i ≡ suc (suc k + i) = add-suc (suc k) i in subst Chain (sym e) (step (suc k + i) (omega arith) (chain i (omega arith)))

      whole : Chain n
      whole = let e : suc k + (n - suc k) ≡ n = omega arith in subst Chain e (chain (n - suc k) (omega arith))

      -- so the first packet of its PID is no copy in the next round
      pub seam : copy es (before r n) (on (r k)) ≡ false
      seam = elim (cases_Bool (copy es (before r n) (on (r k)))) [
        | inl c ↦
            let t = copy_tells es (before r n) (on (r k)) c in
            let pf : has_payload (r k) ≡ true = sym (on_flag es T ps w z (r k) (pk k)) ∙ t.1 in
            let px : pid (on (r k)) ≡ x = on_pid es T ps w z (r k) (pk k) in
            let a : continuity_counter (on (r k)) ≡ (continuity_counter (r k) + tally es ps x) % 16 = on_continuity_counter es T ps w z (r k) (pk k) (run_moves k real) in
            let b : continuity_counter (on (r k)) ≡ last_counter es (before r n) x = t.0 ∙ ap (last_counter es (before r n)) px in
            let d : (last_counter es (before r n) x + 1) % 16 ≡ (continuity_counter (r k) + tally es ps x) % 16 =
            ap (λ y. (last_counter es (before r n) x + y) % 16) (sym (cond-true (has_payload (r k)) 1 0 pf)) ∙ whole.sum ∙ ap (λ y. (continuity_counter (r k) + y) % 16) (sym (tally_is x)) in
            absurd (never (last_counter es (before r n) x) (continuity_counter (r k) + tally es ps x) (sym b ∙ a) d)
        | inr c ↦ c
      ]
        where
          never : (l a : ℕ) → l ≡ a % 16 → (l + 1) % 16 ≡ a % 16 → ⊥
          never l a h y = omega arith

    -- a predecessor is one a round on as well
    abbrev Same : ℕ → Type 0
    Same k = is_null (r k) ≡ false → copy es (before r (n + k)) (r (n + k)) ≡ copy es (before r k) (r k)

    pub next : (k : ℕ) → r (n + k) ≡ on (r k)
    next = run_next es T ps w z

    precedes_next : (j : ℕ) (p : Bytes) → Packet p → precedes es (r (n + j)) (on p) ≡ precedes es (r j) p
    precedes_next j p g = ap (λ y. precedes es y (on p)) (next j) ∙ on_precedes es T ps w z (r j) p (pk j) g

    copy_with : (j : ℕ) (p : Bytes) → Packet p → is_null p ≡ false → has_pred es (before r j) p ≡ true → ((i : ℕ) → i < j → Same i) →
        copy es (before r (n + j)) (on p) ≡ copy es (before r j) p
    copy_with zero p g real h c = absurd (both_ways false refl h)
    copy_with (suc j) p g real h c =
        ap (λ y. copy es y (on p)) (bytes_past r n j) ∙
        (elim (cases_Bool (precedes es (r j) p)) [
          | inl e ↦
              let px : pid (r j) ≡ pid p = eqb-true (pid (r j)) (pid p) (and_parts (sound es (r j)) _ e).1 in
              let nn : is_null (r j) ≡ false = ap (λ y. eqb y 8191) px ∙ real in
              cond-true _ _ _ (precedes_next j p g ∙ e)
              ∙ ap (λ y. y && (has_payload (r (n + j)) && not (copy es (before r (n + j)) (r (n + j))))) (ap (λ y. same y (on p)) (next j) ∙ on_same es T ps w z (r j) p (pk j) g px)
              ∙ ap (λ y. same (r j) p && (y && not (copy es (before r (n + j)) (r (n + j))))) (ap has_payload (next j) ∙ on_flag es T ps w z (r j) (pk j))
              ∙ ap (λ y. same (r j) p && (has_payload (r j) && not y)) (c j (omega arith) nn)
              ∙ sym (cond-true (precedes es (r j) p) _ _ e)
          | inr e ↦
              let h2 : has_pred es (before r j) p ≡ true = rw e at h in
              cond-false _ _ _ (precedes_next j p g ∙ e)
              ∙ copy_with j p g real h2 (λ i l. c i (omega arith))
              ∙ sym (cond-false (precedes es (r j) p) _ _ e)
        ])

    copy_without : (j : ℕ) (p : Bytes) → Packet p → has_pred es (before r j) p ≡ false → copy es (before r (n + j)) (on p) ≡ copy es (before r n) (on p)
    copy_without zero p g h = ap (λ y. copy es (before r y) (on p)) (add-zero n)
    copy_without (suc j) p g h =
        let e = or_parts (precedes es (r j) p) (has_pred es (before r j) p) h in
        ap (λ y. copy es y (on p)) (bytes_past r n j)
        ∙ cond-false _ _ _ (precedes_next j p g ∙ e.0)
        ∙ copy_without j p g e.1

    -- from round 1 on there always is one
    pub later_pred : (k : ℕ) → n ≤ k → has_pred es (before r k) (r k) ≡ true
    later_pred k h =
        let i : ℕ = k - n in
        let e : n + i ≡ k = omega arith in
        let px : pid (r k) ≡ pid (r i) = ap (λ y. pid (r y)) (sym e) ∙ ap pid (next i) ∙ on_pid es T ps w z (r i) (pk i) in
        pred_at es r k i (r k) (let a = w.some in omega arith) (and_from _ _ (run_sound i) (eq-eqb (pid (r i)) (pid (r k)) (sym px)))

    copy_step : (k : ℕ) → ((i : ℕ) → i < k → Same i) → Same k
    copy_step k c real =
        ap (λ y. copy es (before r (n + k)) y) (next k) ∙
        (elim (cases_Bool (has_pred es (before r k) (r k))) [
          | inl h ↦ copy_with k (r k) (pk k) real h c
          | inr h ↦ elim (cases_lt k n) [
            | inl l ↦ copy_without k (r k) (pk k) h ∙ seam k l real h ∙ sym (copy_none es (before r k) (r k) h)
            | inr l ↦ absurd (both_ways _ h (later_pred k l))
          ]
        ])

    copy_below : (k i : ℕ) → i < k → Same i
    copy_below zero i h = absurd (none i h)
      where
        none : (i : ℕ) → i < zero → ⊥
        none i h = omega arith
    copy_below (suc k) i h = elim (cases_lt i k) [
      | inl l ↦ copy_below k i l
      | inr l ↦ let e : k ≡ i = omega arith in subst Same e (copy_step k (copy_below k))
    ]

    pub copy_next : (k : ℕ) → is_null (r k) ≡ false → copy es (before r (n + k)) (r (n + k)) ≡ copy es (before r k) (r k)
    copy_next k = copy_below (suc k) k (omega arith)

    pub null_next : (k : ℕ) → is_null (r (n + k)) ≡ is_null (r k)
    null_next k = ap is_null (next k) ∙ on_null es T ps w z (r k) (pk k)

    pub observed_next? : (k : ℕ) → is_observed es (before r (n + k)) (r (n + k)) ≡ is_observed es (before r k) (r k)
    observed_next? k = elim (cases_Bool (is_null (r k))) [
      | inl h ↦ and_right _ _ (ap (λ y. not y && not (copy es (before r (n + k)) (r (n + k)))) (null_next k ∙ h)) ∙ sym (and_right (sound es (r k)) _ (ap (λ y. not y && not (copy es (before r k) (r k))) h))
      | inr h ↦ rw (run_sound (n + k), run_sound k, null_next k, copy_next k h)
    ]

    -- continuity in later rounds
    continues_with : (j : ℕ) (p : Bytes) → Packet p → is_null p ≡ false → moves es p ≡ true → has_pred es (before r j) p ≡ true →
        continues es (before r (n + j)) (on p) ≡ continues es (before r j) p
    continues_with zero p g real mv h = absurd (both_ways false refl h)
    continues_with (suc j) p g real mv h =
        ap (λ y. continues es y (on p)) (bytes_past r n j) ∙
        (elim (cases_Bool (precedes es (r j) p)) [
          | inl e ↦
              let px : pid (r j) ≡ pid p = eqb-true (pid (r j)) (pid p) (and_parts (sound es (r j)) _ e).1 in
              let nn : is_null (r j) ≡ false = ap (λ y. eqb y 8191) px ∙ real in
              let t : ℕ = tally es ps (pid p) in
              let cj : continuity_counter (r (n + j)) ≡ (continuity_counter (r j) + t) % 16 = ap continuity_counter (next j) ∙ on_continuity_counter es T ps w z (r j) (pk j) (run_moves j nn) ∙ ap (λ y. (continuity_counter (r j) + tally es ps y) % 16) px in
              let cp : continuity_counter (on p) ≡ (continuity_counter p + t) % 16 = on_continuity_counter es T ps w z p g mv in
              let cpy : copy es (r (n + j) ∷ before r (n + j)) (on p) ≡ copy es (r j ∷ before r j) p = ap (λ y. copy es y (on p)) (sym (bytes_past r n j)) ∙ copy_with (suc j) p g real h (λ i _. copy_below (suc i) i (omega arith)) in
              cond-true _ _ _ (precedes_next j p g ∙ e)
              ∙ ap (λ y. cond y (eqb (continuity_counter (on p)) ((continuity_counter (r (n + j)) + 1) % 16) || copy es (r (n + j) ∷ before r (n + j)) (on p)) (eqb (continuity_counter (on p)) (continuity_counter (r (n + j))))) (on_flag es T ps w z p g)
              ∙ ap (λ y. cond (has_payload p) (eqb (continuity_counter (on p)) ((continuity_counter (r (n + j)) + 1) % 16) || y) (eqb (continuity_counter (on p)) (continuity_counter (r (n + j))))) cpy
              ∙ ap (λ y. cond (has_payload p) (y || copy es (r j ∷ before r j) p) (eqb (continuity_counter (on p)) (continuity_counter (r (n + j))))) (step_same (continuity_counter p) (continuity_counter (r j)) t _ _ cp cj (continuity_counter_lt p))
              ∙ ap (λ y. cond (has_payload p) (eqb (continuity_counter p) ((continuity_counter (r j) + 1) % 16) || copy es (r j ∷ before r j) p) y) (stay_same (continuity_counter p) (continuity_counter (r j)) t _ _ cp cj (continuity_counter_lt p) (continuity_counter_lt (r j)))
              ∙ sym (cond-true (precedes es (r j) p) _ _ e)
          | inr e ↦
              let h2 : has_pred es (before r j) p ≡ true = rw e at h in
              cond-false _ _ _ (precedes_next j p g ∙ e)
              ∙ continues_with j p g real mv h2
              ∙ sym (cond-false (precedes es (r j) p) _ _ e)
        ])

    pub continues_next : (k : ℕ) → n ≤ k → is_null (r k) ≡ false → continues es (before r (n + k)) (r (n + k)) ≡ continues es (before r k) (r k)
    continues_next k h real = ap (continues es (before r (n + k))) (next k) ∙ continues_with k (r k) (pk k) real (run_moves k real) (later_pred k h)

    -- no round breaks a rule of form or continuity
    pub rounds : (P : ℕ → Type 0) → ((k : ℕ) → k < n + n → P k) → ((k : ℕ) → n ≤ k → P k → P (n + k)) → (k : ℕ) → P k
    rounds P a b k = go (suc k) k (omega arith)
      where
        go : (m k : ℕ) → k < m → P k
        go zero k h = absurd (let e : suc k ≤ zero = h in none k e)
          where
            none : (k : ℕ) → k < zero → ⊥
            none k h = omega arith
        go (suc m) k h = elim (cases_lt k (n + n)) [
          | inl l ↦ a k l
          | inr l ↦ let pos = w.some in let e : n + (k - n) ≡ k = omega arith in subst P e (b (k - n) (omega arith) (go m (k - n) (omega arith)))
        ]

    pub all_continue : (k : ℕ) → is_null (r k) ≡ false → continues es (before r k) (r k) ≡ true
    all_continue = rounds (λ k. is_null (r k) ≡ false → continues es (before r k) (r k) ≡ true) run_continues
        (λ k h c real. let real2 : is_null (r k) ≡ false = sym (null_next k) ∙ real in continues_next k h real2 ∙ c real2)

    pub all_fine : (k : ℕ) → basic es (before r k) (r k) ≡ None
    all_fine k =
        let f : form es (r k) ≡ None = is_none_lem (form es (r k)) (run_sound k) in
        elim (cases_Bool (is_null (r k))) [
          | inl h ↦ rw (f, h)
          | inr h ↦ rw (f, h, all_continue k h)
        ]

    -- what is told: a round on
    unfoldable pub shift : Placed → Placed
    shift y = record { place = n + y.place; bytes = on y.bytes }

    pub observed_next : (k : ℕ) → observed es T ps (n + k) ≡ observed es T ps n ++ map shift (observed es T ps k)
    unfolding shift
    observed_next zero = ap (observed es T ps) (add-zero n) ∙ sym (append-nil (observed es T ps n))
    observed_next (suc k) =
        let ih = observed_next k in
        ap (observed es T ps) (add-suc n k) ∙
        (elim (cases_Bool (is_observed es (before r k) (r k))) [
          | inl h ↦
              cond-true _ _ _ (observed_next? k ∙ h)
              ∙ ap (λ y. y ++ (record { place = n + k; bytes = r (n + k) }) ∷ []) ih
              ∙ append_assoc (observed es T ps n) (map shift (observed es T ps k)) _
              ∙ ap (λ y. observed es T ps n ++ (map shift (observed es T ps k) ++ (record { place = n + k; bytes = y }) ∷ [])) (next k)
              ∙ ap (λ y. observed es T ps n ++ y) (sym (map-append shift (observed es T ps k) ((record { place = k; bytes = r k }) ∷ [])))
              ∙ ap (λ y. observed es T ps n ++ map shift y) (sym (cond-true (is_observed es (before r k) (r k)) _ _ h))
          | inr h ↦
              cond-false _ _ _ (observed_next? k ∙ h)
              ∙ ih
              ∙ ap (λ y. observed es T ps n ++ map shift y) (sym (cond-false (is_observed es (before r k) (r k)) _ _ h))
        ])

    -- a finding that says the same a round on says the same in all rounds
    abbrev pub here : ℕ → Placed
    here k = record { place = k; bytes = r k }

    pub shift_here : (k : ℕ) → here (n + k) ≡ shift (here k)
    unfolding shift
    shift_here k = ap (λ y. record { place = n + k; bytes = y }) (next k)

    pub law_from : (f : Finding) → ((k : ℕ) → n ≤ k → is_observed es (before r k) (r k) ≡ true → f (observed es T ps n ++ map shift (observed es T ps k)) (shift (here k)) ≡ f (observed es T ps k) (here k)) →
        ((k : ℕ) → k < n + n → found es T f ps k ≡ None) → (k : ℕ) → found es T f ps k ≡ None
    law_from f same a = rounds (λ k. found es T f ps k ≡ None) a (λ k h e.
        elim (cases_Bool (is_observed es (before r k) (r k))) [
          | inl t ↦
              cond-true _ _ _ (observed_next? k ∙ t)
              ∙ ap (λ y. f y (here (n + k))) (observed_next k)
              ∙ ap (f (observed es T ps n ++ map shift (observed es T ps k))) (shift_here k)
              ∙ same k h t
              ∙ sym (cond-true (is_observed es (before r k) (r k)) _ _ t)
              ∙ e
          | inr t ↦ cond-false _ _ _ (observed_next? k ∙ t)
        ])
