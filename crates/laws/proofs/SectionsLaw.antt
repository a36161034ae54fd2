-- The round law of the sections watch.
use Rattle.std.proofs.Common.{◌≡◌, ℕ, zero, suc, ◌+◌, ◌-◌, ◌%◌, ◌<◌, ◌≤◌, Bool, true, false, cond, ◌&&◌, ◌||◌, eqb, leb, List, [], ◌∷◌, ◌++◌, map, length, take, drop, Some, None, Option, sym, refl, ap, ◌∙◌, inl, inr, arith}
use Rattle.std.proofs.lemmas.Bool.{cases_Bool, cond-true, cond-false, and_parts, or_parts, or_cases, both_ways, eqb-true}
use Rattle.model.specs.declared.entry.Entry.{Entry}
use Rattle.model.specs.declared.entry.Kind.{Kind}
use Rattle.model.specs.declared.entry.Kind.TheVariants.{Pes, Sections, Clock}
use Rattle.model.specs.Entries.{kind_of, is_sections, is_pes}
use Rattle.model.specs.Packet.{Bytes, byte, pid, payload_unit_start, has_payload, payload}
use Rattle.model.specs.Form.{sound}
use Rattle.model.specs.Stamps.{stamped}
use Rattle.model.specs.Moves.{stampable}
use Rattle.model.specs.Runs.{Packets, Placed, run, past, before, observed, is_observed}
use Rattle.model.specs.Watches.{Whole, Finding, found, RoundLaw}
use Rattle.model.specs.Sections.{section, more, read_all, Phase, unstarted, between, inside, offended, settled, leading, started, with_start, without_start, advance, carries, phase_from, offence, sections_finding}
use Rattle.laws.proofs.Bytes.{Packet}
use Rattle.laws.proofs.Rounds.{run_packet, on_sound, on_pid, on_flag, on_start, on_payload}
use Rattle.laws.proofs.Loop.{Fine, shift, law_from, observed_next}
use Rattle.laws.proofs.StampsLaw.{fine_from, found_from}
use Rattle.laws.proofs.ClockLaw.{Packets!, observed_packets}

abbrev pub is_offended : Phase → Bool
is_offended unstarted = false
is_offended between = false
is_offended (inside u) = false
is_offended (offended r) = true

offence_none : (a b : Phase) → is_offended a ≡ false → offence a b ≡ None → is_offended b ≡ false
offence_none (offended r) b h k = absurd (both_ways true h refl)
offence_none unstarted unstarted h k = refl
offence_none unstarted between h k = refl
offence_none unstarted (inside u) h k = refl
offence_none unstarted (offended r) h k = absurd (let y : ◌≡◌ {A = ℕ} 0 1 = cc in omega arith)
offence_none between unstarted h k = refl
offence_none between between h k = refl
offence_none between (inside u) h k = refl
offence_none between (offended r) h k = absurd (let y : ◌≡◌ {A = ℕ} 0 1 = cc in omega arith)
offence_none (inside v) unstarted h k = refl
offence_none (inside v) between h k = refl
offence_none (inside v) (inside u) h k = refl
offence_none (inside v) (offended r) h k = absurd (let y : ◌≡◌ {A = ℕ} 0 1 = cc in omega arith)

-- with the start flag and no offence, what was before does not matter
abbrev fresh : Bytes → Phase
fresh u = settled (read_all more (section []) (drop (1 + byte u 0) u))

started_is : (o : Option ℕ) (bs : Bytes) → is_offended (started o bs) ≡ false → started o bs ≡ settled (read_all more (section []) bs)
started_is None bs h = refl
started_is (Some r) bs h = absurd (both_ways true h refl)

with_is : (a : Phase) (u : Bytes) → is_offended (with_start a u) ≡ false → with_start a u ≡ fresh u
with_is a u h = elim (cases_Bool (leb (length u) (1 + byte u 0))) [
  | inl e ↦ absurd (both_ways true (ap is_offended (sym (cond-true (leb (length u) (1 + byte u 0)) (offended 28) _ e)) ∙ h) refl)
  | inr e ↦
      let c : with_start a u ≡ started (leading a (take (byte u 0) (drop 1 u))) (drop (1 + byte u 0) u) = cond-false (leb (length u) (1 + byte u 0)) (offended 28) _ e in
      c ∙ started_is (leading a (take (byte u 0) (drop 1 u))) (drop (1 + byte u 0) u) (ap is_offended (sym c) ∙ h)
]

start_is : (a : Phase) (p : Bytes) → payload_unit_start p ≡ true → is_offended (advance a p) ≡ false → advance a p ≡ fresh (payload p)
start_is (offended r) p s h = absurd (both_ways true h refl)
start_is unstarted p s h = let c = cond-true (payload_unit_start p) (with_start unstarted (payload p)) unstarted s in c ∙ with_is unstarted (payload p) (ap is_offended (sym c) ∙ h)
start_is between p s h = let c = cond-true (payload_unit_start p) (with_start between (payload p)) (without_start between (payload p)) s in c ∙ with_is between (payload p) (ap is_offended (sym c) ∙ h)
start_is (inside v) p s h = let c = cond-true (payload_unit_start p) (with_start (inside v) (payload p)) (without_start (inside v) (payload p)) s in c ∙ with_is (inside v) (payload p) (ap is_offended (sym c) ∙ h)

module _ (es : List Entry) (q : ℕ) where
  abbrev pub after : Phase → Placed → Phase
  after ph x = cond (carries es q x) (advance ph x.bytes) ph

  phase_append : (ph : Phase) (xs ys : List Placed) → phase_from es q ph (xs ++ ys) ≡ phase_from es q (phase_from es q ph xs) ys
  phase_append ph [] ys = refl
  phase_append ph (x ∷ xs) ys = phase_append (after ph x) xs ys

  still_offended : (ph : Phase) (x : Placed) → is_offended ph ≡ true → is_offended (after ph x) ≡ true
  still_offended (offended r) x h = elim (cases_Bool (carries es q x)) [ inl e ↦ rw e | inr e ↦ rw e ]
  still_offended unstarted x h = absurd (both_ways false refl h)
  still_offended between x h = absurd (both_ways false refl h)
  still_offended (inside u) x h = absurd (both_ways false refl h)

  absorbed : (ph : Phase) (xs : List Placed) → is_offended ph ≡ true → is_offended (phase_from es q ph xs) ≡ true
  absorbed ph [] h = h
  absorbed ph (x ∷ xs) h = absorbed (after ph x) xs (still_offended ph x h)

  pub unoffended : (ph : Phase) (xs : List Placed) → is_offended (phase_from es q ph xs) ≡ false → is_offended ph ≡ false
  unoffended ph xs h = elim (cases_Bool (is_offended ph)) [ inl e ↦ absurd (both_ways _ h (absorbed ph xs e)) | inr e ↦ e ]

  abbrev has_start : List Placed → Bool
  has_start [] = false
  has_start (x ∷ xs) = (carries es q x && payload_unit_start x.bytes) || has_start xs

  merge : (a b : Phase) (xs : List Placed) → has_start xs ≡ true → is_offended (phase_from es q a xs) ≡ false → is_offended (phase_from es q b xs) ≡ false →
      phase_from es q a xs ≡ phase_from es q b xs
  merge a b [] s h k = absurd (both_ways false refl s)
  merge a b (x ∷ xs) s h k = elim (or_cases (carries es q x && payload_unit_start x.bytes) (has_start xs) s) [
    | inl e ↦
        let c = and_parts (carries es q x) _ e in
        let ca : after a x ≡ advance a x.bytes = cond-true (carries es q x) (advance a x.bytes) a c.0 in
        let cb : after b x ≡ advance b x.bytes = cond-true (carries es q x) (advance b x.bytes) b c.0 in
        let ea : after a x ≡ fresh (payload x.bytes) = ca ∙ start_is a x.bytes c.1 (ap is_offended (sym ca) ∙ unoffended (after a x) xs h) in
        let eb : after b x ≡ fresh (payload x.bytes) = cb ∙ start_is b x.bytes c.1 (ap is_offended (sym cb) ∙ unoffended (after b x) xs k) in
        ap (λ y. phase_from es q y xs) (ea ∙ sym eb)
    | inr e ↦ merge (after a x) (after b x) xs e h k
  ]

  unstarted_still : (xs : List Placed) → has_start xs ≡ false → phase_from es q unstarted xs ≡ unstarted
  unstarted_still [] h = refl
  unstarted_still (x ∷ xs) h =
      let e = or_parts (carries es q x && payload_unit_start x.bytes) (has_start xs) h in
      let a : after unstarted x ≡ unstarted = elim (cases_Bool (carries es q x)) [
        | inl c ↦ cond-true (carries es q x) _ unstarted c ∙ cond-false (payload_unit_start x.bytes) _ unstarted (sym (ap (λ y. y && payload_unit_start x.bytes) c) ∙ e.0)
        | inr c ↦ cond-false (carries es q x) _ unstarted c
      ] in
      ap (λ y. phase_from es q y xs) a ∙ unstarted_still xs e.1

  -- one round, and the same again
  again : (xs : List Placed) → is_offended (phase_from es q unstarted xs) ≡ false → is_offended (phase_from es q (phase_from es q unstarted xs) xs) ≡ false →
      phase_from es q (phase_from es q unstarted xs) xs ≡ phase_from es q unstarted xs
  again xs h k = elim (cases_Bool (has_start xs)) [
    | inl s ↦ merge (phase_from es q unstarted xs) unstarted xs s k h
    | inr s ↦ ap (λ y. phase_from es q y xs) (unstarted_still xs s)
  ]

-- the phase of PID q at the places of a run
module _ (es : List Entry) (T : ℕ) (ps : Packets) (q : ℕ) where
  abbrev pub placed : ℕ → Placed
  placed k = record { place = k; bytes = run es T ps k }

  abbrev pub seen : ℕ → Bool
  seen k = is_observed es (past es T ps k) (run es T ps k)

  abbrev pub phase_at : ℕ → Phase
  phase_at k = phase_from es q unstarted (observed es T ps k)

  pub phase_seen : (k : ℕ) → seen k ≡ true → phase_at (suc k) ≡ after es q (phase_at k) (placed k)
  phase_seen k t = ap (phase_from es q unstarted) (cond-true (seen k) _ _ t) ∙ phase_append es q unstarted (observed es T ps k) (placed k ∷ [])

  pub phase_unseen : (k : ℕ) → seen k ≡ false → phase_at (suc k) ≡ phase_at k
  phase_unseen k t = ap (phase_from es q unstarted) (cond-false (seen k) _ _ t)

  -- what is found at a place of PID q that the watches are told of
  pub found_seen : (k : ℕ) → seen k ≡ true → pid (run es T ps k) ≡ q →
      found es T (sections_finding es) ps k ≡ cond (carries es q (placed k)) (offence (phase_at k) (advance (phase_at k) (run es T ps k))) None
  found_seen k t e = cond-true (seen k) (sections_finding es (observed es T ps k) (placed k)) None t
      ∙ ap (λ y. cond (carries es y (placed k)) (offence (phase_from es y unstarted (observed es T ps k)) (advance (phase_from es y unstarted (observed es T ps k)) (run es T ps k))) None) e

  carries_pid : (k : ℕ) → carries es q (placed k) ≡ true → pid (run es T ps k) ≡ q
  carries_pid k c =
      let p = run es T ps k in
      eqb-true (pid p) q (and_parts (eqb (pid p) q) _ (and_parts (is_sections (kind_of es q)) _ (and_parts (sound es p) _ c).1).1).0

  -- where nothing is found on the PID there is no offence
  pub calm_before : (n : ℕ) → ((k : ℕ) → k < n → pid (run es T ps k) ≡ q → found es T (sections_finding es) ps k ≡ None) → (k : ℕ) → k ≤ n → is_offended (phase_at k) ≡ false
  calm_before n quiet zero h = refl
  calm_before n quiet (suc k) h =
      let ih : is_offended (phase_at k) ≡ false = calm_before n quiet k (omega arith) in
      let p : Bytes = run es T ps k in
      elim (cases_Bool (seen k)) [
        | inl t ↦ ap is_offended (phase_seen k t) ∙ (elim (cases_Bool (carries es q (placed k))) [
          | inl c ↦
              let px : pid p ≡ q = carries_pid k c in
              let o : offence (phase_at k) (advance (phase_at k) p) ≡ None = sym (cond-true (carries es q (placed k)) _ None c) ∙ sym (found_seen k t px) ∙ quiet k h px in
              ap is_offended (cond-true (carries es q (placed k)) _ (phase_at k) c) ∙ offence_none (phase_at k) (advance (phase_at k) p) ih o
          | inr c ↦ ap is_offended (cond-false (carries es q (placed k)) _ (phase_at k) c) ∙ ih
        ])
        | inr t ↦ ap is_offended (phase_unseen k t) ∙ ih
      ]

module _ (es : List Entry) (T : ℕ) (ps : Packets) (w : Whole ps) (z : T % 300 ≡ 0) (fine : Fine es T ps w z) where
  abbrev n : ℕ
  n = length ps

  abbrev r : ℕ → Bytes
  r = run es T ps

  abbrev sh : Placed → Placed
  sh = shift es T ps w z fine

  abbrev at : ℕ → Placed
  at k = record { place = k; bytes = r k }

  carries_shift : (q : ℕ) (x : Placed) → Packet x.bytes → carries es q (sh x) ≡ carries es q x
  unfolding shift
  carries_shift q x g = let p = x.bytes in rw (on_sound es T ps w z p g, on_pid es T ps w z p g, on_flag es T ps w z p g)

  pid_shift : (x : Placed) → Packet x.bytes → pid (sh x).bytes ≡ pid x.bytes
  unfolding shift
  pid_shift x g = on_pid es T ps w z x.bytes g

  sections_pes : (o : Option Kind) → is_sections o ≡ true → is_pes o ≡ false
  sections_pes None h = refl
  sections_pes (Some Pes) h = absurd (both_ways false refl h)
  sections_pes (Some Sections) h = refl
  sections_pes (Some Clock) h = absurd (both_ways false refl h)

  carries_plain : (q : ℕ) (x : Placed) → carries es q x ≡ true → stampable es x.bytes ≡ false
  carries_plain q x c =
      let p = x.bytes in
      let a = and_parts (is_sections (kind_of es q)) _ (and_parts (sound es p) _ c).1 in
      let b = and_parts (eqb (pid p) q) _ a.1 in
      let e : is_pes (kind_of es (pid p)) ≡ false = sections_pes (kind_of es (pid p)) (ap (λ y. is_sections (kind_of es y)) (eqb-true (pid p) q b.0) ∙ a.0) in
      ap (λ y. (y && (payload_unit_start p && has_payload p)) && stamped (payload p)) e

  advance_same : (ph : Phase) (p m : Bytes) → payload_unit_start m ≡ payload_unit_start p → payload m ≡ payload p → advance ph m ≡ advance ph p
  advance_same (offended v) p m a b = refl
  advance_same unstarted p m a b = ap (λ y. cond y (with_start unstarted (payload m)) unstarted) a ∙ ap (λ y. cond (payload_unit_start p) (with_start unstarted y) unstarted) b
  advance_same between p m a b = ap (λ y. cond y (with_start between (payload m)) (without_start between (payload m))) a ∙ ap (λ y. cond (payload_unit_start p) (with_start between y) (without_start between y)) b
  advance_same (inside v) p m a b = ap (λ y. cond y (with_start (inside v) (payload m)) (without_start (inside v) (payload m))) a ∙ ap (λ y. cond (payload_unit_start p) (with_start (inside v) y) (without_start (inside v) y)) b

  advance_shift : (q : ℕ) (ph : Phase) (x : Placed) → Packet x.bytes → carries es q x ≡ true → advance ph (sh x).bytes ≡ advance ph x.bytes
  unfolding shift
  advance_shift q ph x g c = advance_same ph x.bytes (sh x).bytes (on_start es T ps w z x.bytes g) (on_payload es T ps w z x.bytes g (carries_plain q x c))

  after_shift : (q : ℕ) (ph : Phase) (x : Placed) → Packet x.bytes → after es q ph (sh x) ≡ after es q ph x
  after_shift q ph x g = elim (cases_Bool (carries es q x)) [
    | inl c ↦ cond-true (carries es q (sh x)) _ ph (carries_shift q x g ∙ c) ∙ advance_shift q ph x g c ∙ sym (cond-true (carries es q x) _ ph c)
    | inr c ↦ cond-false (carries es q (sh x)) _ ph (carries_shift q x g ∙ c) ∙ sym (cond-false (carries es q x) _ ph c)
  ]

  phase_shift : (q : ℕ) (ph : Phase) (xs : List Placed) → Packets! xs → phase_from es q ph (map sh xs) ≡ phase_from es q ph xs
  phase_shift q ph [] g = refl
  phase_shift q ph (x ∷ xs) g = ap (λ y. phase_from es q y (map sh xs)) (after_shift q ph x g.0) ∙ phase_shift q (after es q ph x) xs g.1

  abbrev phase : ℕ → ℕ → Phase
  phase q k = phase_from es q unstarted (observed es T ps k)

  -- a round on, by the phase after round 0
  phase_next : (q k : ℕ) → phase_from es q unstarted (observed es T ps n ++ map sh (observed es T ps k)) ≡ phase_from es q (phase q n) (observed es T ps k)
  phase_next q k = phase_append es q unstarted (observed es T ps n) (map sh (observed es T ps k)) ∙ phase_shift q (phase q n) (observed es T ps k) (observed_packets es T ps w z fine k)

  phase_observed : (q k : ℕ) → phase q (n + k) ≡ phase_from es q (phase q n) (observed es T ps k)
  phase_observed q k = ap (phase_from es q unstarted) (observed_next es T ps w z fine k) ∙ phase_next q k

  module _ (quiet : (k : ℕ) → k < n + n → found es T (sections_finding es) ps k ≡ None) where
    calm : (q k : ℕ) → k ≤ n + n → is_offended (phase q k) ≡ false
    calm q k h = calm_before es T ps q (n + n) (λ i l e. quiet i l) k h

    -- after round 1 the phase is that after round 0
    phase_round : (q : ℕ) → phase_from es q (phase q n) (observed es T ps n) ≡ phase q n
    phase_round q = again es q (observed es T ps n) (calm q n (omega arith)) (ap is_offended (sym (phase_observed q n)) ∙ calm q (n + n) (omega arith))

    phase_same : (q k : ℕ) → n ≤ k → phase_from es q (phase q n) (observed es T ps k) ≡ phase q k
    phase_same q k h =
        let i : ℕ = k - n in
        let e : n + i ≡ k = omega arith in
        ap (λ y. phase_from es q (phase q n) (observed es T ps y)) (sym e)
        ∙ ap (phase_from es q (phase q n)) (observed_next es T ps w z fine i)
        ∙ phase_append es q (phase q n) (observed es T ps n) (map sh (observed es T ps i))
        ∙ ap (λ y. phase_from es q y (map sh (observed es T ps i))) (phase_round q)
        ∙ phase_shift q (phase q n) (observed es T ps i) (observed_packets es T ps w z fine i)
        ∙ sym (phase_observed q i)
        ∙ ap (phase q) e

    section_same : (k : ℕ) → n ≤ k → is_observed es (before r k) (r k) ≡ true →
        sections_finding es (observed es T ps n ++ map sh (observed es T ps k)) (sh (at k)) ≡ sections_finding es (observed es T ps k) (at k)
    section_same k h t =
        let q : ℕ = pid (r k) in
        let g : Packet (r k) = run_packet es T ps w z k in
        let xs : List Placed = observed es T ps n ++ map sh (observed es T ps k) in
        let e : phase_from es q unstarted xs ≡ phase q k = phase_next q k ∙ phase_same q k h in
        ap (λ y. cond (carries es y (sh (at k))) (offence (phase_from es y unstarted xs) (advance (phase_from es y unstarted xs) (sh (at k)).bytes)) None) (pid_shift (at k) g)
        ∙ ap (λ y. cond (carries es q (sh (at k))) (offence y (advance y (sh (at k)).bytes)) None) e
        ∙ (elim (cases_Bool (carries es q (at k))) [
          | inl c ↦ cond-true (carries es q (sh (at k))) _ None (carries_shift q (at k) g ∙ c) ∙ ap (offence (phase q k)) (advance_shift q (phase q k) (at k) g c) ∙ sym (cond-true (carries es q (at k)) _ None c)
          | inr c ↦ cond-false (carries es q (sh (at k))) _ None (carries_shift q (at k) g ∙ c) ∙ sym (cond-false (carries es q (at k)) _ None c)
        ])

pub sections_law : (es : List Entry) (T : ℕ) → T % 300 ≡ 0 → RoundLaw es T (sections_finding es)
sections_law es T z ps w h =
    let f : Finding = sections_finding es in
    let fine : Fine es T ps w z = fine_from es T f ps w z h in
    law_from es T ps w z fine f (section_same es T ps w z fine (found_from es T f ps h)) (found_from es T f ps h)
