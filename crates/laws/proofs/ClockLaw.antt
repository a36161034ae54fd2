-- The round law of the clock watch.
use Rattle.std.proofs.Common.{◌≡◌, ℕ, zero, suc, ◌+◌, ◌-◌, ◌%◌, ◌<◌, ◌≤◌, Bool, true, false, cond, eqb, leb, List, [], ◌∷◌, ◌++◌, map, length, Some, None, Option, sym, refl, ap, ◌∙◌, subst, inl, inr, arith}
use Rattle.std.proofs.lemmas.Bool.{cases_Bool, cond-true, cond-false, and_parts, and_from, both_ways, eqb-true, leb-true, le-leb, cases_lt}
use Rattle.model.specs.declared.entry.Entry.{Entry}
use Rattle.model.specs.declared.entry.Kind.{Kind}
use Rattle.model.specs.Entries.{kind_of, is_clock, listed}
use Rattle.model.specs.Packet.{Bytes, pid, has_pcr, pcr}
use Rattle.model.specs.Form.{sound}
use Rattle.model.specs.Moves.{W, moves}
use Rattle.model.specs.Runs.{Packets, Placed, run, before, observed, is_observed}
use Rattle.model.specs.Watches.{Whole, Finding, RoundLaw}
use Rattle.model.specs.Clock.{carries_pcr, later, last_pcr, elapsed, judged, clock_finding}
use Rattle.laws.proofs.Bytes.{Packet, clock_lt}
use Rattle.laws.proofs.SoundForm.{clock_extension}
use Rattle.laws.proofs.Moved.{long_packet}
use Rattle.laws.proofs.Rounds.{run_packet, on_sound, on_pid, on_clock, on_value}
use Rattle.laws.proofs.Loop.{Fine, shift, shift_here, law_from, observed_next?}
use Rattle.laws.proofs.StampsLaw.{fine_from, found_from}

abbrev onto : (Placed → Placed) → Option Placed → Option Placed
onto g None = None
onto g (Some y) = Some (g y)

later_none : (a : Option Placed) → later a None ≡ a
later_none None = refl
later_none (Some x) = refl

later_assoc : (a b c : Option Placed) → later (later a b) c ≡ later a (later b c)
later_assoc None b c = refl
later_assoc (Some x) b c = refl

last_append : (es : List Entry) (q : ℕ) (xs ys : List Placed) → last_pcr es q (xs ++ ys) ≡ later (last_pcr es q ys) (last_pcr es q xs)
last_append es q [] ys = sym (later_none (last_pcr es q ys))
last_append es q (x ∷ xs) ys = ap (λ y. later y (cond (carries_pcr es q x) (Some x) None)) (last_append es q xs ys) ∙ later_assoc (last_pcr es q ys) (last_pcr es q xs) _

-- every one has a packet
abbrev pub Packets! : List Placed → Type 0
Packets! [] = Unit
Packets! (x ∷ xs) = Packet x.bytes × Packets! xs

packets_push : (xs : List Placed) (x : Placed) → Packets! xs → Packet x.bytes → Packets! (xs ++ x ∷ [])
packets_push [] x h g = (g, tt)
packets_push (y ∷ xs) x h g = (h.0, packets_push xs x h.1 g)

last_map : (es : List Entry) (q : ℕ) (g : Placed → Placed) → ((x : Placed) → Packet x.bytes → carries_pcr es q (g x) ≡ carries_pcr es q x) → (xs : List Placed) → Packets! xs →
    last_pcr es q (map g xs) ≡ onto g (last_pcr es q xs)
last_map es q g h [] k = refl
last_map es q g h (x ∷ xs) k =
    ap (λ y. later y (cond (carries_pcr es q (g x)) (Some (g x)) None)) (last_map es q g h xs k.1)
    ∙ ap (λ y. later (onto g (last_pcr es q xs)) (cond y (Some (g x)) None)) (h x k.0)
    ∙ both (last_pcr es q xs) (carries_pcr es q x)
  where
    both : (o : Option Placed) (b : Bool) → later (onto g o) (cond b (Some (g x)) None) ≡ onto g (later o (cond b (Some x) None))
    both None true = refl
    both None false = refl
    both (Some y) b = refl

-- the last one, where there is one
pub record Last (es : List Entry) (q : ℕ) (xs : List Placed) : Type 0 where
  pub one : Placed
  pub is : last_pcr es q xs ≡ Some one
  pub ticking : carries_pcr es q one ≡ true
  pub packet : Packet one.bytes

last_push_yes : (es : List Entry) (q : ℕ) (xs : List Placed) (x : Placed) → carries_pcr es q x ≡ true → Packet x.bytes → Last es q (xs ++ x ∷ [])
last_push_yes es q xs x t g = record { one = x; is = last_append es q xs (x ∷ []) ∙ ap (λ y. later y (last_pcr es q xs)) (cond-true (carries_pcr es q x) (Some x) None t); ticking = t; packet = g }

last_push_no : (es : List Entry) (q : ℕ) (xs : List Placed) (x : Placed) → carries_pcr es q x ≡ false → Last es q xs → Last es q (xs ++ x ∷ [])
last_push_no es q xs x t l = record { one = l.one; is = last_append es q xs (x ∷ []) ∙ ap (λ y. later y (last_pcr es q xs)) (cond-false (carries_pcr es q x) (Some x) None t) ∙ l.is; ticking = l.ticking; packet = l.packet }

leb_same : (a b c d : ℕ) → (a ≤ b → c ≤ d) → (c ≤ d → a ≤ b) → leb c d ≡ leb a b
leb_same a b c d f g = elim (cases_Bool (leb a b)) [
  | inl h ↦ le-leb c d (f (leb-true a b h)) ∙ sym h
  | inr h ↦ elim (cases_Bool (leb c d)) [ inl k ↦ absurd (both_ways (leb a b) h (le-leb a b (g (leb-true c d k)))) | inr k ↦ k ∙ sym h ]
]

elapsed_same : (a b T c d : ℕ) → a < W → b < W → c ≡ (a + T) % W → d ≡ (b + T) % W → (c + W - d) % W ≡ (a + W - b) % W
elapsed_same a b T c d ha hb e f = omega arith

module _ (es : List Entry) (T : ℕ) (ps : Packets) (w : Whole ps) (z : T % 300 ≡ 0) (fine : Fine es T ps w z) where
  abbrev n : ℕ
  n = length ps

  abbrev r : ℕ → Bytes
  r = run es T ps

  abbrev sh : Placed → Placed
  sh = shift es T ps w z fine

  carries_pcr_shift : (q : ℕ) (x : Placed) → Packet x.bytes → carries_pcr es q (sh x) ≡ carries_pcr es q x
  unfolding shift
  carries_pcr_shift q x g = let p = x.bytes in rw (on_sound es T ps w z p g, on_pid es T ps w z p g, on_clock es T ps w z p g)

  pid_shift : (x : Placed) → Packet x.bytes → pid (sh x).bytes ≡ pid x.bytes
  unfolding shift
  pid_shift x g = on_pid es T ps w z x.bytes g

  pub observed_packets : (k : ℕ) → Packets! (observed es T ps k)
  observed_packets zero = tt
  observed_packets (suc k) = elim (cases_Bool (is_observed es (before r k) (r k))) [
    | inl h ↦ rw h (packets_push (observed es T ps k) _ (observed_packets k) (run_packet es T ps w z k))
    | inr h ↦ rw h (observed_packets k)
  ]

  -- after a place that ticks there is a last one
  last_there : (q k i : ℕ) → i < k → is_observed es (before r i) (r i) ≡ true → carries_pcr es q (record { place = i; bytes = r i }) ≡ true → Last es q (observed es T ps k)
  last_there q zero i h t a = absurd (let e : suc i ≤ zero = h in none i e)
    where
      none : (i : ℕ) → i < zero → ⊥
      none i h = omega arith
  last_there q (suc k) i h t a = elim (cases_lt i k) [
    | inl l ↦
        let ih = last_there q k i l t a in
        elim (cases_Bool (is_observed es (before r k) (r k))) [
          | inl y ↦ rw y (elim (cases_Bool (carries_pcr es q (record { place = k; bytes = r k }))) [
            | inl v ↦ last_push_yes es q (observed es T ps k) (record { place = k; bytes = r k }) v (run_packet es T ps w z k)
            | inr v ↦ last_push_no es q (observed es T ps k) (record { place = k; bytes = r k }) v ih
          ])
          | inr y ↦ rw y ih
        ]
    | inr l ↦
        let e : i ≡ k = omega arith in
        let t2 : is_observed es (before r k) (r k) ≡ true = subst (λ j. is_observed es (before r j) (r j) ≡ true) e t in
        let a2 : carries_pcr es q (record { place = k; bytes = r k }) ≡ true = subst (λ j. carries_pcr es q (record { place = j; bytes = r j }) ≡ true) e a in
        rw t2 (last_push_yes es q (observed es T ps k) (record { place = k; bytes = r k }) a2 (run_packet es T ps w z k))
  ]

  -- what ticks has a clock value that moves
  carries_pcr_moves : (q : ℕ) (x : Placed) → carries_pcr es q x ≡ true → (moves es x.bytes ≡ true) × (has_pcr x.bytes ≡ true) × (sound es x.bytes ≡ true)
  carries_pcr_moves q x t =
      let p = x.bytes in
      let s = and_parts (sound es p) _ t in
      let c = and_parts (is_clock (kind_of es q)) _ s.1 in
      let e = and_parts (eqb (pid p) q) _ c.1 in
      let l : is_clock (kind_of es (pid p)) ≡ true = ap (λ y. is_clock (kind_of es y)) (eqb-true (pid p) q e.0) ∙ c.0 in
      (and_from (sound es p) _ s.0 (clock_listed (kind_of es (pid p)) l), e.1, s.0)
    where
      clock_listed : (o : Option Kind) → is_clock o ≡ true → listed o ≡ true
      clock_listed None h = absurd (both_ways false refl h)
      clock_listed (Some k) h = refl

  value_lt : (q : ℕ) (x : Placed) → Packet x.bytes → carries_pcr es q x ≡ true → pcr x.bytes < W
  value_lt q x g t = let m = carries_pcr_moves q x t in clock_lt x.bytes g (clock_extension es x.bytes m.2 m.1) (long_packet x.bytes g)

  value_shift : (q : ℕ) (x : Placed) → Packet x.bytes → carries_pcr es q x ≡ true → pcr (sh x).bytes ≡ (pcr x.bytes + T) % W
  unfolding shift
  value_shift q x g t = let m = carries_pcr_moves q x t in on_value es T ps w z x.bytes g m.0 m.1

  place_shift : (x : Placed) → (sh x).place ≡ n + x.place
  unfolding shift
  place_shift x = refl

  judged_shift : (rate q : ℕ) (y x : Placed) → Packet y.bytes → Packet x.bytes → carries_pcr es q y ≡ true → carries_pcr es q x ≡ true →
      judged rate (Some (sh y)) (sh x) ≡ judged rate (Some y) x
  judged_shift rate q y x gy gx ty tx =
      let e : elapsed (sh y) (sh x) ≡ elapsed y x = elapsed_same (pcr x.bytes) (pcr y.bytes) T _ _ (value_lt q x gx tx) (value_lt q y gy ty) (value_shift q x gx tx) (value_shift q y gy ty) in
      let px = place_shift x in
      let py = place_shift y in
      let d : (sh x).place - (sh y).place ≡ x.place - y.place = omega arith in
      let a : leb (suc (sh y).place) (sh x).place ≡ leb (suc y.place) x.place = leb_same (suc y.place) x.place _ _ (λ v. omega arith) (λ v. omega arith) in
      let b : leb (sh x).place ((sh y).place + 10000) ≡ leb x.place (y.place + 10000) = leb_same x.place (y.place + 10000) _ _ (λ v. omega arith) (λ v. omega arith) in
      rw (e, d, a, b)

  abbrev at : ℕ → Placed
  at k = record { place = k; bytes = r k }

  clock_same : (rate k : ℕ) → n ≤ k → is_observed es (before r k) (r k) ≡ true →
      clock_finding es rate (observed es T ps n ++ map sh (observed es T ps k)) (sh (at k)) ≡ clock_finding es rate (observed es T ps k) (at k)
  clock_same rate k h t =
      let q : ℕ = pid (r k) in
      let g : Packet (r k) = run_packet es T ps w z k in
      let i : ℕ = k - n in
      let e : n + i ≡ k = omega arith in
      ap (λ y. cond (carries_pcr es y (sh (at k))) (judged rate (last_pcr es y (observed es T ps n ++ map sh (observed es T ps k))) (sh (at k))) None) (pid_shift (at k) g) ∙
      (elim (cases_Bool (carries_pcr es q (at k))) [
        | inl a ↦
            let th : is_observed es (before r i) (r i) ≡ true = sym (observed_next? es T ps w z fine i) ∙ subst (λ j. is_observed es (before r j) (r j) ≡ true) (sym e) t in
            let tk : carries_pcr es q (at i) ≡ true = sym (carries_pcr_shift q (at i) (run_packet es T ps w z i)) ∙ ap (carries_pcr es q) (sym (shift_here es T ps w z fine i)) ∙ subst (λ j. carries_pcr es q (at j) ≡ true) (sym e) a in
            let l : Last es q (observed es T ps k) = last_there q k i (let pos = w.some in omega arith) th tk in
            let le : last_pcr es q (observed es T ps n ++ map sh (observed es T ps k)) ≡ Some (sh l.one) =
            last_append es q (observed es T ps n) (map sh (observed es T ps k))
            ∙ ap (λ y. later y (last_pcr es q (observed es T ps n))) (last_map es q sh (carries_pcr_shift q) (observed es T ps k) (observed_packets k) ∙ ap (onto sh) l.is) in
            cond-true (carries_pcr es q (sh (at k))) _ _ (carries_pcr_shift q (at k) g ∙ a)
            ∙ ap (λ y. judged rate y (sh (at k))) le
            ∙ judged_shift rate q l.one (at k) l.packet g l.ticking a
            ∙ ap (λ y. judged rate y (at k)) (sym l.is)
            ∙ sym (cond-true (carries_pcr es q (at k)) _ _ a)
        | inr a ↦ cond-false (carries_pcr es q (sh (at k))) _ _ (carries_pcr_shift q (at k) g ∙ a) ∙ sym (cond-false (carries_pcr es q (at k)) _ _ a)
      ])

pub clock_law : (es : List Entry) (T rate : ℕ) → T % 300 ≡ 0 → RoundLaw es T (clock_finding es rate)
clock_law es T rate z ps w h =
    let f : Finding = clock_finding es rate in
    let fine : Fine es T ps w z = fine_from es T f ps w z h in
    law_from es T ps w z fine f (clock_same es T ps w z fine rate) (found_from es T f ps h)
