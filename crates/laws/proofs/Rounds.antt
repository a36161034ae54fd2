-- The endless run: each round is the one before it, moved on.
use Rattle.std.proofs.Common.{◌≡◌, ℕ, zero, ◌+◌, ◌*◌, ◌/◌, ◌%◌, ◌<◌, true, false, eqb, List, [], ◌∷◌, length, get_or, sym, refl, ap, ◌∙◌, inl, inr, mod-lt, mod-eq_of_lt, mul_assoc, add-mul, one-mul, arith}
use native.Mathlib.Nat.{add-div_left, add-mod_left, div-eq_of_lt, mul-mod_left}
use Rattle.std.proofs.lemmas.Bool.{cases_Bool, and_parts, both_ways, eqb-true, eq-eqb}
use Rattle.model.specs.declared.entry.Entry.{Entry}
use Rattle.model.specs.Packet.{Bytes, pid, continuity_counter, has_payload, is_null, payload_unit_start, has_pcr, pcr, payload}
use Rattle.model.specs.Stamps.{starts_pes, stamped}
use Rattle.model.specs.Form.{form, sound}
use Rattle.model.specs.Moves.{moved, moves, W, stampable}
use Rattle.model.specs.Runs.{Packets, same, precedes, tally, run}
use Rattle.model.specs.Watches.{Whole}
use Rattle.laws.proofs.Small.{small_from}
use Rattle.laws.proofs.Bytes.{Packet}
use Rattle.laws.proofs.Moved.{moved_start, moved_clock, moved_value, moved_pes, moved_stamped, moved_payload, moved_packet, moved_form, moved_sound, moved_pid, moved_flag, moved_continuity_counter, moved_add, moved_none, moved_injective}

-- equality of bytes
pub same_true : (p q : Bytes) → same p q ≡ true → p ≡ q
same_true [] [] h = refl
same_true [] (b ∷ q) h = absurd (both_ways false refl h)
same_true (a ∷ p) [] h = absurd (both_ways false refl h)
same_true (a ∷ p) (b ∷ q) h = let e = eqb-true a b (and_parts (eqb a b) (same p q) h).0 in let f = same_true p q (and_parts (eqb a b) (same p q) h).1 in cc

pub same_refl : (p : Bytes) → same p p ≡ true
same_refl [] = refl
same_refl (a ∷ p) = rw (eq-eqb a a refl, same_refl p)

same_from : (p q r s : Bytes) → (p ≡ q → r ≡ s) → (r ≡ s → p ≡ q) → same r s ≡ same p q
same_from p q r s f g = elim (cases_Bool (same p q)) [
  | inl h ↦ ap (λ x. same r x) (sym (f (same_true p q h))) ∙ same_refl r ∙ sym h
  | inr h ↦ elim (cases_Bool (same r s)) [
    | inl k ↦ absurd (both_ways (same p q) h (ap (λ x. same p x) (sym (g (same_true r s k))) ∙ same_refl p))
    | inr k ↦ k ∙ sym h
  ]
]

-- copies stay copies, and others stay others
pub moved_same : (es : List Entry) (c t : ℕ) (p q : Bytes) → Packet p → Packet q → t % 300 ≡ 0 → same (moved es c t p) (moved es c t q) ≡ same p q
moved_same es c t p q k l z = same_from p q (moved es c t p) (moved es c t q) (ap (moved es c t)) (moved_injective es c t p q k l z)

pub times300 : (j T : ℕ) → T % 300 ≡ 0 → j * T % 300 ≡ 0
times300 j T h =
    let e : T ≡ T / 300 * 300 = omega arith in
    ap (λ x. j * x % 300) e ∙ ap (λ x. x % 300) (sym (mul_assoc j (T / 300) 300)) ∙ mul-mod_left (j * (T / 300)) 300

module _ (es : List Entry) (T : ℕ) (ps : Packets) (w : Whole ps) (z : T % 300 ≡ 0) where
  abbrev n : ℕ
  n = length ps

  pos : zero < n
  pos = w.some

  pub reel_packet : (i : ℕ) → i < n → Packet (get_or ps i [])
  reel_packet i h = record { sized = w.sized i h; small = small_from (get_or ps i []) (λ k l. w.small i k h (let e = w.sized i h in omega arith)) }

  pub in_reel : (k : ℕ) → k % n < n
  in_reel k = mod-lt k pos

  pub run_packet : (k : ℕ) → Packet (run es T ps k)
  unfolding run
  run_packet k = moved_packet es _ _ (get_or ps (k % n) []) (reel_packet (k % n) (in_reel k))

  unfoldable pub onward : Bytes → Bytes
  onward p = moved es (tally es ps (pid p)) T p

  pub run_first : (k : ℕ) → k < n → run es T ps k ≡ get_or ps k []
  unfolding run
  run_first k h =
      let p : Bytes = get_or ps k [] in
      ap (λ x. moved es (x * tally es ps (pid (get_or ps (k % n) []))) (x * T) (get_or ps (k % n) [])) (div-eq_of_lt h)
      ∙ ap (λ x. moved es (0 * tally es ps (pid (get_or ps x []))) (0 * T) (get_or ps x [])) (mod-eq_of_lt h)
      ∙ moved_none es (0 * tally es ps (pid p)) (0 * T) p (reel_packet k h) (omega arith) (omega arith)

  pub run_form : (k : ℕ) → form es (run es T ps k) ≡ form es (get_or ps (k % n) [])
  unfolding run
  run_form k = moved_form es _ _ (get_or ps (k % n) []) (reel_packet (k % n) (in_reel k))

  pub run_next : (k : ℕ) → run es T ps (n + k) ≡ onward (run es T ps k)
  unfolding run onward
  run_next k =
      let p : Bytes = get_or ps (k % n) [] in
      let g : Packet p = reel_packet (k % n) (in_reel k) in
      let j : ℕ = k / n in
      let y : ℕ = tally es ps (pid p) in
      let e : pid (moved es (j * y) (j * T) p) ≡ pid p = moved_pid es (j * y) (j * T) p g in
      ap (λ x. moved es (x * tally es ps (pid (get_or ps ((n + k) % n) []))) (x * T) (get_or ps ((n + k) % n) [])) (add-div_left k pos)
      ∙ ap (λ x. moved es ((j + 1) * tally es ps (pid (get_or ps x []))) ((j + 1) * T) (get_or ps x [])) (add-mod_left n k)
      ∙ ap (λ x. moved es x ((j + 1) * T) p) (add-mul j 1 y ∙ ap (λ x. j * y + x) (one-mul y))
      ∙ ap (λ x. moved es (j * y + y) x p) (add-mul j 1 T ∙ ap (λ x. j * T + x) (one-mul T))
      ∙ sym (moved_add es (j * y) (j * T) y T p g (times300 j T z))
      ∙ ap (λ x. moved es (tally es ps x) T (moved es (j * y) (j * T) p)) (sym e)

  -- what a round more keeps
  module _ (p : Bytes) (g : Packet p) where
    pub on_packet : Packet (onward p)
    unfolding onward
    on_packet = moved_packet es _ T p g

    pub on_sound : sound es (onward p) ≡ sound es p
    unfolding onward
    on_sound = moved_sound es _ T p g

    pub on_pid : pid (onward p) ≡ pid p
    unfolding onward
    on_pid = moved_pid es _ T p g

    pub on_flag : has_payload (onward p) ≡ has_payload p
    unfolding onward
    on_flag = moved_flag es _ T p g

    pub on_null : is_null (onward p) ≡ is_null p
    on_null = ap (λ x. eqb x 8191) on_pid

    pub on_continuity_counter : moves es p ≡ true → continuity_counter (onward p) ≡ (continuity_counter p + tally es ps (pid p)) % 16
    unfolding onward
    on_continuity_counter h = moved_continuity_counter es _ T p g h

    pub on_start : payload_unit_start (onward p) ≡ payload_unit_start p
    unfolding onward
    on_start = moved_start es _ T p g

    pub on_clock : has_pcr (onward p) ≡ has_pcr p
    unfolding onward
    on_clock = moved_clock es _ T p g

    pub on_value : moves es p ≡ true → has_pcr p ≡ true → pcr (onward p) ≡ (pcr p + T) % W
    unfolding onward
    on_value h f = moved_value es _ T p g h f

    pub on_pes : starts_pes es (onward p) ≡ starts_pes es p
    unfolding onward
    on_pes = moved_pes es _ T p g

    pub on_stamped : stamped (payload (onward p)) ≡ stamped (payload p)
    unfolding onward
    on_stamped = moved_stamped es _ T p g

    pub on_payload : stampable es p ≡ false → payload (onward p) ≡ payload p
    unfolding onward
    on_payload h = moved_payload es _ T p g h

  pub on_same : (p q : Bytes) → Packet p → Packet q → pid p ≡ pid q → same (onward p) (onward q) ≡ same p q
  unfolding onward
  on_same p q g h e = ap (λ x. same (moved es (tally es ps x) T p) (moved es (tally es ps (pid q)) T q)) e ∙ moved_same es (tally es ps (pid q)) T p q g h z

  pub on_precedes : (p q : Bytes) → Packet p → Packet q → precedes es (onward p) (onward q) ≡ precedes es p q
  on_precedes p q g h = rw (on_sound p g, on_pid p g, on_pid q h)
