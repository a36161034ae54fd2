-- A packet moved on: what is kept, and that two moves are one.
use Rattle.std.proofs.Common.{◌≡◌, ℕ, ◌+◌, ◌-◌, ◌*◌, ◌/◌, ◌%◌, ◌<◌, true, false, cond, ◌&&◌, ltb, List, ◌++◌, length, take, drop, sym, refl, ap, ◌∙◌, inl, inr, arith, lit<, lit≤}
use lib.Seq.{take-append-add}
use Rattle.std.proofs.lemmas.Bool.{both_ways, cases_Bool, cond-true, cond-false, and_parts, le-ltb}
use Rattle.std.proofs.lemmas.List.{take_at, drop_at, length-take-le, length-append, length-drop, take-append-drop, get_or-drop}
use Rattle.std.proofs.lemmas.Slice.{between_is}
use Rattle.model.specs.declared.entry.Entry.{Entry}
use Rattle.model.specs.Packet.{Bytes, byte, bit, payload_unit_start, has_payload, pid, has_pcr, pcr_extension, pcr, continuity_counter, payload_place, payload}
use Rattle.model.specs.Form.{form, sound, adaptation_stuffing}
use Rattle.model.specs.Stamps.{starts_pes, stamped, stamp_tests, has_pts, has_dts, stamp}
use Rattle.model.specs.Moves.{W, stamps, move_header, move_stamps, moved, moves, stampable}
use Rattle.laws.proofs.Small.{small_at, small_append, small_take, small_drop}
use Rattle.laws.proofs.Bytes.{Packet, Long, view, Like, like_form, like_adaptation_flags, like_place, like_pid, like_start, like_payload}
use Rattle.laws.proofs.StampBytes.{Shape, shape, stamps_add, stamps_none, stamps_length, stamps_first, stamps_stamped, stamps_small, stamps_pts, stamps_dts}
use Rattle.laws.proofs.Header.{header_like, header_flag, header_continuity_counter, header_value, header_extension, header_add, header_none, header_length, header_drop, header_front, header_small, at_front, like_trans, value_front}
use Rattle.laws.proofs.SoundForm.{all_at, place_low, place_high, clock_place, clock_extension}
use Rattle.model.specs.Tests.{is_none}

-- the cases of a move
pub still : (es : List Entry) (c t : ℕ) (p : Bytes) → moves es p ≡ false → moved es c t p ≡ p
unfolding moved
still es c t p h = cond-false (moves es p) _ _ h

pub header_only : (es : List Entry) (c t : ℕ) (p : Bytes) → moves es p ≡ true → stampable es p ≡ false → moved es c t p ≡ move_header c t p
unfolding moved
header_only es c t p h k = cond-true (moves es p) _ _ h ∙ cond-false (stampable es p) _ _ k

pub with_stamps : (es : List Entry) (c t : ℕ) (p : Bytes) → moves es p ≡ true → stampable es p ≡ true →
    moved es c t p ≡ take (payload_place p) (move_header c t p) ++ move_stamps (t / 300) (payload p)
unfolding moved
with_stamps es c t p h k = cond-true (moves es p) _ _ h ∙ cond-true (stampable es p) _ _ k

pub long_packet : (p : Bytes) → Packet p → Long p
long_packet p k = view p (omega (arith, k.sized))

-- the payload obeys rule 30, so it has the shape
stamped_shape : (u : Bytes) → stamped u ≡ true → Shape u
stamped_shape u h =
    shape u (all_at (stamp_tests u) h 8)

-- the packet m differs from p in its counter, its clock value and its stamps alone
pub record Kept (es : List Entry) (p m : Bytes) : Type 0 where
  pub like : Like p m
  pub stuffing : adaptation_stuffing m ≡ adaptation_stuffing p
  pub extension : ltb 299 (pcr_extension m) ≡ ltb 299 (pcr_extension p)
  pub starts : stamped (payload m) ≡ stamped (payload p)

-- the header moved, and other bytes from the payload on, of which the first nine are kept
module _ (es : List Entry) (p : Bytes) (k : Packet p) (s : sound es p ≡ true) (c t : ℕ) where
  abbrev q : Bytes
  q = move_header c t p

  abbrev a : ℕ
  a = payload_place p

  q_length : length q ≡ 188
  q_length = header_length p (long_packet p k) c t ∙ k.sized

  q_payload : drop a q ≡ payload p
  q_payload = header_drop p c t a (place_low es p s) (clock_place es p s)

  front_length : length (take a q) ≡ a
  front_length = length-take-le a q (let e = q_length in let h = place_high es p s in omega arith)

  q_stuffing : adaptation_stuffing q ≡ adaptation_stuffing p
  q_stuffing =
      let l : payload_place q ≡ a = like_place p q (header_like p (long_packet p k) c t) in
      let f : has_pcr q ≡ has_pcr p = header_flag p (long_packet p k) c t in
      let d : drop (cond (has_pcr p) 12 6) q ≡ drop (cond (has_pcr p) 12 6) p = elim (cases_Bool (has_pcr p)) [
        | inl h ↦ rw h (header_drop p c t 12 (lit≤ tt) (λ _. lit≤ tt))
        | inr h ↦ rw h (header_drop p c t 6 (lit≤ tt) (λ g. absurd (both_ways (has_pcr p) h g)))
      ] in
      rw (f, l, d)

  q_extension : ltb 299 (pcr_extension q) ≡ ltb 299 (pcr_extension p)
  q_extension = elim (cases_Bool (has_pcr p)) [
    | inl h ↦ le-ltb 299 (pcr_extension q) (let x = header_extension p (long_packet p k) c t h in omega arith)
        ∙ sym (le-ltb 299 (pcr_extension p) (let x = clock_extension es p s h in omega arith))
    | inr h ↦ ap (ltb 299) (
        let d : drop 4 q ≡ drop 4 p = header_drop p c t 4 (lit≤ tt) (λ g. absurd (both_ways (has_pcr p) h g)) in
        let x : byte q 10 ≡ byte p 10 = sym (get_or-drop 4 q 6 0) ∙ ap (λ r. byte r 6) d ∙ get_or-drop 4 p 6 0 in
        let y : byte q 11 ≡ byte p 11 = sym (get_or-drop 4 q 7 0) ∙ ap (λ r. byte r 7) d ∙ get_or-drop 4 p 7 0 in
        rw (x, y))
  ]

  q_kept : Kept es p q
  q_kept =
      let l : Like p q = header_like p (long_packet p k) c t in
      record { like = l; stuffing = q_stuffing; extension = q_extension; starts = ap stamped (ap (λ x. drop x q) (like_place p q l) ∙ q_payload) }

  module _ (st : stamped (payload p) ≡ true) where
    abbrev u : Bytes
    u = payload p

    abbrev v : Bytes
    v = move_stamps (t / 300) u

    abbrev m : Bytes
    m = take a q ++ v

    sh : Shape u
    sh = stamped_shape u st

    m_payload : drop a m ≡ v
    m_payload = drop_at (take a q) v a front_length

    m_front : take a m ≡ take a q
    m_front = take_at (take a q) v a front_length

    take_more : take (a + 9) m ≡ take (a + 9) q
    take_more =
        ap (λ x. take (x + 9) m) (sym front_length)
        ∙ take-append-add (take a q) v 9
        ∙ ap (λ x. take a q ++ x) (stamps_first u sh (t / 300))
        ∙ ap (λ x. take a q ++ take 9 x) (sym q_payload)
        ∙ sym (take-append-add (take a q) (drop a q) 9)
        ∙ ap (λ x. take (x + 9) (take a q ++ drop a q)) front_length
        ∙ ap (take (a + 9)) (take-append-drop a q)

    at : (i : ℕ) → i < 12 → byte m i ≡ byte q i
    at i h = at_front m q (a + 9) i (let l = place_low es p s in omega arith) take_more

    q_m : Like q m
    q_m = record { b0 = at 0 (lit< tt); b1 = at 1 (lit< tt); b2 = at 2 (lit< tt); b3 = ap (λ x. x / 16) (at 3 (lit< tt)); b4 = at 4 (lit< tt); b5 = at 5 (lit< tt) }

    m_like : Like p m
    m_like = like_trans p q m (header_like p (long_packet p k) c t) q_m

    m_stuffing : adaptation_stuffing m ≡ adaptation_stuffing p
    m_stuffing =
        let f : has_pcr m ≡ has_pcr q = ap (λ x. bit 4 x) (like_adaptation_flags q m q_m) in
        let l : payload_place m ≡ a = like_place p m m_like in
        let l2 : payload_place q ≡ a = like_place p q (header_like p (long_packet p k) c t) in
        let w : ℕ = cond (has_pcr q) 12 6 in
        (rw (f, l)) ∙ between_is m w a ∙ ap (drop w) m_front ∙ sym (between_is q w a) ∙ (let z : take (a - w) (drop w q) ≡ adaptation_stuffing q = rw l2 in z) ∙ q_stuffing

    m_extension : ltb 299 (pcr_extension m) ≡ ltb 299 (pcr_extension p)
    m_extension = (let x = at 10 (lit< tt) in let y = at 11 (lit< tt) in rw (x, y)) ∙ q_extension

    m_kept : Kept es p m
    m_kept = record { like = m_like; stuffing = m_stuffing; extension = m_extension; starts = ap stamped (ap (λ x. drop x m) (like_place p m m_like) ∙ m_payload) ∙ stamps_stamped u sh (t / 300) }

    m_length : length m ≡ 188
    m_length = length-append (take a q) v ∙ (let x = front_length in let y = stamps_length u sh (t / 300) in let z = length-drop a p in let h = place_high es p s in let g = k.sized in omega arith)

-- what every move keeps
kept_refl : (es : List Entry) (p : Bytes) → Kept es p p
kept_refl es p = record { like = record { b0 = refl; b1 = refl; b2 = refl; b3 = refl; b4 = refl; b5 = refl }; stuffing = refl; extension = refl; starts = refl }

pub moves_sound : (es : List Entry) (p : Bytes) → moves es p ≡ true → sound es p ≡ true
moves_sound es p h = (and_parts (sound es p) _ h).0

module _ (es : List Entry) (c t : ℕ) (p : Bytes) (k : Packet p) where
  pub moved_kept : Kept es p (moved es c t p)
  moved_kept = elim (cases_Bool (moves es p)) [
    | inl h ↦ elim (cases_Bool (stampable es p)) [
      | inl g ↦ rw (with_stamps es c t p h g) (m_kept es p k (moves_sound es p h) c t (and_parts (starts_pes es p) _ g).1)
      | inr g ↦ rw (header_only es c t p h g) (q_kept es p k (moves_sound es p h) c t)
    ]
    | inr h ↦ rw (still es c t p h) (kept_refl es p)
  ]

  pub moved_packet : Packet (moved es c t p)
  moved_packet = elim (cases_Bool (moves es p)) [
    | inl h ↦ elim (cases_Bool (stampable es p)) [
      | inl g ↦
          let s = moves_sound es p h in
          let st : stamped (payload p) ≡ true = (and_parts (starts_pes es p) _ g).1 in
          rw (with_stamps es c t p h g) (record { sized = m_length es p k s c t st; small = small_append _ _ (small_take _ _ (header_small p k.small c t)) (stamps_small _ (stamped_shape _ st) (small_drop _ p k.small) _) })
      | inr g ↦ rw (header_only es c t p h g) (record { sized = q_length es p k (moves_sound es p h) c t; small = header_small p k.small c t })
    ]
    | inr h ↦ rw (still es c t p h) k
  ]

  pub moved_form : form es (moved es c t p) ≡ form es p
  moved_form = like_form p (moved es c t p) moved_kept.like es moved_kept.stuffing moved_kept.extension

  pub moved_sound : sound es (moved es c t p) ≡ sound es p
  moved_sound = ap is_none moved_form

  pub moved_pid : pid (moved es c t p) ≡ pid p
  moved_pid = like_pid p (moved es c t p) moved_kept.like

  pub moved_start : payload_unit_start (moved es c t p) ≡ payload_unit_start p
  moved_start = like_start p (moved es c t p) moved_kept.like

  pub moved_flag : has_payload (moved es c t p) ≡ has_payload p
  moved_flag = like_payload p (moved es c t p) moved_kept.like

  pub moved_clock : has_pcr (moved es c t p) ≡ has_pcr p
  moved_clock = ap (λ x. bit 4 x) (like_adaptation_flags p (moved es c t p) moved_kept.like)

  pub moved_place : payload_place (moved es c t p) ≡ payload_place p
  moved_place = like_place p (moved es c t p) moved_kept.like

  pub moved_moves : moves es (moved es c t p) ≡ moves es p
  moved_moves = rw (moved_sound, moved_pid)

  pub moved_pes : starts_pes es (moved es c t p) ≡ starts_pes es p
  moved_pes = rw (moved_pid, moved_start, moved_flag)

  pub moved_stamped : stamped (payload (moved es c t p)) ≡ stamped (payload p)
  moved_stamped = moved_kept.starts

  pub moved_stampable : stampable es (moved es c t p) ≡ stampable es p
  moved_stampable = ap (λ x. x && stamped (payload (moved es c t p))) moved_pes ∙ ap (λ x. starts_pes es p && x) moved_stamped

  pub moved_continuity_counter : moves es p ≡ true → continuity_counter (moved es c t p) ≡ (continuity_counter p + c) % 16
  moved_continuity_counter h = elim (cases_Bool (stampable es p)) [
    | inl g ↦ rw (with_stamps es c t p h g)
        (ap (λ x. x % 16) (at es p k (moves_sound es p h) c t (and_parts (starts_pes es p) _ g).1 3 (lit< tt)) ∙ header_continuity_counter p (long_packet p k) c t)
    | inr g ↦ rw (header_only es c t p h g) (header_continuity_counter p (long_packet p k) c t)
  ]

  pub moved_value : moves es p ≡ true → has_pcr p ≡ true → pcr (moved es c t p) ≡ (pcr p + t) % W
  moved_value h f = elim (cases_Bool (stampable es p)) [
    | inl g ↦
        let s = moves_sound es p h in
        rw (with_stamps es c t p h g)
        (value_front _ _ (payload_place p) (clock_place es p s f) (m_front es p k s c t (and_parts (starts_pes es p) _ g).1) ∙ header_value p (long_packet p k) c t f)
    | inr g ↦ rw (header_only es c t p h g) (header_value p (long_packet p k) c t f)
  ]

  pub moved_payload : stampable es p ≡ false → payload (moved es c t p) ≡ payload p
  moved_payload g = elim (cases_Bool (moves es p)) [
    | inl h ↦ ap (λ x. drop x (moved es c t p)) moved_place ∙ ap (drop (payload_place p)) (header_only es c t p h g) ∙ q_payload es p k (moves_sound es p h) c t
    | inr h ↦ ap payload (still es c t p h)
  ]

  pub moved_stamps : moves es p ≡ true → stampable es p ≡ true → payload (moved es c t p) ≡ move_stamps (t / 300) (payload p)
  moved_stamps h g =
      ap (λ x. drop x (moved es c t p)) moved_place
      ∙ ap (drop (payload_place p)) (with_stamps es c t p h g)
      ∙ m_payload es p k (moves_sound es p h) c t (and_parts (starts_pes es p) _ g).1

  pub moved_pts : moves es p ≡ true → stampable es p ≡ true → has_pts (payload p) ≡ true → stamp (payload (moved es c t p)) 9 ≡ (stamp (payload p) 9 + t / 300) % stamps
  moved_pts h g f = ap (λ x. stamp x 9) (moved_stamps h g) ∙ stamps_pts (payload p) (stamped_shape (payload p) (and_parts (starts_pes es p) _ g).1) (t / 300) f

  pub moved_dts : moves es p ≡ true → stampable es p ≡ true → has_dts (payload p) ≡ true → stamp (payload (moved es c t p)) 14 ≡ (stamp (payload p) 14 + t / 300) % stamps
  moved_dts h g f = ap (λ x. stamp x 14) (moved_stamps h g) ∙ stamps_dts (payload p) (stamped_shape (payload p) (and_parts (starts_pes es p) _ g).1) (t / 300) f

parts300 : (t v : ℕ) → t % 300 ≡ 0 → t / 300 + v / 300 ≡ (t + v) / 300
parts300 t v h = omega arith

none300 : (t : ℕ) → t % W ≡ 0 → t / 300 % stamps ≡ 0
none300 t h = omega arith

module _ (es : List Entry) where
  -- two moves are one
  pub moved_add : (c t d v : ℕ) (p : Bytes) → Packet p → t % 300 ≡ 0 → moved es d v (moved es c t p) ≡ moved es (c + d) (t + v) p
  moved_add c t d v p k z =
      let n : Bytes = moved es c t p in
      elim (cases_Bool (moves es p)) [
        | inl h ↦ elim (cases_Bool (stampable es p)) [
          | inl g ↦
              let s = moves_sound es p h in
              let st : stamped (payload p) ≡ true = (and_parts (starts_pes es p) _ g).1 in
              let e : n ≡ m es p k s c t st = with_stamps es c t p h g in
              let hm : moves es n ≡ true = moved_moves es c t p k ∙ h in
              let gm : stampable es n ≡ true = moved_stampable es c t p k ∙ g in
              let pl : payload_place n ≡ payload_place p = moved_place es c t p k in
              let fr : take (payload_place p) n ≡ take (payload_place p) (move_header c t p) = ap (take (payload_place p)) e ∙ m_front es p k s c t st in
              let pay : payload n ≡ move_stamps (t / 300) (payload p) = ap (λ x. drop x n) pl ∙ ap (drop (payload_place p)) e ∙ m_payload es p k s c t st in
              let cf : has_pcr n ≡ has_pcr p = moved_clock es c t p k in
              with_stamps es d v n hm gm
              ∙ ap (λ x. take x (move_header d v n) ++ move_stamps (v / 300) (payload n)) pl
              ∙ ap (λ x. x ++ move_stamps (v / 300) (payload n))
              (header_front n (move_header c t p) d v (payload_place p) (place_low es p s) (λ y. clock_place es p s (sym cf ∙ y)) (header_flag p (long_packet p k) c t ∙ sym cf) fr
              ∙ ap (take (payload_place p)) (header_add p (long_packet p k) c t d v))
              ∙ ap (λ x. take (payload_place p) (move_header (c + d) (t + v) p) ++ move_stamps (v / 300) x) pay
              ∙ ap (λ x. take (payload_place p) (move_header (c + d) (t + v) p) ++ x) (stamps_add (payload p) (stamped_shape (payload p) st) (t / 300) (v / 300))
              ∙ ap (λ x. take (payload_place p) (move_header (c + d) (t + v) p) ++ move_stamps x (payload p)) (parts300 t v z)
              ∙ sym (with_stamps es (c + d) (t + v) p h g)
          | inr g ↦
              header_only es d v n (moved_moves es c t p k ∙ h) (moved_stampable es c t p k ∙ g)
              ∙ ap (move_header d v) (header_only es c t p h g)
              ∙ header_add p (long_packet p k) c t d v
              ∙ sym (header_only es (c + d) (t + v) p h g)
        ]
        | inr h ↦ ap (moved es d v) (still es c t p h) ∙ still es d v p h ∙ sym (still es (c + d) (t + v) p h)
      ]

  pub moved_none : (c t : ℕ) (p : Bytes) → Packet p → c % 16 ≡ 0 → t % W ≡ 0 → moved es c t p ≡ p
  moved_none c t p k hc ht = elim (cases_Bool (moves es p)) [
    | inl h ↦
        let s = moves_sound es p h in
        let e : move_header c t p ≡ p = header_none p k (long_packet p k) (clock_extension es p s) c t hc ht in
        elim (cases_Bool (stampable es p)) [
          | inl g ↦
              with_stamps es c t p h g
              ∙ ap (λ x. take (payload_place p) x ++ move_stamps (t / 300) (payload p)) e
              ∙ ap (λ x. take (payload_place p) p ++ x) (stamps_none (payload p) (stamped_shape (payload p) (and_parts (starts_pes es p) _ g).1) (small_at (payload p) (small_drop (payload_place p) p k.small)) (t / 300) (none300 t ht))
              ∙ take-append-drop (payload_place p) p
          | inr g ↦ header_only es c t p h g ∙ e
        ]
    | inr h ↦ still es c t p h
  ]

  back16 : (c : ℕ) → (c + 15 * c) % 16 ≡ 0
  back16 c = omega arith

  back_W : (t : ℕ) → (t + 2576980377599 * t) % W ≡ 0
  back_W t = omega arith

  -- so a move can be taken back
  pub moved_back : (c t : ℕ) (p : Bytes) → Packet p → t % 300 ≡ 0 → moved es (15 * c) (2576980377599 * t) (moved es c t p) ≡ p
  moved_back c t p k z = moved_add c t (15 * c) (2576980377599 * t) p k z ∙ moved_none _ _ p k (back16 c) (back_W t)

  pub moved_injective : (c t : ℕ) (p q : Bytes) → Packet p → Packet q → t % 300 ≡ 0 → moved es c t p ≡ moved es c t q → p ≡ q
  moved_injective c t p q k l z e = sym (moved_back c t p k z) ∙ ap (moved es (15 * c) (2576980377599 * t)) e ∙ moved_back c t q l z
