-- A packet moved on in place: the header first, then the stamps in what is left of it.
use Rattle.std.proofs.Common.{◌≡◌, ℕ, ◌+◌, ◌-◌, ◌/◌, ◌%◌, ◌≤◌, true, false, List, ◌++◌, length, take, drop, is_some, Some, None, Option, sym, refl, ap, ◌∙◌, subst, arith}
use borrow.Rule.Slice.PartMut.{put_mid, mid_of}
use Rattle.std.proofs.lemmas.Bool.{and_parts, and_left, and_right, leb-true}
use Rattle.std.proofs.lemmas.List.{length-drop, drop_all, append-nil}
use Rattle.std.proofs.lemmas.Slice.{between_to_end}
use Rattle.model.specs.declared.entry.Entry.{Entry}
use Rattle.model.specs.declared.entry.Kind.{Kind}
use Rattle.model.specs.declared.rule.Rule.{Rule}
use Rattle.model.specs.Entries.{kind_of, listed}
use Rattle.model.specs.Form.{form, sound}
use Rattle.model.specs.Rules.{numbered}
use Rattle.model.specs.Tests.{is_none}
use Rattle.model.specs.Packet.{Bytes, pid, continuity_counter, has_pcr, pcr, payload, payload_place}
use Rattle.model.specs.Stamps.{stamped, stamp_tests, stamp_bytes, starts_pes, stamp}
use Rattle.model.specs.Moves.{W, stamps, set_counter, set_pcr, move_header, move_stamps, moved, moves, stampable}
use Rattle.laws.proofs.Bytes.{Long, view}
use Rattle.laws.proofs.Header.{header_plain, header_clock, header_drop, header_length, long_continuity_counter, like_continuity_counter, value_continuity_counter, like_flag}
use Rattle.laws.proofs.SoundForm.{all_at, place_low, clock_place}
use Rattle.laws.proofs.Moved.{with_stamps, header_only, moves_sound}
use Rattle.packet.specs.Fields.{set_pcr_field}
use Rattle.packet.proofs.Fields.{pcr_part}

-- only the rests of the steps and the ticks count
mod16 : (x c : ℕ) → (x + c % 16) % 16 ≡ (x + c) % 16
mod16 x c = omega arith

mod_W : (x t : ℕ) → (x + t % W) % W ≡ (x + t) % W
mod_W x t = omega arith

mod_stamps : (x n : ℕ) → (x + n % stamps) % stamps ≡ (x + n) % stamps
mod_stamps x n = omega arith

pub stamps_alike : (n : ℕ) (u : Bytes) → move_stamps (n % stamps) u ≡ move_stamps n u
unfolding move_stamps
stamps_alike n u = rw (mod_stamps (stamp u 9) n, mod_stamps (stamp u 14) n)

-- the counter set first, and then the clock value
module _ (c t : ℕ) (p : Bytes) (l : length p ≡ 188) where
  abbrev n : ℕ
  n = (continuity_counter p + c % 16) % 16

  abbrev q : Bytes
  q = set_counter n p

  n_is : n ≡ (continuity_counter p + c) % 16
  n_is = mod16 (continuity_counter p) c

  long_p : Long p
  long_p = view p (omega arith)

  same_flag : has_pcr q ≡ has_pcr p
  same_flag = like_flag p q (like_continuity_counter p long_p n (omega arith))

  pub counter_alone : has_pcr q ≡ false → q ≡ move_header c t p
  counter_alone h = ap (λ x. set_counter x p) n_is ∙ sym (header_plain c t p (sym same_flag ∙ h))

  pub counter_and_clock : has_pcr q ≡ true → (v : ℕ) → v ≡ pcr q → (f : Bytes) → f ≡ set_pcr_field ((v + t % W) % W) (mid_of 6 6 q) → put_mid 6 6 q f ≡ move_header c t p
  counter_and_clock h v e f w =
      ap (put_mid 6 6 q) w
      ∙ pcr_part q (long_continuity_counter p long_p n) ((v + t % W) % W)
      ∙ ap (λ x. set_pcr ((x + t % W) % W) q) (e ∙ value_continuity_counter p long_p n)
      ∙ ap (λ x. set_pcr x q) (mod_W (pcr p) t)
      ∙ ap (λ x. set_pcr ((pcr p + t) % W) (set_counter x p)) n_is
      ∙ sym (header_clock c t p (sym same_flag ∙ h))

-- a payload that obeys rule 30 holds its stamps, so it begins within the packet
pub stamps_held : (u : Bytes) → stamped u ≡ true → 9 + stamp_bytes u ≤ length u
stamps_held u h = leb-true (9 + stamp_bytes u) (length u) (all_at (stamp_tests u) h 8)

-- a packet that does not move: its PID is not on the sheet, or it breaks a rule of form
unlisted : (o : Option Kind) → is_some o ≡ false → listed o ≡ false
unlisted None h = refl
unlisted (Some k) h = h

broken : (r : Option Rule) → is_some r ≡ true → is_none (numbered r) ≡ false
broken None h = sym h
broken (Some r) h = refl

pub unlisted_stays : (es : List Entry) (p : Bytes) (o : Option Kind) → kind_of es (pid p) ≡ o → is_some o ≡ false → moves es p ≡ false
unlisted_stays es p o k h = and_right (sound es p) (listed (kind_of es (pid p))) (ap listed k ∙ unlisted o h)

pub broken_stays : (es : List Entry) (p : Bytes) (r : Option Rule) → numbered r ≡ form es p → is_some r ≡ true → moves es p ≡ false
broken_stays es p r e h = and_left (sound es p) (listed (kind_of es (pid p))) (ap is_none (sym e) ∙ broken r h)

-- what is written from place a on
put_end : (m v : Bytes) (a : ℕ) → length m ≡ 188 → put_mid a (188 - a) m v ≡ take a m ++ v
put_end m v a l =
    ap (λ x. take a m ++ (v ++ x)) (drop_all (188 - a) (drop a m) (let d = length-drop a m in omega arith)) ∙ ap (λ x. take a m ++ x) (append-nil v)

module _ (es : List Entry) (c t : ℕ) (p : Bytes) (l : length p ≡ 188) (h : moves es p ≡ true) (m : Bytes) (e : m ≡ move_header c t p) where
  sized : length m ≡ 188
  sized = ap length e ∙ header_length p (view p (omega arith)) c t ∙ l

  pub without_stamps : stampable es p ≡ false → m ≡ moved es c t p
  without_stamps g = e ∙ sym (header_only es c t p h g)

  -- the payload, which the header's move left
  left : mid_of (payload_place p) (188 - payload_place p) m ≡ payload p
  left = between_to_end m (payload_place p) 188 (omega (arith, sized))
      ∙ ap (drop (payload_place p)) e
      ∙ header_drop p c t (payload_place p) (place_low es p (moves_sound es p h)) (clock_place es p (moves_sound es p h))

  there : stampable es p ≡ true → (v : Bytes) →
      let a = payload_place p in
      (9 + stamp_bytes (mid_of a (188 - a) m) ≤ length (mid_of a (188 - a) m) → v ≡ move_stamps (t / 300 % stamps) (mid_of a (188 - a) m)) → put_mid a (188 - a) m v ≡ moved es c t p
  there g v w =
      let a : ℕ = payload_place p in
      let held : 9 + stamp_bytes (mid_of a (188 - a) m) ≤ length (mid_of a (188 - a) m) = rw left (stamps_held (payload p) (and_parts (starts_pes es p) _ g).1) in
      put_end m v a sized
      ∙ ap (λ x. take a m ++ x) (w held ∙ ap (move_stamps (t / 300 % stamps)) left ∙ stamps_alike (t / 300) (payload p))
      ∙ ap (λ x. take a x ++ move_stamps (t / 300) (payload p)) e
      ∙ sym (with_stamps es c t p h g)

  pub with_stamps_after : stampable es p ≡ true → (v : Bytes) (a : ℕ) → a ≡ payload_place p →
      (9 + stamp_bytes (mid_of a (188 - a) m) ≤ length (mid_of a (188 - a) m) → v ≡ move_stamps (t / 300 % stamps) (mid_of a (188 - a) m)) → put_mid a (188 - a) m v ≡ moved es c t p
  with_stamps_after g v a f =
      let P : ℕ → Type 0 = λ a. (9 + stamp_bytes (mid_of a (188 - a) m) ≤ length (mid_of a (188 - a) m) → v ≡ move_stamps (t / 300 % stamps) (mid_of a (188 - a) m)) → put_mid a (188 - a) m v ≡ moved es c t p in
      subst P (sym f) (there g v)
