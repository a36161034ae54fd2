-- A field written as a part of its packet, or of its payload, is the field set there.
use Rattle.std.proofs.Common.{◌≡◌, ℕ, ◌+◌, ◌%◌, ◌≤◌, true, false, length, refl, inl, inr, arith}
use Rattle.std.proofs.lemmas.Bool.{cases_Bool, leb-false, ne_eqb}
use borrow.Rule.Slice.PartMut.{put_mid, mid_of}
use Rattle.model.specs.Packet.{Bytes}
use Rattle.model.specs.Stamps.{stamp, pts_dts_flags, has_pts, has_dts, stamp_bytes}
use Rattle.model.specs.Moves.{set_pcr, set_stamp, stamps, move_stamps}
use Rattle.laws.proofs.Bytes.{Long, long}
use Rattle.laws.proofs.StampBytes.{Fourteen, fourteen, Nineteen, nineteen}
use Rattle.packet.specs.Fields.{set_pcr_field}

pub pcr_part : (p : Bytes) → Long p → (v : ℕ) → put_mid 6 6 p (set_pcr_field v (mid_of 6 6 p)) ≡ set_pcr v p
pcr_part _ (long b0 b1 b2 b3 b4 b5 b6 b7 b8 b9 b10 b11 r) v = refl

-- what a stamp becomes that is moved on by n
abbrev pub onward : ℕ → Bytes → Bytes
onward n f = set_stamp 0 ((stamp f 0 + n) % stamps) f

pub pts_part : (u : Bytes) → Fourteen u → (n : ℕ) → put_mid 9 5 u (onward n (mid_of 9 5 u)) ≡ set_stamp 9 ((stamp u 9 + n) % stamps) u
pts_part _ (fourteen u0 u1 u2 u3 u4 u5 u6 u7 u8 u9 u10 u11 u12 u13 w) n = refl

-- the DTS, where the PTS before it has been set
pub dts_part : (u : Bytes) → Nineteen u → (n v : ℕ) → put_mid 14 5 (set_stamp 9 v u) (onward n (mid_of 14 5 (set_stamp 9 v u))) ≡ set_stamp 14 ((stamp u 14 + n) % stamps) (set_stamp 9 v u)
dts_part _ (nineteen u0 u1 u2 u3 u4 u5 u6 u7 u8 u9 u10 u11 u12 u13 u14 u15 u16 u17 u18 w) n v = refl

-- the stamps that a move changes, by the flags
pub moves_both : (u : Bytes) (n : ℕ) → has_pts u ≡ true → has_dts u ≡ true →
    move_stamps n u ≡ set_stamp 14 ((stamp u 14 + n) % stamps) (set_stamp 9 ((stamp u 9 + n) % stamps) u)
unfolding move_stamps
moves_both u n h k = rw (h, k)

pub moves_pts : (u : Bytes) (n : ℕ) → has_pts u ≡ true → has_dts u ≡ false → move_stamps n u ≡ set_stamp 9 ((stamp u 9 + n) % stamps) u
unfolding move_stamps
moves_pts u n h k = rw (h, k)

pub moves_none : (u : Bytes) (n : ℕ) → has_pts u ≡ false → move_stamps n u ≡ u
unfolding move_stamps
moves_none u n h =
    let k : has_dts u ≡ false = ne_eqb (pts_dts_flags u) 3 (λ e. omega (arith, leb-false 2 (pts_dts_flags u) h)) in
    rw (h, k)

-- and the bytes that they take
pub pts_long : (u : Bytes) → has_pts u ≡ true → 9 + stamp_bytes u ≤ length u → 14 ≤ length u
pts_long u h g = elim (cases_Bool (has_dts u)) [
  | inl k ↦ let z : 19 ≤ length u = rw k at g in omega arith
  | inr k ↦ rw (k, h) at g
]

pub dts_long : (u : Bytes) → has_dts u ≡ true → 9 + stamp_bytes u ≤ length u → 19 ≤ length u
dts_long u k g = rw k at g
