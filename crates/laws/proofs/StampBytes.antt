use Rattle.std.proofs.Common.{◌≡◌, ℕ, ◌+◌, ◌*◌, ◌/◌, ◌%◌, ◌^◌, ◌<◌, ◌≤◌, true, false, eqb, leb, [], ◌∷◌, length, take, sym, ap, ◌∙◌, inl, inr, arith, lit<}
use Rattle.std.proofs.lemmas.Bool.{both_ways, cases_Bool, leb-true, eqb-true, le-leb}
use Rattle.model.specs.Packet.{Bytes, byte}
use Rattle.model.specs.Stamps.{has_pts, has_dts, pts_dts_flags, stamp_bytes, stamp, stamped}
use Rattle.model.specs.Moves.{stamps, move_stamps}
use Rattle.laws.proofs.Small.{Small, small_at, small_drop}

none14 : {n : ℕ} → 14 ≤ n → n < 14 → ⊥
none14 h k = omega arith

none19 : {n : ℕ} → 19 ≤ n → n < 19 → ⊥
none19 h k = omega arith

pub data Fourteen : Bytes → Type 0 where
  fourteen : (u0 u1 u2 u3 u4 u5 u6 u7 u8 u9 u10 u11 u12 u13 : ℕ) (w : Bytes) → Fourteen (u0 ∷ u1 ∷ u2 ∷ u3 ∷ u4 ∷ u5 ∷ u6 ∷ u7 ∷ u8 ∷ u9 ∷ u10 ∷ u11 ∷ u12 ∷ u13 ∷ w)

pub view_fourteen : (u : Bytes) → 14 ≤ length u → Fourteen u
view_fourteen [] h = absurd (none14 h (lit< tt))
view_fourteen (u0 ∷ []) h = absurd (none14 h (lit< tt))
view_fourteen (u0 ∷ u1 ∷ []) h = absurd (none14 h (lit< tt))
view_fourteen (u0 ∷ u1 ∷ u2 ∷ []) h = absurd (none14 h (lit< tt))
view_fourteen (u0 ∷ u1 ∷ u2 ∷ u3 ∷ []) h = absurd (none14 h (lit< tt))
view_fourteen (u0 ∷ u1 ∷ u2 ∷ u3 ∷ u4 ∷ []) h = absurd (none14 h (lit< tt))
view_fourteen (u0 ∷ u1 ∷ u2 ∷ u3 ∷ u4 ∷ u5 ∷ []) h = absurd (none14 h (lit< tt))
view_fourteen (u0 ∷ u1 ∷ u2 ∷ u3 ∷ u4 ∷ u5 ∷ u6 ∷ []) h = absurd (none14 h (lit< tt))
view_fourteen (u0 ∷ u1 ∷ u2 ∷ u3 ∷ u4 ∷ u5 ∷ u6 ∷ u7 ∷ []) h = absurd (none14 h (lit< tt))
view_fourteen (u0 ∷ u1 ∷ u2 ∷ u3 ∷ u4 ∷ u5 ∷ u6 ∷ u7 ∷ u8 ∷ []) h = absurd (none14 h (lit< tt))
view_fourteen (u0 ∷ u1 ∷ u2 ∷ u3 ∷ u4 ∷ u5 ∷ u6 ∷ u7 ∷ u8 ∷ u9 ∷ []) h = absurd (none14 h (lit< tt))
view_fourteen (u0 ∷ u1 ∷ u2 ∷ u3 ∷ u4 ∷ u5 ∷ u6 ∷ u7 ∷ u8 ∷ u9 ∷ u10 ∷ []) h = absurd (none14 h (lit< tt))
view_fourteen (u0 ∷ u1 ∷ u2 ∷ u3 ∷ u4 ∷ u5 ∷ u6 ∷ u7 ∷ u8 ∷ u9 ∷ u10 ∷ u11 ∷ []) h = absurd (none14 h (lit< tt))
view_fourteen (u0 ∷ u1 ∷ u2 ∷ u3 ∷ u4 ∷ u5 ∷ u6 ∷ u7 ∷ u8 ∷ u9 ∷ u10 ∷ u11 ∷ u12 ∷ []) h = absurd (none14 h (lit< tt))
view_fourteen (u0 ∷ u1 ∷ u2 ∷ u3 ∷ u4 ∷ u5 ∷ u6 ∷ u7 ∷ u8 ∷ u9 ∷ u10 ∷ u11 ∷ u12 ∷ u13 ∷ w) h = fourteen u0 u1 u2 u3 u4 u5 u6 u7 u8 u9 u10 u11 u12 u13 w

pub data Nineteen : Bytes → Type 0 where
  nineteen : (u0 u1 u2 u3 u4 u5 u6 u7 u8 u9 u10 u11 u12 u13 u14 u15 u16 u17 u18 : ℕ) (w : Bytes) → Nineteen (u0 ∷ u1 ∷ u2 ∷ u3 ∷ u4 ∷ u5 ∷ u6 ∷ u7 ∷ u8 ∷ u9 ∷ u10 ∷ u11 ∷ u12 ∷ u13 ∷ u14 ∷ u15 ∷ u16 ∷ u17 ∷ u18 ∷ w)

pub view_nineteen : (u : Bytes) → 19 ≤ length u → Nineteen u
view_nineteen [] h = absurd (none19 h (lit< tt))
view_nineteen (u0 ∷ []) h = absurd (none19 h (lit< tt))
view_nineteen (u0 ∷ u1 ∷ []) h = absurd (none19 h (lit< tt))
view_nineteen (u0 ∷ u1 ∷ u2 ∷ []) h = absurd (none19 h (lit< tt))
view_nineteen (u0 ∷ u1 ∷ u2 ∷ u3 ∷ []) h = absurd (none19 h (lit< tt))
view_nineteen (u0 ∷ u1 ∷ u2 ∷ u3 ∷ u4 ∷ []) h = absurd (none19 h (lit< tt))
view_nineteen (u0 ∷ u1 ∷ u2 ∷ u3 ∷ u4 ∷ u5 ∷ []) h = absurd (none19 h (lit< tt))
view_nineteen (u0 ∷ u1 ∷ u2 ∷ u3 ∷ u4 ∷ u5 ∷ u6 ∷ []) h = absurd (none19 h (lit< tt))
view_nineteen (u0 ∷ u1 ∷ u2 ∷ u3 ∷ u4 ∷ u5 ∷ u6 ∷ u7 ∷ []) h = absurd (none19 h (lit< tt))
view_nineteen (u0 ∷ u1 ∷ u2 ∷ u3 ∷ u4 ∷ u5 ∷ u6 ∷ u7 ∷ u8 ∷ []) h = absurd (none19 h (lit< tt))
view_nineteen (u0 ∷ u1 ∷ u2 ∷ u3 ∷ u4 ∷ u5 ∷ u6 ∷ u7 ∷ u8 ∷ u9 ∷ []) h = absurd (none19 h (lit< tt))
view_nineteen (u0 ∷ u1 ∷ u2 ∷ u3 ∷ u4 ∷ u5 ∷ u6 ∷ u7 ∷ u8 ∷ u9 ∷ u10 ∷ []) h = absurd (none19 h (lit< tt))
view_nineteen (u0 ∷ u1 ∷ u2 ∷ u3 ∷ u4 ∷ u5 ∷ u6 ∷ u7 ∷ u8 ∷ u9 ∷ u10 ∷ u11 ∷ []) h = absurd (none19 h (lit< tt))
view_nineteen (u0 ∷ u1 ∷ u2 ∷ u3 ∷ u4 ∷ u5 ∷ u6 ∷ u7 ∷ u8 ∷ u9 ∷ u10 ∷ u11 ∷ u12 ∷ []) h = absurd (none19 h (lit< tt))
view_nineteen (u0 ∷ u1 ∷ u2 ∷ u3 ∷ u4 ∷ u5 ∷ u6 ∷ u7 ∷ u8 ∷ u9 ∷ u10 ∷ u11 ∷ u12 ∷ u13 ∷ []) h = absurd (none19 h (lit< tt))
view_nineteen (u0 ∷ u1 ∷ u2 ∷ u3 ∷ u4 ∷ u5 ∷ u6 ∷ u7 ∷ u8 ∷ u9 ∷ u10 ∷ u11 ∷ u12 ∷ u13 ∷ u14 ∷ []) h = absurd (none19 h (lit< tt))
view_nineteen (u0 ∷ u1 ∷ u2 ∷ u3 ∷ u4 ∷ u5 ∷ u6 ∷ u7 ∷ u8 ∷ u9 ∷ u10 ∷ u11 ∷ u12 ∷ u13 ∷ u14 ∷ u15 ∷ []) h = absurd (none19 h (lit< tt))
view_nineteen (u0 ∷ u1 ∷ u2 ∷ u3 ∷ u4 ∷ u5 ∷ u6 ∷ u7 ∷ u8 ∷ u9 ∷ u10 ∷ u11 ∷ u12 ∷ u13 ∷ u14 ∷ u15 ∷ u16 ∷ []) h = absurd (none19 h (lit< tt))
view_nineteen (u0 ∷ u1 ∷ u2 ∷ u3 ∷ u4 ∷ u5 ∷ u6 ∷ u7 ∷ u8 ∷ u9 ∷ u10 ∷ u11 ∷ u12 ∷ u13 ∷ u14 ∷ u15 ∷ u16 ∷ u17 ∷ []) h = absurd (none19 h (lit< tt))
view_nineteen (u0 ∷ u1 ∷ u2 ∷ u3 ∷ u4 ∷ u5 ∷ u6 ∷ u7 ∷ u8 ∷ u9 ∷ u10 ∷ u11 ∷ u12 ∷ u13 ∷ u14 ∷ u15 ∷ u16 ∷ u17 ∷ u18 ∷ w) h = nineteen u0 u1 u2 u3 u4 u5 u6 u7 u8 u9 u10 u11 u12 u13 u14 u15 u16 u17 u18 w

-- the five bytes of a stamp: written, and read again
s1 : (x : ℕ) → x / 2 ^ 30 ≡ x / 2 ^ 22 / 256
s1 x = omega arith

s2 : (x : ℕ) → x / 2 ^ 22 ≡ x / 2 ^ 15 / 128
s2 x = omega arith

s3 : (x : ℕ) → x / 2 ^ 15 ≡ x / 2 ^ 7 / 256
s3 x = omega arith

digits : (x : ℕ) → x / 2 ^ 30 * 2 ^ 30 + x / 2 ^ 22 % 256 * 2 ^ 22 + x / 2 ^ 15 % 128 * 2 ^ 15 + x / 2 ^ 7 % 256 * 2 ^ 7 + x % 128 ≡ x
digits x = omega (arith, s1 x, s2 x, s3 x)

abbrev five : ℕ → ℕ → ℕ → ℕ → ℕ → ℕ
five a b c d e = a / 2 % 8 * 2 ^ 30 + b * 2 ^ 22 + c / 2 * 2 ^ 15 + d * 2 ^ 7 + e / 2

abbrev w1 : ℕ → ℕ → ℕ
w1 x a = a / 16 * 16 + x / 2 ^ 30 * 2 + a % 2

abbrev w3 : ℕ → ℕ → ℕ
w3 x c = x / 2 ^ 15 % 128 * 2 + c % 2

abbrev w5 : ℕ → ℕ → ℕ
w5 x e = x % 128 * 2 + e % 2

read_five : (x a c e : ℕ) → x < 2 ^ 33 → five (w1 x a) (x / 2 ^ 22 % 256) (w3 x c) (x / 2 ^ 7 % 256) (w5 x e) ≡ x
read_five x a c e h = omega (arith, digits x)

again1 : (x y a : ℕ) → y < 2 ^ 33 → w1 x (w1 y a) ≡ w1 x a
again1 x y a h = omega arith

again3 : (x y c : ℕ) → w3 x (w3 y c) ≡ w3 x c
again3 x y c = omega arith

again5 : (x y e : ℕ) → w5 x (w5 y e) ≡ w5 x e
again5 x y e = omega arith

prefix1 : (x a : ℕ) → x < 2 ^ 33 → w1 x a / 16 ≡ a / 16
prefix1 x a h = omega arith

mark1 : (x a : ℕ) → w1 x a / 2 ^ 0 % 2 ≡ a / 2 ^ 0 % 2
mark1 x a = omega arith

mark3 : (x a : ℕ) → w3 x a / 2 ^ 0 % 2 ≡ a / 2 ^ 0 % 2
mark3 x a = omega arith

mark5 : (x a : ℕ) → w5 x a / 2 ^ 0 % 2 ≡ a / 2 ^ 0 % 2
mark5 x a = omega arith

module _ (a b c d e : ℕ) (ha : a < 256) (hb : b < 256) (hc : c < 256) (hd : d < 256) (he : e < 256) where
  five_lt : five a b c d e < 2 ^ 33
  five_lt = omega arith

  same1 : w1 (five a b c d e) a ≡ a
  same1 = omega arith

  same2 : five a b c d e / 2 ^ 22 % 256 ≡ b
  same2 = omega arith

  same3 : w3 (five a b c d e) c ≡ c
  same3 = omega arith

  same4 : five a b c d e / 2 ^ 7 % 256 ≡ d
  same4 = omega arith

  same5 : w5 (five a b c d e) e ≡ e
  same5 = omega arith

-- A payload by the stamps that it has
pub data Shape : Bytes → Type 0 where
  plain : (u : Bytes) → has_pts u ≡ false → has_dts u ≡ false → Shape u
  pts : (u0 u1 u2 u3 u4 u5 u6 u7 u8 u9 u10 u11 u12 u13 : ℕ) (w : Bytes) → leb 2 (u7 / 64) ≡ true → eqb (u7 / 64) 3 ≡ false → Shape (u0 ∷ u1 ∷ u2 ∷ u3 ∷ u4 ∷ u5 ∷ u6 ∷ u7 ∷ u8 ∷ u9 ∷ u10 ∷ u11 ∷ u12 ∷ u13 ∷ w)
  both : (u0 u1 u2 u3 u4 u5 u6 u7 u8 u9 u10 u11 u12 u13 u14 u15 u16 u17 u18 : ℕ) (w : Bytes) → leb 2 (u7 / 64) ≡ true → eqb (u7 / 64) 3 ≡ true → Shape (u0 ∷ u1 ∷ u2 ∷ u3 ∷ u4 ∷ u5 ∷ u6 ∷ u7 ∷ u8 ∷ u9 ∷ u10 ∷ u11 ∷ u12 ∷ u13 ∷ u14 ∷ u15 ∷ u16 ∷ u17 ∷ u18 ∷ w)

pts_shape : (u : Bytes) → Fourteen u → has_pts u ≡ true → has_dts u ≡ false → Shape u
pts_shape _ (fourteen u0 u1 u2 u3 u4 u5 u6 u7 u8 u9 u10 u11 u12 u13 w) h k = pts u0 u1 u2 u3 u4 u5 u6 u7 u8 u9 u10 u11 u12 u13 w h k

both_shape : (u : Bytes) → Nineteen u → has_pts u ≡ true → has_dts u ≡ true → Shape u
both_shape _ (nineteen u0 u1 u2 u3 u4 u5 u6 u7 u8 u9 u10 u11 u12 u13 u14 u15 u16 u17 u18 w) h k = both u0 u1 u2 u3 u4 u5 u6 u7 u8 u9 u10 u11 u12 u13 u14 u15 u16 u17 u18 w h k

dts_pts : (u : Bytes) → has_dts u ≡ true → has_pts u ≡ true
dts_pts u h = le-leb 2 (pts_dts_flags u) (omega (arith, eqb-true (pts_dts_flags u) 3 h))

pub shape : (u : Bytes) → leb (9 + stamp_bytes u) (length u) ≡ true → Shape u
shape u h = elim (cases_Bool (has_dts u)) [
  | inl d ↦ let h2 : 9 + 10 ≤ length u = leb-true (9 + 10) (length u) (rw d at h) in both_shape u (view_nineteen u h2) (dts_pts u d) d
  | inr d ↦ elim (cases_Bool (has_pts u)) [
    | inl p ↦ let h2 : 9 + 5 ≤ length u = leb-true (9 + 5) (length u) (rw (d, p) at h) in pts_shape u (view_fourteen u h2) p d
    | inr p ↦ plain u p d
  ]
]

abbrev put5 : ℕ → ℕ → ℕ → ℕ → Bytes → Bytes
put5 x a c e w = w1 x a ∷ x / 2 ^ 22 % 256 ∷ w3 x c ∷ x / 2 ^ 7 % 256 ∷ w5 x e ∷ w

put5_again : (x y a c e : ℕ) (w : Bytes) → y < 2 ^ 33 → put5 x (w1 y a) (w3 y c) (w5 y e) w ≡ put5 x a c e w
put5_again x y a c e w h = rw (again1 x y a h, again3 x y c, again5 x y e)

put5_same : (a b c d e : ℕ) (w : Bytes) → a < 256 → b < 256 → c < 256 → d < 256 → e < 256 → put5 (five a b c d e) a c e w ≡ a ∷ b ∷ c ∷ d ∷ e ∷ w
put5_same a b c d e w ha hb hc hd he =
    let e1 = same1 a b c d e ha hb hc hd he in let e2 = same2 a b c d e ha hb hc hd he in let e3 = same3 a b c d e ha hb hc hd he in
    let e4 = same4 a b c d e ha hb hc hd he in let e5 = same5 a b c d e ha hb hc hd he in cc

moved_pts : (u0 u1 u2 u3 u4 u5 u6 u7 u8 u9 u10 u11 u12 u13 n : ℕ) (w : Bytes) → leb 2 (u7 / 64) ≡ true → eqb (u7 / 64) 3 ≡ false →
    move_stamps n (u0 ∷ u1 ∷ u2 ∷ u3 ∷ u4 ∷ u5 ∷ u6 ∷ u7 ∷ u8 ∷ u9 ∷ u10 ∷ u11 ∷ u12 ∷ u13 ∷ w) ≡ u0 ∷ u1 ∷ u2 ∷ u3 ∷ u4 ∷ u5 ∷ u6 ∷ u7 ∷ u8 ∷ put5 ((five u9 u10 u11 u12 u13 + n) % stamps) u9 u11 u13 w
unfolding move_stamps
moved_pts u0 u1 u2 u3 u4 u5 u6 u7 u8 u9 u10 u11 u12 u13 n w h k = rw (h, k)

moved_both : (u0 u1 u2 u3 u4 u5 u6 u7 u8 u9 u10 u11 u12 u13 u14 u15 u16 u17 u18 n : ℕ) (w : Bytes) → leb 2 (u7 / 64) ≡ true → eqb (u7 / 64) 3 ≡ true →
    move_stamps n (u0 ∷ u1 ∷ u2 ∷ u3 ∷ u4 ∷ u5 ∷ u6 ∷ u7 ∷ u8 ∷ u9 ∷ u10 ∷ u11 ∷ u12 ∷ u13 ∷ u14 ∷ u15 ∷ u16 ∷ u17 ∷ u18 ∷ w) ≡ u0 ∷ u1 ∷ u2 ∷ u3 ∷ u4 ∷ u5 ∷ u6 ∷ u7 ∷ u8 ∷ put5 ((five u9 u10 u11 u12 u13 + n) % stamps) u9 u11 u13 (put5 ((five u14 u15 u16 u17 u18 + n) % stamps) u14 u16 u18 w)
unfolding move_stamps
moved_both u0 u1 u2 u3 u4 u5 u6 u7 u8 u9 u10 u11 u12 u13 u14 u15 u16 u17 u18 n w h k = rw (h, k)

moved_plain : (u : Bytes) (n : ℕ) → has_pts u ≡ false → has_dts u ≡ false → move_stamps n u ≡ u
unfolding move_stamps
moved_plain u n h k = rw (h, k)

mod_mod : (x n m : ℕ) → ((x + n) % stamps + m) % stamps ≡ (x + (n + m)) % stamps
mod_mod x n m = omega arith

mod_lt : (x : ℕ) → x % stamps < stamps
mod_lt x = omega arith

next5 : (a b c d e n m : ℕ) (w : Bytes) →
    let x = (five a b c d e + n) % stamps in
    put5 ((five (w1 x a) (x / 2 ^ 22 % 256) (w3 x c) (x / 2 ^ 7 % 256) (w5 x e) + m) % stamps) (w1 x a) (w3 x c) (w5 x e) w
    ≡ put5 ((five a b c d e + (n + m)) % stamps) a c e w
next5 a b c d e n m w =
    let x : ℕ = (five a b c d e + n) % stamps in
    let h : x < 2 ^ 33 = mod_lt (five a b c d e + n) in
    ap (λ (y : ℕ). put5 ((y + m) % stamps) (w1 x a) (w3 x c) (w5 x e) w) (read_five x a c e h)
    ∙ put5_again ((x + m) % stamps) x a c e w h
    ∙ ap (λ (y : ℕ). put5 y a c e w) (mod_mod (five a b c d e) n m)

-- two moves are one
pub stamps_add : (u : Bytes) → Shape u → (n m : ℕ) → move_stamps m (move_stamps n u) ≡ move_stamps (n + m) u
stamps_add _ (plain u h k) n m = ap (move_stamps m) (moved_plain u n h k) ∙ moved_plain u m h k ∙ sym (moved_plain u (n + m) h k)
stamps_add _ (pts u0 u1 u2 u3 u4 u5 u6 u7 u8 u9 u10 u11 u12 u13 w h k) n m =
    ap (move_stamps m) (moved_pts u0 u1 u2 u3 u4 u5 u6 u7 u8 u9 u10 u11 u12 u13 n w h k)
    ∙ moved_pts u0 u1 u2 u3 u4 u5 u6 u7 u8 _ _ _ _ _ m w h k
    ∙ ap (λ (x : Bytes). u0 ∷ u1 ∷ u2 ∷ u3 ∷ u4 ∷ u5 ∷ u6 ∷ u7 ∷ u8 ∷ x) (next5 u9 u10 u11 u12 u13 n m w)
    ∙ sym (moved_pts u0 u1 u2 u3 u4 u5 u6 u7 u8 u9 u10 u11 u12 u13 (n + m) w h k)
stamps_add _ (both u0 u1 u2 u3 u4 u5 u6 u7 u8 u9 u10 u11 u12 u13 u14 u15 u16 u17 u18 w h k) n m =
    ap (move_stamps m) (moved_both u0 u1 u2 u3 u4 u5 u6 u7 u8 u9 u10 u11 u12 u13 u14 u15 u16 u17 u18 n w h k)
    ∙ moved_both u0 u1 u2 u3 u4 u5 u6 u7 u8 _ _ _ _ _ _ _ _ _ _ m w h k
    ∙ ap (λ (x : Bytes). u0 ∷ u1 ∷ u2 ∷ u3 ∷ u4 ∷ u5 ∷ u6 ∷ u7 ∷ u8 ∷ x) (next5 u9 u10 u11 u12 u13 n m _)
    ∙ ap (λ (x : Bytes). u0 ∷ u1 ∷ u2 ∷ u3 ∷ u4 ∷ u5 ∷ u6 ∷ u7 ∷ u8 ∷ put5 ((five u9 u10 u11 u12 u13 + (n + m)) % stamps) u9 u11 u13 x) (next5 u14 u15 u16 u17 u18 n m w)
    ∙ sym (moved_both u0 u1 u2 u3 u4 u5 u6 u7 u8 u9 u10 u11 u12 u13 u14 u15 u16 u17 u18 (n + m) w h k)

-- a move by a multiple of 2 ^ 33 is none
none_of : (x n : ℕ) → x < stamps → n % stamps ≡ 0 → (x + n) % stamps ≡ x
none_of x n h k = omega arith

same5_of : (a b c d e n : ℕ) (w : Bytes) → a < 256 → b < 256 → c < 256 → d < 256 → e < 256 → n % stamps ≡ 0 →
    put5 ((five a b c d e + n) % stamps) a c e w ≡ a ∷ b ∷ c ∷ d ∷ e ∷ w
same5_of a b c d e n w ha hb hc hd he z =
    ap (λ (y : ℕ). put5 y a c e w) (none_of (five a b c d e) n (five_lt a b c d e ha hb hc hd he) z) ∙ put5_same a b c d e w ha hb hc hd he

pub stamps_none : (u : Bytes) → Shape u → ((i : ℕ) → byte u i < 256) → (n : ℕ) → n % stamps ≡ 0 → move_stamps n u ≡ u
stamps_none _ (plain u h k) s n z = moved_plain u n h k
stamps_none _ (pts u0 u1 u2 u3 u4 u5 u6 u7 u8 u9 u10 u11 u12 u13 w h k) s n z =
    moved_pts u0 u1 u2 u3 u4 u5 u6 u7 u8 u9 u10 u11 u12 u13 n w h k ∙ ap (λ (x : Bytes). u0 ∷ u1 ∷ u2 ∷ u3 ∷ u4 ∷ u5 ∷ u6 ∷ u7 ∷ u8 ∷ x) (same5_of u9 u10 u11 u12 u13 n w (s 9) (s 10) (s 11) (s 12) (s 13) z)
stamps_none _ (both u0 u1 u2 u3 u4 u5 u6 u7 u8 u9 u10 u11 u12 u13 u14 u15 u16 u17 u18 w h k) s n z =
    moved_both u0 u1 u2 u3 u4 u5 u6 u7 u8 u9 u10 u11 u12 u13 u14 u15 u16 u17 u18 n w h k ∙ ap (λ (x : Bytes). u0 ∷ u1 ∷ u2 ∷ u3 ∷ u4 ∷ u5 ∷ u6 ∷ u7 ∷ u8 ∷ x) (same5_of u9 u10 u11 u12 u13 n _ (s 9) (s 10) (s 11) (s 12) (s 13) z)
    ∙ ap (λ (x : Bytes). u0 ∷ u1 ∷ u2 ∷ u3 ∷ u4 ∷ u5 ∷ u6 ∷ u7 ∷ u8 ∷ u9 ∷ u10 ∷ u11 ∷ u12 ∷ u13 ∷ x) (same5_of u14 u15 u16 u17 u18 n w (s 14) (s 15) (s 16) (s 17) (s 18) z)

-- what a move keeps
pub stamps_length : (u : Bytes) → Shape u → (n : ℕ) → length (move_stamps n u) ≡ length u
stamps_length _ (plain u h k) n = ap length (moved_plain u n h k)
stamps_length _ (pts u0 u1 u2 u3 u4 u5 u6 u7 u8 u9 u10 u11 u12 u13 w h k) n = ap length (moved_pts u0 u1 u2 u3 u4 u5 u6 u7 u8 u9 u10 u11 u12 u13 n w h k)
stamps_length _ (both u0 u1 u2 u3 u4 u5 u6 u7 u8 u9 u10 u11 u12 u13 u14 u15 u16 u17 u18 w h k) n = ap length (moved_both u0 u1 u2 u3 u4 u5 u6 u7 u8 u9 u10 u11 u12 u13 u14 u15 u16 u17 u18 n w h k)

pub stamps_first : (u : Bytes) → Shape u → (n : ℕ) → take 9 (move_stamps n u) ≡ take 9 u
stamps_first _ (plain u h k) n = ap (take 9) (moved_plain u n h k)
stamps_first _ (pts u0 u1 u2 u3 u4 u5 u6 u7 u8 u9 u10 u11 u12 u13 w h k) n = ap (take 9) (moved_pts u0 u1 u2 u3 u4 u5 u6 u7 u8 u9 u10 u11 u12 u13 n w h k)
stamps_first _ (both u0 u1 u2 u3 u4 u5 u6 u7 u8 u9 u10 u11 u12 u13 u14 u15 u16 u17 u18 w h k) n = ap (take 9) (moved_both u0 u1 u2 u3 u4 u5 u6 u7 u8 u9 u10 u11 u12 u13 u14 u15 u16 u17 u18 n w h k)

pub stamps_stamped : (u : Bytes) → Shape u → (n : ℕ) → stamped (move_stamps n u) ≡ stamped u
stamps_stamped _ (plain u h k) n = ap stamped (moved_plain u n h k)
stamps_stamped _ (pts u0 u1 u2 u3 u4 u5 u6 u7 u8 u9 u10 u11 u12 u13 w h k) n =
    let x : ℕ = (five u9 u10 u11 u12 u13 + n) % stamps in
    let l : x < 2 ^ 33 = mod_lt (five u9 u10 u11 u12 u13 + n) in
    ap stamped (moved_pts u0 u1 u2 u3 u4 u5 u6 u7 u8 u9 u10 u11 u12 u13 n w h k) ∙ rw (h, k, prefix1 x u9 l, mark1 x u9, mark3 x u11, mark5 x u13)
stamps_stamped _ (both u0 u1 u2 u3 u4 u5 u6 u7 u8 u9 u10 u11 u12 u13 u14 u15 u16 u17 u18 w h k) n =
    let x : ℕ = (five u9 u10 u11 u12 u13 + n) % stamps in
    let l : x < 2 ^ 33 = mod_lt (five u9 u10 u11 u12 u13 + n) in
    let y : ℕ = (five u14 u15 u16 u17 u18 + n) % stamps in
    let m : y < 2 ^ 33 = mod_lt (five u14 u15 u16 u17 u18 + n) in
    ap stamped (moved_both u0 u1 u2 u3 u4 u5 u6 u7 u8 u9 u10 u11 u12 u13 u14 u15 u16 u17 u18 n w h k) ∙ rw (h, k, prefix1 x u9 l, mark1 x u9, mark3 x u11, mark5 x u13, prefix1 y u14 m, mark1 y u14, mark3 y u16, mark5 y u18)

w1_lt : (x a : ℕ) → x < 2 ^ 33 → a < 256 → w1 x a < 256
w1_lt x a h k = omega arith

w3_lt : (x c : ℕ) → w3 x c < 256
w3_lt x c = omega arith

w5_lt : (x e : ℕ) → w5 x e < 256
w5_lt x e = omega arith

m_lt : (x : ℕ) → x % 256 < 256
m_lt x = omega arith

pub stamps_small : (u : Bytes) → Shape u → Small u → (n : ℕ) → Small (move_stamps n u)
stamps_small _ (plain u h k) s n = rw (moved_plain u n h k) s
stamps_small _ (pts u0 u1 u2 u3 u4 u5 u6 u7 u8 u9 u10 u11 u12 u13 w h k) s n =
    let x : ℕ = (five u9 u10 u11 u12 u13 + n) % stamps in
    let l : x < 2 ^ 33 = mod_lt (five u9 u10 u11 u12 u13 + n) in
    let at = small_at (u0 ∷ u1 ∷ u2 ∷ u3 ∷ u4 ∷ u5 ∷ u6 ∷ u7 ∷ u8 ∷ u9 ∷ u10 ∷ u11 ∷ u12 ∷ u13 ∷ w) s in
    rw (moved_pts u0 u1 u2 u3 u4 u5 u6 u7 u8 u9 u10 u11 u12 u13 n w h k) (at 0, (at 1, (at 2, (at 3, (at 4, (at 5, (at 6, (at 7, (at 8, ((w1_lt x u9 l (at 9), (m_lt (x / 2 ^ 22), (w3_lt x u11, (m_lt (x / 2 ^ 7), (w5_lt x u13, small_drop 14 (u0 ∷ u1 ∷ u2 ∷ u3 ∷ u4 ∷ u5 ∷ u6 ∷ u7 ∷ u8 ∷ u9 ∷ u10 ∷ u11 ∷ u12 ∷ u13 ∷ w) s)))))))))))))))
stamps_small _ (both u0 u1 u2 u3 u4 u5 u6 u7 u8 u9 u10 u11 u12 u13 u14 u15 u16 u17 u18 w h k) s n =
    let x : ℕ = (five u9 u10 u11 u12 u13 + n) % stamps in
    let l : x < 2 ^ 33 = mod_lt (five u9 u10 u11 u12 u13 + n) in
    let y : ℕ = (five u14 u15 u16 u17 u18 + n) % stamps in
    let m : y < 2 ^ 33 = mod_lt (five u14 u15 u16 u17 u18 + n) in
    let at = small_at (u0 ∷ u1 ∷ u2 ∷ u3 ∷ u4 ∷ u5 ∷ u6 ∷ u7 ∷ u8 ∷ u9 ∷ u10 ∷ u11 ∷ u12 ∷ u13 ∷ u14 ∷ u15 ∷ u16 ∷ u17 ∷ u18 ∷ w) s in
    rw (moved_both u0 u1 u2 u3 u4 u5 u6 u7 u8 u9 u10 u11 u12 u13 u14 u15 u16 u17 u18 n w h k) (
      at 0,
      (
        at 1,
        (
          at 2,
          (
            at 3,
            (
              at 4,
              (
                at 5,
                (
                  at 6,
                  (
                    at 7,
                    (
                      at 8,
                      ((
                        w1_lt x u9 l (at 9),
                        (
                          m_lt (x / 2 ^ 22),
                          (
                            w3_lt x u11,
                            (
                              m_lt (x / 2 ^ 7),
                              (
                                w5_lt x u13,
                                (w1_lt y u14 m (at 14), (m_lt (y / 2 ^ 22), (w3_lt y u16, (m_lt (y / 2 ^ 7), (w5_lt y u18, small_drop 19 (u0 ∷ u1 ∷ u2 ∷ u3 ∷ u4 ∷ u5 ∷ u6 ∷ u7 ∷ u8 ∷ u9 ∷ u10 ∷ u11 ∷ u12 ∷ u13 ∷ u14 ∷ u15 ∷ u16 ∷ u17 ∷ u18 ∷ w) s))))),
                              ),
                            ),
                          ),
                        ),
                      )),
                    ),
                  ),
                ),
              ),
            ),
          ),
        ),
      ),
    )

-- what the stamps become
pub stamps_pts : (u : Bytes) → Shape u → (n : ℕ) → has_pts u ≡ true → stamp (move_stamps n u) 9 ≡ (stamp u 9 + n) % stamps
stamps_pts _ (plain u h k) n g = absurd (both_ways (has_pts u) h g)
stamps_pts _ (pts u0 u1 u2 u3 u4 u5 u6 u7 u8 u9 u10 u11 u12 u13 w h k) n g =
    ap (λ x. stamp x 9) (moved_pts u0 u1 u2 u3 u4 u5 u6 u7 u8 u9 u10 u11 u12 u13 n w h k) ∙ read_five ((five u9 u10 u11 u12 u13 + n) % stamps) u9 u11 u13 (mod_lt (five u9 u10 u11 u12 u13 + n))
stamps_pts _ (both u0 u1 u2 u3 u4 u5 u6 u7 u8 u9 u10 u11 u12 u13 u14 u15 u16 u17 u18 w h k) n g =
    ap (λ x. stamp x 9) (moved_both u0 u1 u2 u3 u4 u5 u6 u7 u8 u9 u10 u11 u12 u13 u14 u15 u16 u17 u18 n w h k) ∙ read_five ((five u9 u10 u11 u12 u13 + n) % stamps) u9 u11 u13 (mod_lt (five u9 u10 u11 u12 u13 + n))

pub stamps_dts : (u : Bytes) → Shape u → (n : ℕ) → has_dts u ≡ true → stamp (move_stamps n u) 14 ≡ (stamp u 14 + n) % stamps
stamps_dts _ (plain u h k) n g = absurd (both_ways (has_dts u) k g)
stamps_dts _ (pts u0 u1 u2 u3 u4 u5 u6 u7 u8 u9 u10 u11 u12 u13 w h k) n g = absurd (both_ways (eqb (u7 / 64) 3) k g)
stamps_dts _ (both u0 u1 u2 u3 u4 u5 u6 u7 u8 u9 u10 u11 u12 u13 u14 u15 u16 u17 u18 w h k) n g =
    ap (λ x. stamp x 14) (moved_both u0 u1 u2 u3 u4 u5 u6 u7 u8 u9 u10 u11 u12 u13 u14 u15 u16 u17 u18 n w h k) ∙ read_five ((five u14 u15 u16 u17 u18 + n) % stamps) u14 u16 u18 (mod_lt (five u14 u15 u16 u17 u18 + n))
