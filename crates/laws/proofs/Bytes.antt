use Rattle.std.proofs.Common.{◌≡◌, ℕ, ◌+◌, ◌*◌, ◌/◌, ◌%◌, ◌^◌, ◌<◌, ◌≤◌, eqb, ltb, List, [], ◌∷◌, length, refl, ap, arith, lit<}
use Rattle.model.specs.declared.entry.Entry.{Entry}
use Rattle.model.specs.Packet.{Bytes, byte, payload_unit_start, has_payload, has_adaptation_field, pid, scrambling_control, adaptation_flags, pcr_extension, pcr_base, pcr, payload_place}
use Rattle.model.specs.Form.{form, adaptation_stuffing}
use Rattle.laws.proofs.Small.{Small, small_at}
use Rattle.model.specs.Moves.{set_pcr, W}

-- 188 bytes
pub record Packet (p : Bytes) : Type 0 where
  pub sized : length p ≡ 188
  pub small : Small p

-- a list with its first twelve written out
pub data Long : Bytes → Type 0 where
  long : (b0 b1 b2 b3 b4 b5 b6 b7 b8 b9 b10 b11 : ℕ) (r : Bytes) → Long (b0 ∷ b1 ∷ b2 ∷ b3 ∷ b4 ∷ b5 ∷ b6 ∷ b7 ∷ b8 ∷ b9 ∷ b10 ∷ b11 ∷ r)

short : {n : ℕ} → 12 ≤ n → n < 12 → ⊥
short h k = omega arith

pub view : (p : Bytes) → 12 ≤ length p → Long p
view [] h = absurd (short h (lit< tt))
view (b0 ∷ []) h = absurd (short h (lit< tt))
view (b0 ∷ b1 ∷ []) h = absurd (short h (lit< tt))
view (b0 ∷ b1 ∷ b2 ∷ []) h = absurd (short h (lit< tt))
view (b0 ∷ b1 ∷ b2 ∷ b3 ∷ []) h = absurd (short h (lit< tt))
view (b0 ∷ b1 ∷ b2 ∷ b3 ∷ b4 ∷ []) h = absurd (short h (lit< tt))
view (b0 ∷ b1 ∷ b2 ∷ b3 ∷ b4 ∷ b5 ∷ []) h = absurd (short h (lit< tt))
view (b0 ∷ b1 ∷ b2 ∷ b3 ∷ b4 ∷ b5 ∷ b6 ∷ []) h = absurd (short h (lit< tt))
view (b0 ∷ b1 ∷ b2 ∷ b3 ∷ b4 ∷ b5 ∷ b6 ∷ b7 ∷ []) h = absurd (short h (lit< tt))
view (b0 ∷ b1 ∷ b2 ∷ b3 ∷ b4 ∷ b5 ∷ b6 ∷ b7 ∷ b8 ∷ []) h = absurd (short h (lit< tt))
view (b0 ∷ b1 ∷ b2 ∷ b3 ∷ b4 ∷ b5 ∷ b6 ∷ b7 ∷ b8 ∷ b9 ∷ []) h = absurd (short h (lit< tt))
view (b0 ∷ b1 ∷ b2 ∷ b3 ∷ b4 ∷ b5 ∷ b6 ∷ b7 ∷ b8 ∷ b9 ∷ b10 ∷ []) h = absurd (short h (lit< tt))
view (b0 ∷ b1 ∷ b2 ∷ b3 ∷ b4 ∷ b5 ∷ b6 ∷ b7 ∷ b8 ∷ b9 ∷ b10 ∷ b11 ∷ r) h = long b0 b1 b2 b3 b4 b5 b6 b7 b8 b9 b10 b11 r

-- p and q have the same fields but for the counter, the clock value and the stamps
pub record Like (p q : Bytes) : Type 0 where
  pub b0 : byte q 0 ≡ byte p 0
  pub b1 : byte q 1 ≡ byte p 1
  pub b2 : byte q 2 ≡ byte p 2
  pub b3 : byte q 3 / 16 ≡ byte p 3 / 16
  pub b4 : byte q 4 ≡ byte p 4
  pub b5 : byte q 5 ≡ byte p 5

module _ (p q : Bytes) (l : Like p q) where
  pub like_field : has_adaptation_field q ≡ has_adaptation_field p
  like_field = ap (λ x. eqb x 1) (omega arith)

  pub like_payload : has_payload q ≡ has_payload p
  like_payload = ap (λ x. eqb x 1) (omega arith)

  pub like_start : payload_unit_start q ≡ payload_unit_start p
  like_start = rw l.b1

  pub like_pid : pid q ≡ pid p
  like_pid = rw (l.b1, l.b2)

  pub like_scrambling_control : scrambling_control q ≡ scrambling_control p
  like_scrambling_control = omega arith

  pub like_adaptation_flags : adaptation_flags q ≡ adaptation_flags p
  like_adaptation_flags = rw (like_field, l.b4, l.b5)

  pub like_place : payload_place q ≡ payload_place p
  like_place = rw (like_field, l.b4)

  pub like_form : (es : List Entry) → adaptation_stuffing q ≡ adaptation_stuffing p → ltb 299 (pcr_extension q) ≡ ltb 299 (pcr_extension p) → form es q ≡ form es p
  like_form es s x = rw (s, x, like_adaptation_flags, like_scrambling_control, like_field, like_payload, like_pid, l.b0, l.b1, l.b4)

-- the clock field written, and read again
d1 : (x : ℕ) → x / 2 ^ 9 ≡ x / 2 / 256
d1 x = omega arith

d2 : (x : ℕ) → x / 2 ^ 17 ≡ x / 2 ^ 9 / 256
d2 x = omega arith

d3 : (x : ℕ) → x / 2 ^ 25 ≡ x / 2 ^ 17 / 256
d3 x = omega arith

whole_base : (x : ℕ) → x / 2 ^ 25 * 2 ^ 25 + x / 2 ^ 17 % 256 * 2 ^ 17 + x / 2 ^ 9 % 256 * 2 ^ 9 + x / 2 % 256 * 2 + x % 2 ≡ x
whole_base x = omega (arith, d1 x, d2 x, d3 x)

t5 : (v b : ℕ) → (v / 300 % 2 * 128 + b / 2 % 64 * 2 + v % 300 / 256) / 128 ≡ v / 300 % 2
t5 v b = omega arith

pub base_set : (p : Bytes) → Long p → (v : ℕ) → pcr_base (set_pcr v p) ≡ v / 300
base_set _ (long b0 b1 b2 b3 b4 b5 b6 b7 b8 b9 b10 b11 r) v = rw t5 (whole_base (v / 300))

pub extension_set : (p : Bytes) → Long p → (v : ℕ) → pcr_extension (set_pcr v p) ≡ v % 300
extension_set _ (long b0 b1 b2 b3 b4 b5 b6 b7 b8 b9 b10 b11 r) v = omega arith

pub clock_set : (p : Bytes) → Long p → (v : ℕ) → pcr (set_pcr v p) ≡ v
clock_set p l v = rw (base_set p l v, extension_set p l v) (omega arith)

pub clock_again : (p : Bytes) → Long p → (v w : ℕ) → set_pcr v (set_pcr w p) ≡ set_pcr v p
clock_again _ (long b0 b1 b2 b3 b4 b5 b6 b7 b8 b9 b10 b11 r) v w = ap (λ x. b0 ∷ b1 ∷ b2 ∷ b3 ∷ b4 ∷ b5 ∷ v / 300 / 2 ^ 25 ∷ v / 300 / 2 ^ 17 % 256 ∷ v / 300 / 2 ^ 9 % 256 ∷ v / 300 / 2 % 256 ∷ x ∷ v % 300 % 256 ∷ r) (omega arith)

-- a number from its digits, and its digits again
module _ (b6 b7 b8 b9 b10 : ℕ) (h6 : b6 < 256) (h7 : b7 < 256) (h8 : b8 < 256) (h9 : b9 < 256) (h10 : b10 < 256) where
  abbrev base : ℕ
  base = b6 * 2 ^ 25 + b7 * 2 ^ 17 + b8 * 2 ^ 9 + b9 * 2 + b10 / 128

  base6 : base / 2 ^ 25 ≡ b6
  base6 = omega arith

  base7 : base / 2 ^ 17 % 256 ≡ b7
  base7 = omega arith

  base8 : base / 2 ^ 9 % 256 ≡ b8
  base8 = omega arith

  base9 : base / 2 % 256 ≡ b9
  base9 = omega arith

  base10 : base % 2 ≡ b10 / 128
  base10 = omega arith

  base_lt : base < 2 ^ 33
  base_lt = omega arith

value_parts : (b e : ℕ) → e < 300 → ((b * 300 + e) / 300 ≡ b) × ((b * 300 + e) % 300 ≡ e)
value_parts b e h = (omega arith, omega arith)

six : (b0 b1 b2 b3 b4 b5 b6 b7 b8 b9 b10 b11 c6 c7 c8 c9 c10 c11 : ℕ) (r : Bytes) → c6 ≡ b6 → c7 ≡ b7 → c8 ≡ b8 → c9 ≡ b9 → c10 ≡ b10 → c11 ≡ b11
    → ◌≡◌ {A = Bytes} (b0 ∷ b1 ∷ b2 ∷ b3 ∷ b4 ∷ b5 ∷ c6 ∷ c7 ∷ c8 ∷ c9 ∷ c10 ∷ c11 ∷ r) (b0 ∷ b1 ∷ b2 ∷ b3 ∷ b4 ∷ b5 ∷ b6 ∷ b7 ∷ b8 ∷ b9 ∷ b10 ∷ b11 ∷ r)
six b0 b1 b2 b3 b4 b5 b6 b7 b8 b9 b10 b11 c6 c7 c8 c9 c10 c11 r e6 e7 e8 e9 e10 e11 = cc

byte10 : (base e b10 b11 : ℕ) → b10 < 256 → b11 < 256 → base % 2 ≡ b10 / 128 → e ≡ b10 % 2 * 256 + b11 → e < 300 → base % 2 * 128 + b10 / 2 % 64 * 2 + e / 256 ≡ b10
byte10 base e b10 b11 h k x y z = omega arith

pub clock_same : (p : Bytes) → Packet p → pcr_extension p < 300 → Long p → set_pcr (pcr p) p ≡ p
clock_same _ k h (long b0 b1 b2 b3 b4 b5 b6 b7 b8 b9 b10 b11 r) =
    let h6 : b6 < 256 = small_at (b0 ∷ b1 ∷ b2 ∷ b3 ∷ b4 ∷ b5 ∷ b6 ∷ b7 ∷ b8 ∷ b9 ∷ b10 ∷ b11 ∷ r) k.small 6 in
    let h7 : b7 < 256 = small_at (b0 ∷ b1 ∷ b2 ∷ b3 ∷ b4 ∷ b5 ∷ b6 ∷ b7 ∷ b8 ∷ b9 ∷ b10 ∷ b11 ∷ r) k.small 7 in
    let h8 : b8 < 256 = small_at (b0 ∷ b1 ∷ b2 ∷ b3 ∷ b4 ∷ b5 ∷ b6 ∷ b7 ∷ b8 ∷ b9 ∷ b10 ∷ b11 ∷ r) k.small 8 in
    let h9 : b9 < 256 = small_at (b0 ∷ b1 ∷ b2 ∷ b3 ∷ b4 ∷ b5 ∷ b6 ∷ b7 ∷ b8 ∷ b9 ∷ b10 ∷ b11 ∷ r) k.small 9 in
    let h10 : b10 < 256 = small_at (b0 ∷ b1 ∷ b2 ∷ b3 ∷ b4 ∷ b5 ∷ b6 ∷ b7 ∷ b8 ∷ b9 ∷ b10 ∷ b11 ∷ r) k.small 10 in
    let h11 : b11 < 256 = small_at (b0 ∷ b1 ∷ b2 ∷ b3 ∷ b4 ∷ b5 ∷ b6 ∷ b7 ∷ b8 ∷ b9 ∷ b10 ∷ b11 ∷ r) k.small 11 in
    let v = value_parts (base b6 b7 b8 b9 b10 h6 h7 h8 h9 h10) (b10 % 2 * 256 + b11) h in
    rw (v.0, v.1) (six b0 b1 b2 b3 b4 b5 b6 b7 b8 b9 b10 b11 _ _ _ _ _ _ r
    (base6 b6 b7 b8 b9 b10 h6 h7 h8 h9 h10) (base7 b6 b7 b8 b9 b10 h6 h7 h8 h9 h10) (base8 b6 b7 b8 b9 b10 h6 h7 h8 h9 h10) (base9 b6 b7 b8 b9 b10 h6 h7 h8 h9 h10)
    (byte10 (base b6 b7 b8 b9 b10 h6 h7 h8 h9 h10) (b10 % 2 * 256 + b11) b10 b11 h10 h11 (base10 b6 b7 b8 b9 b10 h6 h7 h8 h9 h10) refl h) (omega arith))

pub clock_lt : (p : Bytes) → Packet p → pcr_extension p < 300 → Long p → pcr p < W
clock_lt _ k h (long b0 b1 b2 b3 b4 b5 b6 b7 b8 b9 b10 b11 r) =
    let l = base_lt b6 b7 b8 b9 b10 (small_at (b0 ∷ b1 ∷ b2 ∷ b3 ∷ b4 ∷ b5 ∷ b6 ∷ b7 ∷ b8 ∷ b9 ∷ b10 ∷ b11 ∷ r) k.small 6) (small_at (b0 ∷ b1 ∷ b2 ∷ b3 ∷ b4 ∷ b5 ∷ b6 ∷ b7 ∷ b8 ∷ b9 ∷ b10 ∷ b11 ∷ r) k.small 7) (small_at (b0 ∷ b1 ∷ b2 ∷ b3 ∷ b4 ∷ b5 ∷ b6 ∷ b7 ∷ b8 ∷ b9 ∷ b10 ∷ b11 ∷ r) k.small 8) (small_at (b0 ∷ b1 ∷ b2 ∷ b3 ∷ b4 ∷ b5 ∷ b6 ∷ b7 ∷ b8 ∷ b9 ∷ b10 ∷ b11 ∷ r) k.small 9) (small_at (b0 ∷ b1 ∷ b2 ∷ b3 ∷ b4 ∷ b5 ∷ b6 ∷ b7 ∷ b8 ∷ b9 ∷ b10 ∷ b11 ∷ r) k.small 10) in omega arith
