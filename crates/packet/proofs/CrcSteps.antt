-- One look-up for a byte: a step of the division is linear over bit_xor, so the highest byte and the others go apart.
use Rattle.std.proofs.Common.{◌≡◌, ℕ, zero, suc, ◌+◌, ◌*◌, ◌/◌, ◌%◌, ◌^◌, ◌<◌, Bool, eqb, leb, List, [], ◌∷◌, get_or, sym, refl, ap, ◌∙◌, ap₂, inl, inr, add-zero, mul_assoc, div-add-mod', arith, lit<}
use lib.Bits.{bit_xor, xor_zero_r, xor_comm, xor_assoc, xor_lt, xor_block, xor_shifted, xor_shr, xor_mod}
use Rattle.std.proofs.lemmas.Bool.{cases_Bool, cond-true, cond-false, leb-true, leb-false, lt-leb, eqb-true}
use Rattle.model.specs.Crc.{crc_bit, crc_byte}
use Rattle.packet.proofs.Table.{at}

-- what a step adds, by the highest bit
abbrev poly : ℕ → ℕ
poly zero = 0
poly (suc n) = 0x04C11DB7

bit_form : (z : ℕ) → z < 2 ^ 32 → crc_bit z ≡ bit_xor (z * 2 % 2 ^ 32) (poly (z / 2 ^ 31))
bit_form z h = elim (cases_Bool (leb (2 ^ 31) z)) [
  | inl t ↦
      let e : z / 2 ^ 31 ≡ 1 = omega (arith, leb-true (2 ^ 31) z t) in
      cond-true (leb (2 ^ 31) z) _ _ t ∙ ap (λ x. bit_xor (z * 2 % 2 ^ 32) (poly x)) (sym e)
  | inr t ↦
      let l : z < 2 ^ 31 = leb-false (2 ^ 31) z t in
      let e : z / 2 ^ 31 ≡ 0 = omega arith in
      let d : z * 2 ≡ z * 2 % 2 ^ 32 = omega arith in
      cond-false (leb (2 ^ 31) z) _ _ t ∙ d ∙ sym (xor_zero_r (z * 2 % 2 ^ 32)) ∙ ap (λ x. bit_xor (z * 2 % 2 ^ 32) (poly x)) (sym e)
]

poly_xor : (a b : ℕ) → a < 2 → b < 2 → poly (bit_xor a b) ≡ bit_xor (poly a) (poly b)
poly_xor zero b h k = refl
poly_xor (suc zero) zero h k = refl
poly_xor (suc zero) (suc zero) h k = refl
poly_xor (suc zero) (suc (suc b)) h k = absurd (omega arith)
poly_xor (suc (suc a)) b h k = absurd (omega arith)

poly_lt : (n : ℕ) → poly n < 2 ^ 32
poly_lt zero = lit< tt
poly_lt (suc n) = lit< tt

double_xor : (x y : ℕ) → bit_xor x y * 2 % 2 ^ 32 ≡ bit_xor (x * 2 % 2 ^ 32) (y * 2 % 2 ^ 32)
double_xor x y =
    ap (λ z. z % 2 ^ 32) (sym (ap₂ bit_xor (sym (add-zero (x * 2))) (sym (add-zero (y * 2))) ∙ xor_block 1 x y 0 0 (lit< tt) (lit< tt) ∙ add-zero (bit_xor x y * 2)))
    ∙ xor_mod (x * 2) (y * 2) 32

swap : (a b c d : ℕ) → bit_xor (bit_xor a b) (bit_xor c d) ≡ bit_xor (bit_xor a c) (bit_xor b d)
swap a b c d =
    xor_assoc a b (bit_xor c d)
    ∙ ap (bit_xor a) (sym (xor_assoc b c d) ∙ ap (λ x. bit_xor x d) (xor_comm b c) ∙ xor_assoc c b d)
    ∙ sym (xor_assoc a c (bit_xor b d))

half : (x : ℕ) → x < 2 ^ 32 → x / 2 ^ 31 < 2
half x h = omega arith

rest_lt : (x : ℕ) → x % 2 ^ 32 < 2 ^ 32
rest_lt x = omega arith

-- a step is linear
bit_xor_lem : (x y : ℕ) → x < 2 ^ 32 → y < 2 ^ 32 → crc_bit (bit_xor x y) ≡ bit_xor (crc_bit x) (crc_bit y)
bit_xor_lem x y h k =
    bit_form (bit_xor x y) (xor_lt 32 x y h k)
    ∙ ap₂ bit_xor (double_xor x y) (ap poly (xor_shr x y 31) ∙ poly_xor (x / 2 ^ 31) (y / 2 ^ 31) (half x h) (half y k))
    ∙ swap (x * 2 % 2 ^ 32) (y * 2 % 2 ^ 32) (poly (x / 2 ^ 31)) (poly (y / 2 ^ 31))
    ∙ sym (ap₂ bit_xor (bit_form x h) (bit_form y k))

bit_lt : (z : ℕ) → z < 2 ^ 32 → crc_bit z < 2 ^ 32
bit_lt z h = rw (bit_form z h) (xor_lt 32 (z * 2 % 2 ^ 32) (poly (z / 2 ^ 31)) (rest_lt (z * 2)) (poly_lt (z / 2 ^ 31)))

-- and so are some steps
abbrev steps : ℕ → ℕ → ℕ
steps zero z = z
steps (suc n) z = crc_bit (steps n z)

steps_lt : (n z : ℕ) → z < 2 ^ 32 → steps n z < 2 ^ 32
steps_lt zero z h = h
steps_lt (suc n) z h = bit_lt (steps n z) (steps_lt n z h)

steps_xor : (n x y : ℕ) → x < 2 ^ 32 → y < 2 ^ 32 → steps n (bit_xor x y) ≡ bit_xor (steps n x) (steps n y)
steps_xor zero x y h k = refl
steps_xor (suc n) x y h k = ap crc_bit (steps_xor n x y h k) ∙ bit_xor_lem (steps n x) (steps n y) (steps_lt n x h) (steps_lt n y k)

-- below the highest byte eight steps are a shift
low : (y : ℕ) → y < 2 ^ 31 → crc_bit y ≡ y * 2
low y h = cond-false (leb (2 ^ 31) y) _ _ (lt-leb (2 ^ 31) y h)

next : (x z k : ℕ) → x ≡ z * k → z * k < 2 ^ 31 → crc_bit x ≡ z * (k * 2)
next x z k e h = ap crc_bit e ∙ low (z * k) h ∙ mul_assoc z k 2

shifted : (z : ℕ) → z < 2 ^ 24 → steps 8 z ≡ z * 256
shifted z h =
    next (steps 7 z) z 128 (next (steps 6 z) z 64 (next (steps 5 z) z 32 (next (steps 4 z) z 16 (next (steps 3 z) z 8
    (next (steps 2 z) z 4 (next (steps 1 z) z 2 (low z (omega arith)) (omega arith)) (omega arith)) (omega arith)) (omega arith)) (omega arith)) (omega arith)) (omega arith)

-- the highest byte and the others
parts : (c b : ℕ) → bit_xor c (b * 2 ^ 24) ≡ bit_xor (bit_xor (c / 2 ^ 24) b * 2 ^ 24) (c % 2 ^ 24)
parts c b =
    ap₂ bit_xor (sym (div-add-mod' c (2 ^ 24))) (sym (add-zero (b * 2 ^ 24)))
    ∙ xor_block 24 (c / 2 ^ 24) b (c % 2 ^ 24) 0 (omega arith) (lit< tt)
    ∙ ap (λ x. bit_xor (c / 2 ^ 24) b * 2 ^ 24 + x) (xor_zero_r (c % 2 ^ 24))
    ∙ sym (xor_shifted (bit_xor (c / 2 ^ 24) b) 24 (c % 2 ^ 24) (omega arith))

top_lt : (c b : ℕ) → c < 2 ^ 32 → b < 256 → bit_xor (c / 2 ^ 24) b < 256
top_lt c b h k = xor_lt 8 (c / 2 ^ 24) b (omega arith) k

pub byte_step : (c b : ℕ) → c < 2 ^ 32 → b < 256 → bit_xor (crc_byte 0 (bit_xor (c / 2 ^ 24) b)) (c % 2 ^ 24 * 256) ≡ crc_byte c b
byte_step c b h k = sym (
    ap (steps 8) (parts c b)
    ∙ steps_xor 8 (bit_xor (c / 2 ^ 24) b * 2 ^ 24) (c % 2 ^ 24) (let l = top_lt c b h k in omega arith) (omega arith)
    ∙ ap (bit_xor (steps 8 (bit_xor (c / 2 ^ 24) b * 2 ^ 24))) (shifted (c % 2 ^ 24) (omega arith)))

-- the table, and its rule at each entry
abbrev from : ℕ → ℕ → List ℕ
from k zero = []
from k (suc n) = crc_byte 0 k ∷ from (suc k) n

abbrev pub table : List ℕ
table = from 0 256

abbrev right : ℕ → ℕ → Bool
right k x = eqb x (crc_byte 0 k)

pub entry_is : (k : ℕ) → k < 256 → get_or table k 0 ≡ crc_byte 0 k
entry_is k h = eqb-true (get_or table k 0) (crc_byte 0 k) (at right table refl k h)
