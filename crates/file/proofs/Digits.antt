-- Numbers and the bytes that write them.
use Rattle.std.proofs.Common.{◌≡◌, ℕ, zero, suc, ◌+◌, ◌*◌, ◌/◌, ◌%◌, ◌^◌, ◌<◌, List, [], ◌∷◌, ◌++◌, length, get_or, sym, refl, ap, ◌∙◌, pow-suc, arith}
use native.Mathlib.Nat.{mul_comm, div-div-eq-div-mul}
use Rattle.std.specs.Int.{byte_at, bytes_high_first, from_be_bytes, w32, w64}
use Rattle.std.specs.Int.Digits.{number_from_digits}
use Rattle.std.proofs.lemmas.Int.Digits.{number_push}
use Rattle.std.proofs.lemmas.Nat.{be_bytes_4, be_bytes_8}
use Rattle.model.specs.File.{written}

byte_more : (k v : ℕ) → byte_at (suc k) v ≡ byte_at k (v / 256)
byte_more zero v = refl
byte_more (suc k) v =
    ap (λ n. v / n % 256) (pow-suc 256 (suc k) ∙ mul_comm (256 ^ suc k) 256)
    ∙ ap (λ n. n % 256) (sym (div-div-eq-div-mul v 256 (256 ^ suc k)))

high_more : (n v : ℕ) → bytes_high_first (suc n) v ≡ bytes_high_first n (v / 256) ++ (v % 256 ∷ [])
high_more zero v = refl
high_more (suc n) v =
    ap (λ x. x ∷ bytes_high_first (suc n) v) (byte_more n v) ∙ ap (λ (x : List ℕ). byte_at n (v / 256) ∷ x) (high_more n v)

-- the bytes of a number, the highest first, are the digits that write it
pub bytes_written : (n v : ℕ) → bytes_high_first n v ≡ written n v
bytes_written zero v = refl
bytes_written (suc n) v = high_more n v ∙ ap (λ (x : List ℕ). x ++ (v % 256 ∷ [])) (bytes_written n (v / 256))

-- a number that was read of bytes is written as the same bytes
pub written_4 : (bs : List ℕ) (v : ℕ) → length bs ≡ 4 → ((i : ℕ) → get_or bs i 0 < 256) → v ≡ from_be_bytes w32 bs → written 4 v ≡ bs
written_4 bs v h k e = sym (bytes_written 4 v) ∙ be_bytes_4 bs v h k e

pub written_8 : (bs : List ℕ) (v : ℕ) → length bs ≡ 8 → ((i : ℕ) → get_or bs i 0 < 256) → v ≡ from_be_bytes w64 bs → written 8 v ≡ bs
written_8 bs v h k e = sym (bytes_written 8 v) ∙ be_bytes_8 bs v h k e

-- a number of at most n digits is read back from them
pub number_written : (n v : ℕ) → v < 256 ^ n → number_from_digits 256 (written n v) ≡ v
number_written zero v h = omega arith
number_written (suc n) v h =
    let e : 256 ^ suc n ≡ 256 ^ n * 256 = pow-suc 256 n in
    let k : v / 256 < 256 ^ n = omega (arith, e) in
    number_push 256 (written n (v / 256)) (v % 256) ∙ ap (λ x. x * 256 + v % 256) (number_written n (v / 256) k) ∙ omega arith

pub number_read : (n v : ℕ) (bs : List ℕ) → v < 256 ^ n → written n v ≡ bs → v ≡ number_from_digits 256 bs
number_read n v bs h e = sym (number_written n v h) ∙ ap (number_from_digits 256) e
