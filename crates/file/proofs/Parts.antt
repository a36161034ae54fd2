-- The parts of a file.
use Rattle.std.proofs.Common.{◌≡◌, ℕ, ◌+◌, ◌-◌, ◌≤◌, ◌++◌, length, take, drop, sym, ap, ◌∙◌, arith, take-append-drop, drop-drop}
use Rattle.model.specs.Packet.{Bytes}
use Rattle.model.specs.File.{mark, last}

-- one part, and what comes after it
cut : (t : Bytes) (a n : ℕ) → take n (drop a t) ++ drop (a + n) t ≡ drop a t
cut t a n = ap (λ (x : Bytes). take n (drop a t) ++ x) (sym (drop-drop n a t)) ∙ take-append-drop n (drop a t)

-- 24 bytes from their parts
pub trailer_parts : (t a b c d : Bytes) → a ≡ take 4 t → b ≡ take 8 (drop 4 t) → c ≡ take 4 (drop 12 t) → d ≡ take 4 (drop 16 t) → drop 20 t ≡ mark → a ++ (b ++ (c ++ (d ++ mark))) ≡ t
trailer_parts t a b c d e1 e2 e3 e4 e5 =
    rw (e1, e2, e3, e4, ← e5)
    (ap (λ (x : Bytes). take 4 t ++ (take 8 (drop 4 t) ++ (take 4 (drop 12 t) ++ x))) (cut t 16 4)
    ∙ ap (λ (x : Bytes). take 4 t ++ (take 8 (drop 4 t) ++ x)) (cut t 12 4)
    ∙ ap (λ (x : Bytes). take 4 t ++ x) (cut t 4 8)
    ∙ take-append-drop 4 t)

-- the last of the last
pub last_last : (f : Bytes) (m n : ℕ) → n ≤ m → m ≤ length f → drop (m - n) (last m f) ≡ last n f
last_last f m n h k = drop-drop (m - n) (length f - m) f ∙ (let e : length f - m + (m - n) ≡ length f - n = omega arith in ap (λ x. drop x f) e)
