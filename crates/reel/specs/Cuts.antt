-- Bytes as packets.
use Rattle.std.specs.Prelude.{◌≡◌, ℕ, zero, suc, ◌+◌, ◌*◌, ◌/◌, ◌%◌, ◌<◌, ◌≤◌, false, not, ◌||◌, [], ◌∷◌, length, get_or, take, drop, ◌==◌, nat_le, slice_index, slice_index_or, refl}
use Rattle.std.proofs.Common.{sym, ap, subst, ◌∙◌, inl, inr, lit<, lit≤, length-take, length-drop, drop-drop, get_or-take, get_or-drop, arith}
use Rattle.std.proofs.lemmas.Bool.{or_parts, and_parts, not-false, leb-true, eqb-true, cases_Bool, cond-true, cond-false}
use Rattle.model.specs.File.{bad_number}
use Rattle.model.specs.Packet.{Bytes}
use Rattle.model.specs.Watches.{Whole}
use Rattle.model.specs.Reels.{packets_in, cut, bad_bytes, low, held, fillers}
use Rattle.laws.proofs.ReelLaws.{fillers_whole}

pub packets_length : (n : ℕ) (bs : Bytes) → length (packets_in n bs) ≡ n
packets_length zero bs = refl
packets_length (suc n) bs = ap suc (packets_length n (drop 188 bs))

pub packet_at : (n : ℕ) (bs : Bytes) (i : ℕ) → i < n → slice_index_or (packets_in n bs) i [] ≡ take 188 (drop (188 * i) bs)
packet_at zero bs i h = absurd (omega arith)
packet_at (suc n) bs zero h = refl
packet_at (suc n) bs (suc i) h =
    packet_at n (drop 188 bs) i (omega arith)
    ∙ ap (take 188) (drop-drop (188 * i) 188 bs ∙ (let e : 188 + 188 * i ≡ 188 * suc i = omega arith in ap (λ k. drop k bs) e))

pub record Even (bs : Bytes) : Type 0 where
  pub whole : length bs % 188 ≡ 0
  pub some : 1 ≤ length bs / 188
  pub few : length bs / 188 ≤ 1000000000

pub even : (bs : Bytes) → bad_bytes bs ≡ false → Even bs
even bs h =
    let p = or_parts _ (bad_number (length bs / 188)) h in
    let q = and_parts (nat_le 1 (length bs / 188)) _ (not-false _ p.1) in
    record { whole = eqb-true _ 0 (not-false _ p.0); some = leb-true 1 _ q.0; few = leb-true _ 1000000000 q.1 }

pub cut_length : (bs : Bytes) → length (cut bs) ≡ length bs / 188
cut_length bs = packets_length (length bs / 188) bs

pub cut_at : (bs : Bytes) (i : ℕ) → i < length bs / 188 → slice_index_or (cut bs) i [] ≡ take 188 (drop (188 * i) bs)
cut_at bs i h = packet_at (length bs / 188) bs i h

pub cut_whole : (bs : Bytes) → bad_bytes bs ≡ false → ((k : ℕ) → slice_index bs k < 256) → Whole (cut bs)
cut_whole bs h small =
    let e = even bs h in
    let n = cut_length bs in
    record {
      some = (let s = e.some in omega arith);
      few = (let s = e.few in omega arith);
      sized = λ i l. (let k : i < length bs / 188 = omega arith in ap length (cut_at bs i k) ∙ simp (length-take, length-drop) (let w = e.whole in omega arith));
      small = λ i k l m.
          (let j : i < length bs / 188 = omega arith in
          let g : get_or (slice_index_or (cut bs) i []) k 0 ≡ get_or bs (188 * i + k) 0 = ap (λ (x : Bytes). slice_index x k) (cut_at bs i j) ∙ get_or-take 188 (drop (188 * i) bs) k 0 m ∙ get_or-drop (188 * i) bs k 0 in
          rw g (small (188 * i + k)));
    }

-- Bytes modulo 256.

pub low_length : (bs : Bytes) → length (low bs) ≡ length bs
low_length [] = refl
low_length (b ∷ bs) = ap suc (low_length bs)

pub low_at : (bs : Bytes) (k : ℕ) → slice_index (low bs) k < 256
low_at [] k = lit< tt
low_at (b ∷ bs) zero = omega arith
low_at (b ∷ bs) (suc k) = low_at bs k

pub low_drop : (n : ℕ) (bs : Bytes) → drop n (low bs) ≡ low (drop n bs)
low_drop zero bs = refl
low_drop (suc n) [] = refl
low_drop (suc n) (b ∷ bs) = low_drop n bs

pub low_take : (n : ℕ) (bs : Bytes) → take n (low bs) ≡ low (take n bs)
low_take zero bs = refl
low_take (suc n) [] = refl
low_take (suc n) (b ∷ bs) = ap (λ (x : Bytes). b % 256 ∷ x) (low_take n bs)

-- bytes below 256 are themselves
pub low_same : (bs : Bytes) → ((k : ℕ) → k < length bs → slice_index bs k < 256) → low bs ≡ bs
low_same [] h = refl
low_same (b ∷ bs) h =
    let s : b < 256 = h 0 (omega arith) in
    let e : b % 256 ≡ b = omega arith in
    ap (λ x. x ∷ low bs) e ∙ ap (λ (x : Bytes). b ∷ x) (low_same bs (λ k l. h (suc k) (omega arith)))

pub low_bad : (bs : Bytes) → bad_bytes (low bs) ≡ bad_bytes bs
low_bad bs = ap (λ n. not (n % 188 == 0) || bad_number (n / 188)) (low_length bs)

pub held_good : (bs : Bytes) → bad_bytes bs ≡ false → held bs ≡ cut (low bs)
held_good bs h = cond-false (bad_bytes bs) (fillers 1) (cut (low bs)) h

pub held_whole : (bs : Bytes) → Whole (held bs)
held_whole bs = elim (cases_Bool (bad_bytes bs)) [
  | inl h ↦ subst Whole (sym (cond-true (bad_bytes bs) (fillers 1) (cut (low bs)) h)) (fillers_whole 1 (lit≤ tt) (lit≤ tt))
  | inr h ↦ subst Whole (sym (held_good bs h)) (cut_whole (low bs) (low_bad bs ∙ h) (low_at bs))
]
