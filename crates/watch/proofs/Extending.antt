-- A section takes on many bytes at once, once its length is known.
use Rattle.std.proofs.Common.{◌≡◌, ℕ, ◌+◌, ◌-◌, ◌*◌, ◌%◌, ◌<◌, ◌≤◌, min, cond, eqb, [], ◌∷◌, ◌++◌, length, take, drop, sym, ap, ◌∙◌, append_assoc, arith}
use native.Mathlib.Nat.{min-le_left, min-le_right}
use borrow.Rule.Slice.PartMut.{mid_of, put_mid}
use Rattle.std.proofs.lemmas.List.{append-nil, length_push, length-append, length-take-le, get_or_append_left, take_at}
use Rattle.std.proofs.lemmas.Bool.{cond-true, cond-false, eq-eqb, ne_eqb}
use Rattle.model.proofs.Laying.{laid_part}
use Rattle.model.specs.Buffers.{laid}
use Rattle.model.specs.Packet.{Bytes, byte}
use Rattle.model.specs.Crc.{crc32}
use Rattle.model.specs.Sections.{Next, section_length, grown, read_all, section, ended, wrong}
use Rattle.watch.specs.declared.sections.section.Section.{Section}
use Rattle.watch.proofs.Assembling.{length_in_front}

-- section_length stands in the first three bytes
length_of_front : (u t : Bytes) → 3 ≤ length u → section_length (u ++ t) ≡ section_length u
length_of_front u t h =
    ap (λ x. x % 16 * 256 + byte (u ++ t) 2) (get_or_append_left u t 0 1 (omega arith)) ∙ ap (λ x. byte u 1 % 16 * 256 + x) (get_or_append_left u t 0 2 (omega arith))

-- a byte past the third
module _ (u : Bytes) (b : ℕ) (h : 3 ≤ length u) where
  abbrev more : Bytes
  more = u ++ b ∷ []

  long : length more ≡ length u + 1
  long = length_push u b

  same : section_length more ≡ section_length u
  same = length_of_front u (b ∷ []) h

  past : grown more ≡ cond (eqb (length more) (3 + section_length more)) (cond (eqb (crc32 more) 0) ended (wrong 29)) (section more)
  past =
      let e = long in
      cond-false (eqb (length more) 1) _ _ (ne_eqb (length more) 1 (λ z. omega arith))
      ∙ cond-false (eqb (length more) 2) _ _ (ne_eqb (length more) 2 (λ z. omega arith))
      ∙ cond-false (eqb (length more) 3) _ _ (ne_eqb (length more) 3 (λ z. omega arith))

  grows : length u + 1 < 3 + section_length u → grown more ≡ section more
  grows l = past ∙ cond-false (eqb (length more) (3 + section_length more)) _ _ (ne_eqb (length more) (3 + section_length more) (λ z. let e = long in let f = same in omega arith))

  closes : length u + 1 ≡ 3 + section_length u → grown more ≡ cond (eqb (crc32 more) 0) ended (wrong 29)
  closes l = past ∙ cond-true (eqb (length more) (3 + section_length more)) _ _ (eq-eqb (length more) (3 + section_length more) (let e = long in let f = same in omega arith))

-- bytes that do not reach the section's end
runs_on : (n : Next) (bs u : Bytes) → 3 ≤ length u → length u + length bs < 3 + section_length u → read_all n (section u) bs ≡ section (u ++ bs)
runs_on n [] u h l = ap section (sym (append-nil u))
runs_on n (b ∷ bs) u h l =
    let e = long u b h in
    let f = same u b h in
    ap (λ w. read_all n w bs) (grows u b h (omega arith))
    ∙ runs_on n bs (u ++ b ∷ []) (omega arith) (omega arith)
    ∙ ap section (append_assoc u (b ∷ []) bs)

-- bytes that do
runs_out : (n : Next) (bs u : Bytes) → 3 ≤ length u → 1 ≤ length bs → length u + length bs ≡ 3 + section_length u → read_all n (section u) bs ≡ cond (eqb (crc32 (u ++ bs)) 0) ended (wrong 29)
runs_out n [] u h s l = absurd (let z : 1 ≤ 0 = s in omega arith)
runs_out n (b ∷ []) u h s l = closes u b h l
runs_out n (b ∷ (d ∷ bs)) u h s l =
    let e = long u b h in
    let f = same u b h in
    let o : 1 ≤ length (d ∷ bs) = omega arith in
    ap (λ w. read_all n w (d ∷ bs)) (grows u b h (omega arith))
    ∙ runs_out n (d ∷ bs) (u ++ b ∷ []) (omega arith) o (omega arith)
    ∙ ap (λ (x : Bytes). cond (eqb (crc32 x) 0) ended (wrong 29)) (append_assoc u (b ∷ []) (d ∷ bs))

-- the first n of the bytes bs put after those of s, which lacks so many
module _ (s : Section) (bs : Bytes) (lacks n : ℕ) (x : Bytes) (h : 3 ≤ s.len) (k : lacks ≡ 3 + section_length s.buffer - s.len)
    (m : n ≡ min (length bs) lacks) (c : x ≡ mid_of 0 (n - 0) bs) (some : 1 ≤ length bs) where
  abbrev u : Bytes
  u = take s.len s.buffer

  abbrev pub full : Bytes
  full = put_mid s.len (s.len + n - s.len) s.buffer x

  pub within : n ≤ length bs
  within = let a = min-le_left (length bs) lacks in omega arith

  at_most : n ≤ lacks
  at_most = let a = min-le_right (length bs) lacks in omega arith

  left : (s.len < 3 + section_length s.buffer) × (section_length s.buffer ≤ 1021)
  left = s.unfinished h

  pub at_least : 1 ≤ n
  at_least = let a = left.0 in omega arith

  copied : x ≡ take n bs
  copied = let e : n - 0 ≡ n = omega arith in c ∙ ap (λ j. take j bs) e

  part_long : length (take n bs) ≡ n
  part_long = length-take-le n bs within

  u_long : length u ≡ s.len
  u_long = let a = left.0 in let b = left.1 in let l = s.long in length-take-le s.len s.buffer (omega arith)

  is_laid : full ≡ laid s.len (take n bs) s.buffer
  is_laid = let e = part_long in laid_part s.buffer (take n bs) x s.len (s.len + n - s.len) copied (omega arith)

  u_length : section_length u ≡ section_length s.buffer
  u_length = length_in_front s.len s.buffer h

  full_length : section_length full ≡ section_length s.buffer
  full_length = let e = u_long in ap section_length is_laid ∙ length_of_front u (take n bs ++ drop (s.len + length (take n bs)) s.buffer) (omega arith) ∙ u_length

  front : take (s.len + n) full ≡ u ++ take n bs
  front =
      let e = u_long in let f = part_long in let g = length-append u (take n bs) in
      ap (take (s.len + n)) (is_laid ∙ sym (append_assoc u (take n bs) (drop (s.len + length (take n bs)) s.buffer)))
      ∙ take_at (u ++ take n bs) (drop (s.len + length (take n bs)) s.buffer) (s.len + n) (omega arith)

  -- they do not reach its end
  pub still_unfinished : n < lacks → (s.len + n < 3 + section_length full) × (section_length full ≤ 1021)
  still_unfinished l = let b = left.1 in let e = full_length in (omega arith, omega arith)

  pub extends : n < lacks → (next : Next) → section (take (s.len + n) full) ≡ read_all next (section u) (take n bs)
  extends l next =
      let e = u_long in let f = part_long in let g = u_length in
      ap section front ∙ sym (runs_on next (take n bs) u (omega arith) (omega arith))

  -- they do
  pub finishes : lacks ≤ n → (next : Next) → cond (eqb (crc32 (mid_of 0 (s.len + n - 0) full)) 0) ended (wrong 29) ≡ read_all next (section u) (take n bs)
  finishes l next =
      let e = u_long in let f = part_long in let g = u_length in let a = left.0 in let o = at_least in let p = at_most in
      let z : s.len + n - 0 ≡ s.len + n = omega arith in
      ap (λ (y : Bytes). cond (eqb (crc32 y) 0) ended (wrong 29)) (ap (λ j. take j full) z ∙ front)
      ∙ sym (runs_out next (take n bs) u (omega arith) (omega arith) (omega arith))
