-- Reading a file, refusal by refusal.
use Rattle.std.proofs.Common.{◌≡◌, ℕ, zero, suc, ◌+◌, ◌-◌, ◌*◌, ◌/◌, ◌%◌, ◌≤◌, false, not, ◌&&◌, eqb, ltb, leb, [], ◌∷◌, ◌++◌, length, take, drop, Some, None, Ok, Err, Option, Result, sym, refl, ap, ◌∙◌, inl, inr, arith, length-append, length-drop, take-append-drop, length-take, take-take}
use Rattle.std.proofs.lemmas.Bool.{cases_Bool, cond-true, cond-false, or_parts, and_parts, not-false, leb-true, eqb-true, ltb-false}
use Rattle.model.specs.Entries.{lawful}
use Rattle.model.specs.Packet.{Bytes}
use Rattle.model.specs.Sheets.{SheetText, bad_timing}
use Rattle.model.specs.Tests.{first_broken, unless}
use Rattle.model.specs.File.{FileText, last, entries_in, are_entries, entries_bytes, opened, no_trailer, bad_distance, bad_count, rate_in, round_in, count_in, distance_in, bad_number, tail, tail_length, trailer_bytes}
use Rattle.file.proofs.Parts.{last_last}
use Rattle.file.specs.Reading.{sheet_in}
use Rattle.file.specs.Trailers.{trailer_in, trailer_of, bytes_of}
use Rattle.file.specs.declared.trailer.Trailer.{Trailer}

-- an accepted answer is the one that was due
pub unless_ok : {A : Type 0} (o : Option ℕ) (a b : A) → Ok a ≡ unless o b → a ≡ b
unless_ok None a b h = cc
unless_ok (Some n) a b h = let z : ◌≡◌ {A = ℕ} 0 1 = cc in absurd (omega arith)

pub length_entries : (n : ℕ) (bs : Bytes) → length (entries_in n bs) ≡ n
length_entries zero bs = refl
length_entries (suc n) bs = length-append (entries_in n bs) _ ∙ ap (λ x. x + 1) (length_entries n bs) ∙ omega arith

-- a trailer that was read
pub trailer_read : (f : Bytes) (t : Trailer) → Some t ≡ trailer_in f → (no_trailer f ≡ false) × (t ≡ trailer_of (last 24 f))
trailer_read f t h = elim (cases_Bool (no_trailer f)) [
  | inl b ↦
      let s : Some t ≡ None = h ∙ cond-true (no_trailer f) _ _ b in
      let z : ◌≡◌ {A = ℕ} 0 1 = cc in absurd (omega arith)
  | inr b ↦ let s : Some t ≡ Some (trailer_of (last 24 f)) = h ∙ cond-false (no_trailer f) _ _ b in (b, cc)
]

-- a sheet and a count together
abbrev pub counted : ℕ → Result SheetText ℕ → Result FileText ℕ
counted count (Ok s) = Ok (record { sheet = s; count = count })
counted count (Err n) = Err n

counted_unless : (o : Option ℕ) (s : SheetText) (count : ℕ) → unless o (record { sheet = s; count = count }) ≡ counted count (unless o s)
counted_unless None s count = refl
counted_unless (Some n) s count = refl

module _ (f : Bytes) where
  abbrev pub distance : ℕ
  distance = distance_in (last 24 f)

  -- how many entries there are, and their bytes
  abbrev pub number : ℕ
  number = (distance - 24) / 4

  abbrev pub bytes : Bytes
  bytes = take (4 * number) (last distance f)

  pub opened_sheet : no_trailer f ≡ false → bad_distance (length f) distance ≡ false → bad_count (length f - distance) (count_in (last 24 f)) ≡ false →
      opened f ≡ counted (count_in (last 24 f)) (sheet_in number bytes (rate_in (last 24 f)) (round_in (last 24 f)))
  opened_sheet a b c = rw (a, b, c) (counted_unless (first_broken ((4, not (are_entries number bytes && lawful (entries_in number bytes))) ∷ (5, bad_timing (rate_in (last 24 f)) (round_in (last 24 f))) ∷ [])) _ _)

-- a distance that fits
pub record Fitting (size d : ℕ) : Type 0 where
  pub low : 24 ≤ d
  pub whole : (d - 24) % 4 ≡ 0
  pub few : (d - 24) / 4 ≤ 16
  pub within : d ≤ size

pub fitting : (size d : ℕ) → bad_distance size d ≡ false → Fitting size d
fitting size d h =
    let p = or_parts _ (ltb size d) h in
    let q = and_parts (leb 24 d) _ (not-false _ p.0) in
    let r = and_parts (eqb ((d - 24) % 4) 0) _ q.1 in
    record { low = leb-true 24 d q.0; whole = eqb-true _ 0 r.0; few = leb-true _ 16 r.1; within = ltb-false size d p.1 }

-- the slice of the entries
pub slice_is : (f : Bytes) (d : ℕ) → Fitting (length f) d → take (length f - 24 - (length f - d)) (drop (length f - d) f) ≡ take (4 * ((d - 24) / 4)) (last d f)
slice_is f d g =
    let a = g.low in
    let b = g.whole in
    let c = g.within in
    let e : length f - 24 - (length f - d) ≡ 4 * ((d - 24) / 4) = omega arith in
    ap (λ n. take n (drop (length f - d) f)) e

pub slice_length : (f : Bytes) (d : ℕ) → Fitting (length f) d → length (take (length f - 24 - (length f - d)) (drop (length f - d) f)) / 4 ≡ (d - 24) / 4
slice_length f d g =
    let a = g.low in
    let b = g.whole in
    let c = g.within in
    let e : length (take (length f - 24 - (length f - d)) (drop (length f - d) f)) ≡ d - 24 = simp (length-take, length-drop) (omega arith) in
    ap (λ n. n / 4) e

-- entries and trailer of a file are its last bytes
pub last_parts : (f : Bytes) (d : ℕ) → Fitting (length f) d → take (4 * ((d - 24) / 4)) (last d f) ++ last 24 f ≡ last d f
last_parts f d g =
    let a = g.low in
    let b = g.whole in
    let c = g.within in
    let e : 4 * ((d - 24) / 4) ≡ d - 24 = omega arith in
    ap (λ n. take n (last d f) ++ last 24 f) e ∙ ap (λ (x : Bytes). take (d - 24) (last d f) ++ x) (sym (last_last f d 24 a c)) ∙ take-append-drop (d - 24) (last d f)

-- the tail of what was read
pub tail_again : (f : Bytes) (t : Trailer) (s : SheetText) → Fitting (length f) t.distance → bad_count (length f - t.distance) t.count ≡ false →
    bytes_of t ≡ last 24 f →
    s ≡ record { entries = entries_in ((t.distance - 24) / 4) (take (4 * ((t.distance - 24) / 4)) (last t.distance f)); rate = t.rate; round = t.round } →
    entries_bytes s.entries ≡ take (4 * ((t.distance - 24) / 4)) (take (4 * ((t.distance - 24) / 4)) (last t.distance f)) →
    tail (record { sheet = s; count = t.count }) ≡ drop (188 * t.count) f
tail_again f t s g k e h eb =
    let d = t.distance in
    let n = (d - 24) / 4 in
    let a = g.low in
    let b = g.whole in
    let size : 24 + 4 * n ≡ d = omega arith in
    let len : tail_length (length s.entries) ≡ d = ap (λ (x : SheetText). tail_length (length x.entries)) h ∙ ap tail_length (length_entries n _) ∙ size in
    let bytes = eb ∙ take-take (4 * n) (4 * n) (last d f) (omega arith) in
    let place : 188 * t.count ≡ length f - d = sym (eqb-true _ _ (not-false _ (or_parts _ (bad_number t.count) k).0)) in
    ap (λ (x : Bytes). x ++ trailer_bytes s.rate s.round t.count (tail_length (length s.entries))) bytes
    ∙ ap (λ m. take (4 * n) (last d f) ++ trailer_bytes s.rate s.round t.count m) len
    ∙ ap (λ (x : SheetText). take (4 * n) (last d f) ++ trailer_bytes x.rate x.round t.count d) h
    ∙ ap (λ (x : Bytes). take (4 * n) (last d f) ++ x) e
    ∙ last_parts f d g ∙ ap (λ m. drop m f) (sym place)

-- a sheet read from the slice is the one that the file names
pub sheet_slice : (f : Bytes) (d rate round : ℕ) → Fitting (length f) d →
    sheet_in (length (take (length f - 24 - (length f - d)) (drop (length f - d) f)) / 4) (take (length f - 24 - (length f - d)) (drop (length f - d) f)) rate round
    ≡ sheet_in ((d - 24) / 4) (take (4 * ((d - 24) / 4)) (last d f)) rate round
sheet_slice f d rate round g =
    ap (λ m. sheet_in m (take (length f - 24 - (length f - d)) (drop (length f - d) f)) rate round) (slice_length f d g)
    ∙ ap (λ (x : Bytes). sheet_in ((d - 24) / 4) x rate round) (slice_is f d g)

-- the front of the slice
pub slice_front : (f : Bytes) (d : ℕ) → Fitting (length f) d →
    take (4 * (length (take (length f - 24 - (length f - d)) (drop (length f - d) f)) / 4)) (take (length f - 24 - (length f - d)) (drop (length f - d) f))
    ≡ take (4 * ((d - 24) / 4)) (take (4 * ((d - 24) / 4)) (last d f))
slice_front f d g =
    ap (λ m. take (4 * m) (take (length f - 24 - (length f - d)) (drop (length f - d) f))) (slice_length f d g)
    ∙ ap (λ (x : Bytes). take (4 * ((d - 24) / 4)) x) (slice_is f d g)
