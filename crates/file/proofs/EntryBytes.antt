-- Entries and the bytes that write them.
use Rattle.std.proofs.Common.{◌≡◌, ℕ, zero, suc, ◌+◌, ◌*◌, ◌<◌, get_or, drop, drop-drop, true, false, ◌&&◌, List, [], ◌∷◌, ◌++◌, length, take, Some, None, sym, refl, ap, ◌∙◌, inl, inr, append_assoc, append-nil, add-one, arith, take-add}
use Rattle.std.proofs.lemmas.Bool.{cases_Bool, cond-true, cond-false, and_left}
use Rattle.std.specs.Simd.{first_chunks}
use Rattle.model.specs.declared.entry.Entry.{Entry}
use Rattle.model.specs.Packet.{Bytes}
use Rattle.model.specs.File.{entry_of, is_entry, entry_part, entries_in, are_entries, entry_bytes, entries_bytes}
use Rattle.file.specs.Entries.{entry_in}

-- one entry that is none among more
pub none_among : (bs : Bytes) (m n : ℕ) → are_entries (m + 1) bs ≡ false → are_entries (m + 1 + n) bs ≡ false
none_among bs m zero h = let e : m + 1 + 0 ≡ m + 1 = omega arith in ap (λ k. are_entries k bs) e ∙ h
none_among bs m (suc n) h =
    let e : m + 1 + suc n ≡ suc (m + 1 + n) = omega arith in
    ap (λ k. are_entries k bs) e ∙ and_left _ _ (none_among bs m n h)

-- one entry more
pub are_more : (bs : Bytes) (i : ℕ) → are_entries (i + 1) bs ≡ are_entries i bs && is_entry (entry_part i bs)
are_more bs i = ap (λ k. are_entries k bs) (add-one i)

pub entries_more : (bs : Bytes) (i : ℕ) → entries_in (i + 1) bs ≡ entries_in i bs ++ (entry_of (entry_part i bs) ∷ [])
entries_more bs i = ap (λ k. entries_in k bs) (add-one i)

pub bytes_append : (xs ys : List Entry) → entries_bytes (xs ++ ys) ≡ entries_bytes xs ++ entries_bytes ys
bytes_append [] ys = refl
bytes_append (x ∷ xs) ys = ap (λ (r : Bytes). entry_bytes x ++ r) (bytes_append xs ys) ∙ sym (append_assoc (entry_bytes x) (entries_bytes xs) (entries_bytes ys))

pub bytes_more : (bs : Bytes) (i : ℕ) → entries_bytes (entries_in i bs) ≡ take (4 * i) bs → entry_bytes (entry_of (entry_part i bs)) ≡ entry_part i bs →
    entries_bytes (entries_in (i + 1) bs) ≡ take (4 * (i + 1)) bs
bytes_more bs i h e =
    ap entries_bytes (entries_more bs i) ∙ bytes_append (entries_in i bs) _
    ∙ ap (λ (x : Bytes). x ++ entries_bytes (entry_of (entry_part i bs) ∷ [])) h
    ∙ ap (λ (x : Bytes). take (4 * i) bs ++ x) (append-nil _ ∙ e)
    ∙ sym (take-add (4 * i) 4 bs) ∙ (let k : 4 * i + 4 ≡ 4 * (i + 1) = omega arith in ap (λ n. take n bs) k)

pub entry_read : (b : Bytes) (e : Entry) → Some e ≡ entry_in b → (is_entry b ≡ true) × (e ≡ entry_of b)
entry_read b e h = elim (cases_Bool (is_entry b)) [
  | inl t ↦ let s : Some e ≡ Some (entry_of b) = h ∙ cond-true (is_entry b) _ _ t in (t, cc)
  | inr t ↦
      let s : Some e ≡ None = h ∙ cond-false (is_entry b) _ _ t in
      let z : ◌≡◌ {A = ℕ} 0 1 = cc in absurd (omega arith)
]

pub entry_none : (b : Bytes) → None ≡ entry_in b → is_entry b ≡ false
entry_none b h = elim (cases_Bool (is_entry b)) [
  | inl t ↦
      let s : None ≡ Some (entry_of b) = h ∙ cond-true (is_entry b) _ _ t in
      let z : ◌≡◌ {A = ℕ} 0 1 = cc in absurd (omega arith)
  | inr t ↦ t
]

pub bytes_length : (es : List Entry) → length (entries_bytes es) ≡ 4 * length es
bytes_length [] = refl
bytes_length (e ∷ es) = let h = bytes_length es in omega arith

-- the bytes of one entry among all that are cut in fours
pub chunk_is : (n : ℕ) (bs d : Bytes) (i : ℕ) → i < n → get_or (first_chunks 4 n bs) i d ≡ entry_part i bs
chunk_is zero bs d i h = absurd (omega arith)
chunk_is (suc n) bs d zero h = refl
chunk_is (suc n) bs d (suc i) h =
    chunk_is n (drop 4 bs) d i (omega arith)
    ∙ ap (take 4) (drop-drop (4 * i) 4 bs ∙ (let e : 4 + 4 * i ≡ 4 * suc i = omega arith in ap (λ k. drop k bs) e))
