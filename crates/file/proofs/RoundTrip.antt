-- Packets followed by a tail are read back as what the tail was written for.
use Rattle.std.proofs.Common.{◌≡◌, ℕ, zero, suc, ◌+◌, ◌-◌, ◌*◌, ◌/◌, ◌%◌, ◌^◌, ◌<◌, ◌≤◌, true, false, not, ◌&&◌, eqb, ltb, leb, List, [], ◌∷◌, ◌++◌, length, get_or, take, drop, Ok, sym, refl, ap, ◌∙◌, append_assoc, lt_of_le_of_lt, arith, lit<, length-append, drop-cons, take-suc, take_at, drop_at}
use lib.Seq.{drop-nil, take-length, drop-append-add}
use Rattle.std.specs.Str.{bytes_eq as sameBytes}
use Rattle.std.proofs.lemmas.Slice.Eq.{bytes_eq-Decides}
use Rattle.std.proofs.lemmas.Bool.{and_from, and_parts, or_from, leb-true, le-leb, le-ltb, eq-eqb, not_from_true}
use Rattle.model.specs.declared.entry.Entry.{Entry}
use Rattle.model.specs.declared.entry.Kind.{Kind}
use Rattle.model.specs.declared.entry.Kind.TheVariants.{Pes, Sections, Clock}
use Rattle.model.specs.Entries.{kind_number, lawful, kind_of, listed}
use Rattle.model.specs.Packet.{Bytes}
use Rattle.model.specs.Sheets.{bad_timing}
use Rattle.model.specs.Tests.{first_broken, unless}
use Rattle.model.specs.File.{FileText, mark, entry_bytes, entries_bytes, tail_length, trailer_bytes, tail, last, rate_in, round_in, count_in, distance_in, no_trailer, bad_distance, bad_count, kind_at, entry_of, is_entry, entry_part, entries_in, are_entries, opened}
use Rattle.model.proofs.Searches.{no_entry}
use Rattle.file.specs.Reading.{sheet_in}
use Rattle.file.proofs.Digits.{number_written}
use Rattle.file.proofs.EntryBytes.{bytes_length}
use Rattle.file.proofs.Opening.{opened_sheet, counted, distance}
use Rattle.file.proofs.Parts.{last_last}

-- Entries.

kind_again : (k : Kind) → kind_at (kind_number k) ≡ k
kind_again Pes = refl
kind_again Sections = refl
kind_again Clock = refl

kind_small : (k : Kind) → leb (kind_number k) 2 ≡ true
kind_small Pes = refl
kind_small Sections = refl
kind_small Clock = refl

entry_again : (e : Entry) → e.pid ≤ 8190 → entry_of (entry_bytes e) ≡ e
entry_again e h =
    ap (λ p. record { pid = p; kind = kind_at (kind_number e.kind) }) (number_written 2 e.pid (lt_of_le_of_lt h (lit< tt)))
    ∙ ap (λ k. record { pid = e.pid; kind = k }) (kind_again e.kind)

entry_is : (e : Entry) → is_entry (entry_bytes e) ≡ true
entry_is e = ap (λ b. b && eqb 0 0) (kind_small e.kind)

-- the bytes from entry i on
from_entry : (es : List Entry) (i : ℕ) → drop (4 * i) (entries_bytes es) ≡ entries_bytes (drop i es)
from_entry es zero = refl
from_entry [] (suc i) = drop-nil (4 * suc i)
from_entry (e ∷ es) (suc i) =
    (let k : 4 * suc i ≡ 4 + 4 * i = omega arith in ap (λ n. drop n (entries_bytes (e ∷ es))) k)
    ∙ drop-append-add (entry_bytes e) (entries_bytes es) (4 * i) ∙ from_entry es i

part_is : (es : List Entry) (i : ℕ) → i < length es → entry_part i (entries_bytes es) ≡ entry_bytes (get_or es i no_entry)
part_is es i h = ap (take 4) (from_entry es i) ∙ ap (λ (x : List Entry). take 4 (entries_bytes x)) (drop-cons es i no_entry h)

lawful_pid : (es : List Entry) → lawful es ≡ true → (i : ℕ) → i < length es → (get_or es i no_entry).pid ≤ 8190
lawful_pid [] h i l = absurd (omega arith)
lawful_pid (e ∷ es) h zero l = leb-true e.pid 8190 (and_parts (leb e.pid 8190) _ h).0
lawful_pid (e ∷ es) h (suc i) l =
    lawful_pid es (and_parts (not (listed (kind_of es e.pid))) _ (and_parts (leb e.pid 8190) _ h).1).1 i (omega arith)

module _ (es : List Entry) (good : lawful es ≡ true) where
  entries_front : (n : ℕ) → n ≤ length es → entries_in n (entries_bytes es) ≡ take n es
  entries_front zero h = refl
  entries_front (suc n) h =
      ap (λ (x : List Entry). x ++ (entry_of (entry_part n (entries_bytes es)) ∷ [])) (entries_front n (omega arith))
      ∙ ap (λ (x : Bytes). take n es ++ (entry_of x ∷ [])) (part_is es n (omega arith))
      ∙ ap (λ x. take n es ++ (x ∷ [])) (entry_again (get_or es n no_entry) (lawful_pid es good n (omega arith)))
      ∙ sym (take-suc es n no_entry (omega arith))

  are_front : (n : ℕ) → n ≤ length es → are_entries n (entries_bytes es) ≡ true
  are_front zero h = refl
  are_front (suc n) h =
      and_from _ _ (are_front n (omega arith)) (ap is_entry (part_is es n (omega arith)) ∙ entry_is (get_or es n no_entry))

-- A whole file.

module _ (packets : Bytes) (t : FileText)
    (long : length packets ≡ 188 * t.count) (some : 1 ≤ t.count) (few : t.count ≤ 1000000000)
    (short : length t.sheet.entries ≤ 16) (good : lawful t.sheet.entries ≡ true)
    (timing : bad_timing t.sheet.rate t.sheet.round ≡ false) (r32 : t.sheet.rate < 2 ^ 32) (r64 : t.sheet.round < 2 ^ 64) where
  es : List Entry
  es = t.sheet.entries

  L : ℕ
  L = length es

  E : Bytes
  E = entries_bytes es

  R : Bytes
  R = trailer_bytes t.sheet.rate t.sheet.round t.count (tail_length L)

  f : Bytes
  f = packets ++ (E ++ R)

  e_length : length E ≡ 4 * L
  unfolding es L E
  e_length = bytes_length es

  f_length : length f ≡ 188 * t.count + (4 * L + 24)
  unfolding f R
  f_length = length-append packets (E ++ R) ∙ ap (λ n. n + length (E ++ R)) long ∙ ap (λ n. 188 * t.count + n) (length-append E R ∙ ap (λ n. n + 24) e_length)

  tail_last : last (24 + 4 * L) f ≡ E ++ R
  unfolding f
  tail_last = drop_at packets (E ++ R) (length f - (24 + 4 * L)) (let h = f_length in omega (arith, long))

  trailer_last : last 24 f ≡ R
  unfolding f R
  trailer_last =
      ap (λ (x : Bytes). drop (length f - 24) x) (sym (append_assoc packets E R))
      ∙ drop_at (packets ++ E) R (length f - 24) (length-append packets E ∙ (let h = f_length in let k = e_length in omega (arith, long)))

  mark_last : last 4 f ≡ mark
  unfolding R
  mark_last = sym (last_last f 24 4 (omega arith) (let h = f_length in omega arith)) ∙ ap (drop 20) trailer_last

  l_short : L ≤ 16
  unfolding L es
  l_short = short

  d_is : distance f ≡ 24 + 4 * L
  unfolding R
  d_is = ap distance_in trailer_last ∙ (let h = l_short in number_written 4 (24 + 4 * L) (omega arith))

  n_is : (distance f - 24) / 4 ≡ L
  n_is = ap (λ d. (d - 24) / 4) d_is ∙ omega arith

  bytes_is : take (4 * ((distance f - 24) / 4)) (last (distance f) f) ≡ E
  bytes_is =
      ap (λ n. take (4 * n) (last (distance f) f)) n_is
      ∙ ap (λ d. take (4 * L) (last d f)) d_is
      ∙ ap (take (4 * L)) tail_last ∙ take_at E R (4 * L) e_length

  no_trailer_lem : no_trailer f ≡ false
  no_trailer_lem =
      or_from (ltb (length f) 24) (not (sameBytes mark (last 4 f))) (le-ltb (length f) 24 (let h = f_length in omega arith))
      (not_from_true (sameBytes mark (last 4 f)) ((bytes_eq-Decides mark (last 4 f)).1 (sym mark_last)))

  no_distance : bad_distance (length f) (distance f) ≡ false
  no_distance =
      let h = f_length in
      let k = l_short in
      let e : 24 + 4 * L ≤ length f = omega arith in
      ap (bad_distance (length f)) d_is
      ∙ or_from _ (ltb (length f) (24 + 4 * L))
      (not_from_true _ (and_from _ _ (le-leb 24 (24 + 4 * L) (omega arith)) (and_from _ _ (eq-eqb ((24 + 4 * L - 24) % 4) 0 (omega arith)) (le-leb ((24 + 4 * L - 24) / 4) 16 (omega arith)))))
      (le-ltb _ _ e)

  no_count : bad_count (length f - distance f) (count_in (last 24 f)) ≡ false
  unfolding R
  no_count =
      let h = f_length in
      let c : count_in (last 24 f) ≡ t.count = ap count_in trailer_last ∙ number_written 4 t.count (omega arith) in
      let e : length f - (24 + 4 * L) ≡ 188 * t.count = omega arith in
      ap (λ d. bad_count (length f - d) (count_in (last 24 f))) d_is
      ∙ ap (bad_count (length f - (24 + 4 * L))) c
      ∙ or_from _ _ (not_from_true _ (eq-eqb _ _ e)) (not_from_true _ (and_from _ _ (le-leb 1 t.count some) (le-leb t.count 1000000000 few)))

  fields : counted (count_in (last 24 f)) (sheet_in ((distance f - 24) / 4) (take (4 * ((distance f - 24) / 4)) (last (distance f) f)) (rate_in (last 24 f)) (round_in (last 24 f)))
      ≡ counted t.count (sheet_in L E t.sheet.rate t.sheet.round)
  unfolding R
  fields =
      ap (λ (x : Bytes). counted (count_in x) (sheet_in ((distance f - 24) / 4) (take (4 * ((distance f - 24) / 4)) (last (distance f) f)) (rate_in x) (round_in x))) trailer_last
      ∙ ap (λ n. counted n (sheet_in ((distance f - 24) / 4) (take (4 * ((distance f - 24) / 4)) (last (distance f) f)) (rate_in R) (round_in R))) (number_written 4 t.count (omega arith))
      ∙ ap (λ n. counted t.count (sheet_in ((distance f - 24) / 4) (take (4 * ((distance f - 24) / 4)) (last (distance f) f)) n (round_in R))) (number_written 4 t.sheet.rate r32)
      ∙ ap (λ n. counted t.count (sheet_in ((distance f - 24) / 4) (take (4 * ((distance f - 24) / 4)) (last (distance f) f)) t.sheet.rate n)) (number_written 8 t.sheet.round r64)
      ∙ ap (λ (x : Bytes). counted t.count (sheet_in ((distance f - 24) / 4) x t.sheet.rate t.sheet.round)) bytes_is
      ∙ ap (λ n. counted t.count (sheet_in n E t.sheet.rate t.sheet.round)) n_is

  sheet_is : sheet_in L E t.sheet.rate t.sheet.round ≡ Ok t.sheet
  unfolding es L E
  sheet_is =
      let all : entries_in L E ≡ es = entries_front es good L (omega arith) ∙ take-length es in
      ap (λ b. unless (first_broken ((4, not (b && lawful (entries_in L E))) ∷ (5, bad_timing t.sheet.rate t.sheet.round) ∷ [])) (record { entries = entries_in L E; rate = t.sheet.rate; round = t.sheet.round })) (are_front es good L (omega arith))
      ∙ ap (λ (x : List Entry). unless (first_broken ((4, not (lawful x)) ∷ (5, bad_timing t.sheet.rate t.sheet.round) ∷ [])) (record { entries = x; rate = t.sheet.rate; round = t.sheet.round })) all
      ∙ ap (λ b. unless (first_broken ((4, not b) ∷ (5, bad_timing t.sheet.rate t.sheet.round) ∷ [])) t.sheet) good
      ∙ ap (λ b. unless (first_broken ((5, b) ∷ [])) t.sheet) timing

  pub read_back : opened (packets ++ tail t) ≡ Ok t
  unfolding es L E R f
  read_back = opened_sheet f no_trailer_lem no_distance no_count ∙ fields ∙ ap (counted t.count) sheet_is
