-- A reel file: its packets, then a tail, which is the entries of the sheet and a trailer. Numbers are big-endian.
use Rattle.std.specs.Prelude.{ℕ, zero, suc, ◌+◌, ◌-◌, ◌*◌, ◌/◌, ◌%◌, Bool, true, not, ◌&&◌, ◌||◌, List, [], ◌∷◌, ◌++◌, length, take, drop, Result, ◌==◌, nat_le, nat_lt}
use Rattle.std.specs.Int.Digits.{number_from_digits}
use Rattle.std.specs.Str.{bytes_eq}
use Rattle.model.specs.declared.entry.Entry.{Entry}
use Rattle.model.specs.declared.entry.Kind.{Kind}
use Rattle.model.specs.declared.entry.Kind.TheVariants.{Pes, Sections, Clock}
use Rattle.model.specs.Entries.{kind_number, lawful}
use Rattle.model.specs.Packet.{Bytes, byte}
use Rattle.model.specs.Sheets.{SheetText, bad_timing}
use Rattle.model.specs.Tests.{first_broken, unless}

-- what a file says: its sheet and how many packets it holds
pub record FileText : Type 0 where
  pub sheet : SheetText
  pub count : ℕ

-- Writing.

-- n bytes that write a number
abbrev pub written : ℕ → ℕ → Bytes
written zero v = []
written (suc n) v = written n (v / 256) ++ (v % 256 ∷ [])

-- the closing mark
abbrev pub mark : Bytes
mark = 0x52 ∷ 0x45 ∷ 0x45 ∷ 0x4C ∷ []

abbrev pub entry_bytes : Entry → Bytes
entry_bytes e = written 2 e.pid ++ (kind_number e.kind ∷ 0 ∷ [])

abbrev pub entries_bytes : List Entry → Bytes
entries_bytes [] = []
entries_bytes (e ∷ es) = entry_bytes e ++ entries_bytes es

-- how far the first entry stands before the file's end
abbrev pub tail_length : ℕ → ℕ
tail_length entries = 24 + 4 * entries

abbrev pub trailer_bytes : ℕ → ℕ → ℕ → ℕ → Bytes
trailer_bytes rate round count distance = written 4 rate ++ (written 8 round ++ (written 4 count ++ (written 4 distance ++ mark)))

abbrev pub tail : FileText → Bytes
tail t = entries_bytes t.sheet.entries ++ trailer_bytes t.sheet.rate t.sheet.round t.count (tail_length (length t.sheet.entries))

-- refusal 3: no packet, or too many
abbrev pub bad_number : ℕ → Bool
bad_number count = not (nat_le 1 count && nat_le count 1000000000)

-- what writing a tail into a buffer of size bytes answers: how many bytes were written
abbrev pub tail_written : FileText → ℕ → Result ℕ ℕ
tail_written t size =
    let n = tail_length (length t.sheet.entries) in
    unless (first_broken ((3, bad_number t.count) ∷ (7, nat_lt size n) ∷ [])) n

-- Reading.

-- the last n bytes of a file
abbrev pub last : ℕ → Bytes → Bytes
last n f = drop (length f - n) f

-- the fields of a trailer
abbrev pub rate_in : Bytes → ℕ
rate_in t = number_from_digits 256 (take 4 t)

abbrev pub round_in : Bytes → ℕ
round_in t = number_from_digits 256 (take 8 (drop 4 t))

abbrev pub count_in : Bytes → ℕ
count_in t = number_from_digits 256 (take 4 (drop 12 t))

abbrev pub distance_in : Bytes → ℕ
distance_in t = number_from_digits 256 (take 4 (drop 16 t))

-- refusal 1: no room for a trailer, or another mark
abbrev pub no_trailer : Bytes → Bool
no_trailer f = nat_lt (length f) 24 || not (bytes_eq mark (last 4 f))

-- refusal 2: the distance is not that of 0 to 16 entries, or exceeds the file
abbrev pub bad_distance : ℕ → ℕ → Bool
bad_distance size distance = not (nat_le 24 distance && ((distance - 24) % 4 == 0 && nat_le ((distance - 24) / 4) 16)) || nat_lt size distance

-- refusal 3: what stands before the tail is not exactly that many packets, or the number is wrong
abbrev pub bad_count : ℕ → ℕ → Bool
bad_count size count = not (size == 188 * count) || bad_number count

-- the kind of a number
abbrev pub kind_at : ℕ → Kind
kind_at zero = Pes
kind_at (suc zero) = Sections
kind_at (suc (suc n)) = Clock

-- an entry of four bytes, and whether these have a kind and end with 0
abbrev pub entry_of : Bytes → Entry
entry_of b = record { pid = number_from_digits 256 (take 2 b); kind = kind_at (byte b 2) }

abbrev pub is_entry : Bytes → Bool
is_entry b = nat_le (byte b 2) 2 && byte b 3 == 0

-- the four bytes of entry i
abbrev pub entry_part : ℕ → Bytes → Bytes
entry_part i bs = take 4 (drop (4 * i) bs)

-- the first n entries, and whether all of them are entries
abbrev pub entries_in : ℕ → Bytes → List Entry
entries_in zero bs = []
entries_in (suc n) bs = entries_in n bs ++ (entry_of (entry_part n bs) ∷ [])

abbrev pub are_entries : ℕ → Bytes → Bool
are_entries zero bs = true
are_entries (suc n) bs = are_entries n bs && is_entry (entry_part n bs)

-- what reading a file answers
abbrev pub opened : Bytes → Result FileText ℕ
opened f =
    let t = last 24 f in
    let d = distance_in t in
    let n = (d - 24) / 4 in
    let bs = take (4 * n) (last d f) in
    unless
    (first_broken (
    (1, no_trailer f)
    ∷ (2, bad_distance (length f) d)
    ∷ (3, bad_count (length f - d) (count_in t))
    ∷ (4, not (are_entries n bs && lawful (entries_in n bs)))
    ∷ (5, bad_timing (rate_in t) (round_in t))
    ∷ []))
    (record { sheet = record { entries = entries_in n bs; rate = rate_in t; round = round_in t }; count = count_in t })
