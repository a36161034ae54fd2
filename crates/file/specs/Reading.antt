-- What reading a file answers, as the program holds it.
use Rattle.std.specs.Prelude.{◌≡◌, ℕ, ◌*◌, not, ◌&&◌, [], ◌∷◌, take, drop, Ok, Err, Result}
use Rattle.model.specs.declared.refusal.Refusal.{Refusal}
use Rattle.model.specs.declared.sheet.Sheet.{Sheet}
use Rattle.model.specs.Entries.{lawful}
use Rattle.model.specs.Packet.{Bytes}
use Rattle.model.specs.Sheets.{SheetText, text_of, entries_of, bad_timing}
use Rattle.model.specs.Tests.{first_broken, unless}
use Rattle.model.specs.File.{FileText, entries_in, are_entries, entries_bytes, tail}
use Rattle.file.specs.declared.contents.Contents.{Contents}

abbrev pub contents_of : Contents → FileText
contents_of c = record { sheet = text_of c.sheet; count = c.count }

-- the sheet whose n entries stand in bs
abbrev pub sheet_in : ℕ → Bytes → ℕ → ℕ → Result SheetText ℕ
sheet_in n bs rate round =
    unless (first_broken ((4, not (are_entries n bs && lawful (entries_in n bs))) ∷ (5, bad_timing rate round) ∷ []))
    (record { entries = entries_in n bs; rate = rate; round = round })

-- the entries of a sheet that was read write the same bytes again
abbrev pub SameEntries : ℕ → Bytes → Result Sheet Refusal → Type 0
SameEntries n bs (Ok s) = entries_bytes (entries_of s) ≡ take (4 * n) bs
SameEntries n bs (Err e) = Unit {0}

-- of a file that was read, the tail written again is the same bytes
abbrev pub SameTail : Bytes → Result Contents Refusal → Type 0
SameTail f (Ok c) = tail (contents_of c) ≡ drop (188 * c.count) f
SameTail f (Err e) = Unit {0}
