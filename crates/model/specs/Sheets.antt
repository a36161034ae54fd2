-- What a sheet says, and which sheets there are.
use Rattle.std.specs.Prelude.{ℕ, ◌%◌, Bool, not, ◌&&◌, ◌||◌, List, [], ◌∷◌, length, take, Some, None, Option, Result, ◌==◌, nat_le}
use Rattle.model.specs.declared.entry.Entry.{Entry}
use Rattle.model.specs.declared.entry.Kind.{Kind}
use Rattle.model.specs.declared.sheet.Sheet.{Sheet}
use Rattle.model.specs.declared.sheet.reading.Listed.{Listed}
use Rattle.model.specs.Entries.{lawful}
use Rattle.model.specs.Tests.{first_broken, unless}

-- what is written on a sheet: entries, bytes for each second, ticks of 27 MHz for each round
pub record SheetText : Type 0 where
  pub entries : List Entry
  pub rate : ℕ
  pub round : ℕ

abbrev pub entries_of : Sheet → List Entry
entries_of s = take s.len s.table

abbrev pub rate_of : Sheet → ℕ
rate_of s = s.rate

abbrev pub round_of : Sheet → ℕ
round_of s = s.round

abbrev pub text_of : Sheet → SheetText
text_of s = record { entries = entries_of s; rate = rate_of s; round = round_of s }

-- refusal 4: a PID that is wrong or stands twice, or a seventeenth entry
abbrev pub bad_entries : List Entry → Bool
bad_entries es = not (nat_le (length es) 16 && lawful es)

-- refusal 5: a rate outside 1 to 10,000,000, or a round that is no multiple of 300 up to 300 × 2^33 − 300
abbrev pub bad_timing : ℕ → ℕ → Bool
bad_timing r T = not (nat_le 1 r && nat_le r 10000000) || not (T % 300 == 0 && nat_le T 2576980377300)

-- what the making of a sheet answers
abbrev pub made : List Entry → ℕ → ℕ → Result SheetText ℕ
made es r T = unless (first_broken ((4, bad_entries es) ∷ (5, bad_timing r T) ∷ [])) (record { entries = es; rate = r; round = T })

-- the two parts of what a search for a PID answers
abbrev pub place_in : Option Listed → Option ℕ
place_in None = None
place_in (Some l) = Some l.place

abbrev pub kind_in : Option Listed → Option Kind
kind_in None = None
kind_in (Some l) = Some l.kind
