-- Going through the entries of a sheet, one after the other.
use Rattle.std.proofs.Common.{ℕ, ◌+◌, Some, None, Option}
use Rattle.model.specs.declared.entry.Entry.{Entry}
use Rattle.model.specs.declared.entry.Kind.TheVariants.{Pes}

-- what a read past the end of a table would give
abbrev pub no_entry : Entry
no_entry = record { pid = 0; kind = Pes }

-- a place counted from i
abbrev pub plus : ℕ → Option ℕ → Option ℕ
plus i None = None
plus i (Some k) = Some (i + k)
