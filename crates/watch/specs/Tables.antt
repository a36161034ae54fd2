-- Tables with a row for each entry of a sheet.
use Rattle.std.specs.Prelude.{ℕ, Bool, false, List, Some, None, Option, ◌==◌, slice_index_or}
use Rattle.model.specs.declared.entry.Kind.{Kind}
use Rattle.model.specs.Entries.{kind_number}

-- what stands in a row, or d where there is none
abbrev pub at : {A : Type 0} → List A → A → Option ℕ → A
at rows d None = d
at rows d (Some i) = slice_index_or rows i d

-- whether what the entries say of a PID is this kind
abbrev pub is_of : Kind → Option Kind → Bool
is_of k None = false
is_of k (Some j) = kind_number k == kind_number j
