-- The entries of a sheet: which PIDs there are, and what each carries.
use Rattle.std.specs.Prelude.{ℕ, ◌+◌, Bool, true, false, cond, not, ◌&&◌, List, [], ◌∷◌, Some, None, Ok, Err, Option, Result, ◌==◌, nat_le}
use Rattle.model.specs.declared.entry.Entry.{Entry}
use Rattle.model.specs.declared.entry.Kind.{Kind}
use Rattle.model.specs.declared.entry.Kind.TheVariants.{Pes, Sections, Clock}
use Rattle.model.specs.declared.entry.UnknownKind.{UnknownKind}

-- the number of each kind
abbrev pub kind_number : Kind → ℕ
kind_number Pes = 0
kind_number Sections = 1
kind_number Clock = 2

-- the kind of a number, or the number where no kind has it
abbrev pub decoded : ℕ → Result Kind UnknownKind
decoded n = cond (n == 0) (Ok Pes) (cond (n == 1) (Ok Sections) (cond (n == 2) (Ok Clock) (Err (record { number = n }))))

-- what the entries say of a PID
abbrev pub kind_of : List Entry → ℕ → Option Kind
kind_of [] q = None
kind_of (e ∷ es) q = cond (e.pid == q) (Some e.kind) (kind_of es q)

abbrev pub listed : Option Kind → Bool
listed None = false
listed (Some k) = true

abbrev pub is_clock : Option Kind → Bool
is_clock None = false
is_clock (Some Pes) = false
is_clock (Some Sections) = false
is_clock (Some Clock) = true

abbrev pub is_sections : Option Kind → Bool
is_sections None = false
is_sections (Some Pes) = false
is_sections (Some Sections) = true
is_sections (Some Clock) = false

abbrev pub is_pes : Option Kind → Bool
is_pes None = false
is_pes (Some Pes) = true
is_pes (Some Sections) = false
is_pes (Some Clock) = true

-- PIDs up to 8190, none twice
abbrev pub lawful : List Entry → Bool
lawful [] = true
lawful (e ∷ es) = nat_le e.pid 8190 && (not (listed (kind_of es e.pid)) && lawful es)

abbrev pub next : Option ℕ → Option ℕ
next None = None
next (Some i) = Some (i + 1)

-- the place of a PID among the entries
abbrev pub row_of : List Entry → ℕ → Option ℕ
row_of [] q = None
row_of (e ∷ es) q = cond (e.pid == q) (Some 0) (next (row_of es q))
