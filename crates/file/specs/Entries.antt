-- An entry as it is read.
use Rattle.std.specs.Prelude.{◌≡◌, ℕ, ◌*◌, true, false, cond, List, take, Some, None, Option}
use Rattle.model.specs.declared.entry.Entry.{Entry}
use Rattle.model.specs.Packet.{Bytes}
use Rattle.model.specs.File.{entry_of, is_entry, entry_bytes, entries_in, are_entries, entries_bytes}

abbrev pub entry_in : Bytes → Option Entry
entry_in b = cond (is_entry b) (Some (entry_of b)) None

-- written again, an entry that was read is the same bytes
abbrev pub Rewritten : Bytes → Option Entry → Type 0
Rewritten b None = Unit {0}
Rewritten b (Some e) = entry_bytes e ≡ b

-- a table begins with the n entries of bs, and these write the same bytes again
pub record Holds (n : ℕ) (bs : Bytes) (table : List Entry) : Type 0 where
  pub all : are_entries n bs ≡ true
  pub front : take n table ≡ entries_in n bs
  pub again : entries_bytes (entries_in n bs) ≡ take (4 * n) bs

-- a table is read of n entries, or nothing where one of them is none
abbrev pub Tabled : ℕ → Bytes → Option (List Entry) → Type 0
Tabled n bs None = are_entries n bs ≡ false
Tabled n bs (Some table) = Holds n bs table
