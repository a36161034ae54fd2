-- Restamping by a table of tallies.
use Rattle.std.specs.Prelude.{ℕ, ◌*◌, List, Some, None, Option, slice_index}
use Rattle.model.specs.declared.entry.Entry.{Entry}
use Rattle.model.specs.Entries.{row_of}
use Rattle.model.specs.Packet.{Bytes, pid}
use Rattle.model.specs.Moves.{moved}

abbrev pub at_row : List ℕ → Option ℕ → ℕ
at_row ts None = 0
at_row ts (Some i) = slice_index ts i

-- packet p of round j, its clock moved by so many ticks, by a table of tallies that follows the entries
abbrev pub restamped_by : List Entry → ℕ → List ℕ → ℕ → Bytes → Bytes
restamped_by es ticks ts j p = moved es (j * at_row ts (row_of es (pid p))) ticks p

-- packet p of round j, whose rounds are T ticks long
abbrev pub round_stamped : List Entry → ℕ → List ℕ → ℕ → Bytes → Bytes
round_stamped es T ts j p = restamped_by es (j * T) ts j p
