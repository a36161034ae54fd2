use Rattle.std.proofs.Common.{◌≡◌, length}
use Rattle.file.specs.Entries.{Holds}
use Rattle.file.proofs.entries.read_entries.Given as goal

-- the entries so far stand in the table, and write their bytes
abbrev pub invariant-loop-i : goal.invariant-loop-i
invariant-loop-i l = record { held : Holds l.i l.bytes l.table; long : length l.table ≡ 16 }
