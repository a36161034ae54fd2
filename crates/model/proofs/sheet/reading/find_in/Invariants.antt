use Rattle.std.proofs.Common.{◌≡◌, drop}
use Rattle.model.specs.Entries.{kind_of, row_of}
use Rattle.model.proofs.Searches.{plus}
use Rattle.model.proofs.sheet.reading.find_in.Given as goal

-- no entry so far is of the PID: the rest decides
abbrev pub invariant-loop-place : goal.invariant-loop-place
invariant-loop-place l =
    (row_of l.entries l.pid ≡ plus l.place (row_of (drop l.place l.entries) l.pid))
    × (kind_of l.entries l.pid ≡ kind_of (drop l.place l.entries) l.pid)
