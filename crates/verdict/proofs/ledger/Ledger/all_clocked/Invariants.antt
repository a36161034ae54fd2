use Rattle.std.proofs.Common.{◌≡◌, ℕ, ◌<◌, false, get_or}
use Rattle.model.specs.declared.entry.Entry.{Entry}
use Rattle.model.specs.Sheets.{entries_of}
use Rattle.verdict.specs.declared.ledger.Row.{Row}
use Rattle.verdict.specs.Ledgers.{lacks}
use Rattle.verdict.proofs.ledger.Ledger.all_clocked.Given as goal

abbrev pub invariant-loop-i : goal.invariant-loop-i
invariant-loop-i l = (k : ℕ) (e : Entry) (row : Row) → k < l.i → lacks (get_or (entries_of l.self.sheet) k e) (get_or l.self.rows k row) ≡ false
