use Rattle.std.proofs.Common.{◌≡◌, [], get_or}
use Rattle.model.specs.Runs.{before}
use Rattle.model.specs.Sheets.{entries_of}
use Rattle.verdict.specs.Ledgers.{Knows}
use Rattle.verdict.proofs.tallying.tallies.Given as goal

-- the ledger knows the packets so far
abbrev pub invariant-loop-i : goal.invariant-loop-i
invariant-loop-i g l =
    (g.R.Reel.packets l.reel ≡ g.R.Reel.packets l.initial.reel)
    × ((l.ledger.sheet ≡ l.sheet) × Knows (entries_of l.sheet) (before (λ k. get_or (g.R.Reel.packets l.initial.reel) k []) l.i) l.ledger.rows)
