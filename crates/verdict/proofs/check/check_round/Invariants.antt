use Rattle.std.proofs.Common.{◌≡◌, ℕ, ◌+◌, ◌*◌, ◌<◌, ◌≤◌, None}
use Rattle.model.specs.Watches.{Finding, breach}
use Rattle.model.specs.Sheets.{entries_of, round_of}
use Rattle.verdict.specs.Ledgers.{State, Tallied}
use Rattle.verdict.proofs.check.check_round.Given as goal

abbrev pub invariant-loop-i : goal.invariant-loop-i
invariant-loop-i g l =
    (l.ledger.sheet ≡ l.initial.ledger.sheet)
    × (g.R.Reel.packets l.reel ≡ g.R.Reel.packets l.initial.reel)
    × ((f : Finding) → ((1 ≤ l.round) → Tallied (entries_of l.initial.ledger.sheet) (g.R.Reel.packets l.initial.reel) l.tallies) →
    State (entries_of l.initial.ledger.sheet) (round_of l.initial.ledger.sheet) f (g.R.Reel.packets l.initial.reel) (l.round * l.n) l.initial.ledger.rows (g.W.Watch.finding l.initial.watch) →
    State (entries_of l.initial.ledger.sheet) (round_of l.initial.ledger.sheet) f (g.R.Reel.packets l.initial.reel) (l.round * l.n + l.i) l.ledger.rows (g.W.Watch.finding l.watch)
    × ((k : ℕ) → k < l.i → breach (entries_of l.initial.ledger.sheet) (round_of l.initial.ledger.sheet) f (g.R.Reel.packets l.initial.reel) (l.round * l.n + k) ≡ None))
