use Rattle.std.proofs.Common.{ℕ, ◌<◌, false, List, length, get_or, None, sym, ap, ◌∙◌, arith}
use Rattle.model.specs.declared.entry.Entry.{Entry}
use Rattle.model.specs.Sheets.{entries_of}
use Rattle.model.proofs.Searches.{no_entry}
use Rattle.verdict.specs.declared.ledger.Row.{Row}
use Rattle.verdict.specs.Ledgers.{lacks}
use Rattle.verdict.proofs.Clocks.{one_lacks, none_lacks}
use Rattle.verdict.proofs.ledger.Ledger.all_clocked.Goals as goal

abbrev blank : Row
blank = record { last = None; copied = false; tally = 0; clocked = false }

pub returns-then-lacks_clock : goal.returns-then-lacks_clock
returns-then-lacks_clock c = λ before k.
    let s = c.args.self.now in
    let i : ℕ = c.loop-i.i in
    let e = c.entries-entry-items.ensures.list in
    let l : i < length (entries_of s.sheet) = (let u = ap length e in omega arith) in
    one_lacks (entries_of s.sheet) before s.rows k i no_entry blank l
    (ap (λ (x : List Entry). lacks (get_or x i no_entry) (get_or s.rows i blank)) (sym e) ∙ sym c.if-lacks_clock.ensures)

pub returns : goal.returns
returns c = λ before k.
    let s = c.args.self.now in
    let u = ap length c.entries-entry-items.ensures.list in
    none_lacks (entries_of s.sheet) before s.rows k blank (λ i d row l. c.loop-i.invariant i d row (omega arith))
