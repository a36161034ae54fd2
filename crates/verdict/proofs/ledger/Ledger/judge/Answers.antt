use Rattle.std.proofs.Common.{false, List, None, ap, ◌∙◌, rules}
use Rattle.model.specs.declared.entry.Entry.{Entry}
use Rattle.model.specs.Entries.{row_of}
use Rattle.model.specs.Sheets.{entries_of}
use Rattle.verdict.specs.declared.ledger.Row.{Row}
use Rattle.verdict.proofs.Judging.{judges_broken, judges_null, no_row_null, judges_row}
use Rattle.verdict.proofs.ledger.Ledger.judge.Goals as goal

pub returns-in-Some-clause-judges : goal.returns-in-Some-clause-judges
returns-in-Some-clause-judges c = λ before k.
    let s = c.args.self.now in
    judges_broken (entries_of s.sheet) s.sheet.entries c.args.packet.now before s.rows k c.in-Some.rule c.in-Some.ensures

pub returns-in-Some-find-clause-judges : goal.returns-in-Some-find-clause-judges
returns-in-Some-find-clause-judges c = λ before k.
    let s = c.args.self.now in
    let es : List Entry = entries_of s.sheet in
    let d : Row = record { last = None; copied = false; tally = 0; clocked = false } in
    judges_row es s.sheet.entries c.args.packet.now before s.rows k c.in_default.ensures c.in-Some-find.listed.place (c.in-Some-find.ensures.place ∙ ap (row_of es) c.pid.ensures)
    (search rules) d c.note.result _ c.note.ensures.judged c.note.ensures.noted

pub returns-in-None-clause-judges : goal.returns-in-None-clause-judges
returns-in-None-clause-judges c = λ before k.
    let s = c.args.self.now in
    let es : List Entry = entries_of s.sheet in
    let f = c.in_default.ensures in
    judges_null es s.sheet.entries c.args.packet.now before s.rows k f
    (no_row_null es s.sheet.entries c.args.packet.now before s.rows k f (c.in-None.ensures.place ∙ ap (row_of es) c.pid.ensures))
