use Rattle.std.proofs.Common.{◌≡◌, ◌<◌, false, map, length, None, ap, ◌∙◌, arith, rules}
use Rattle.std.proofs.lemmas.List.{length-map}
use Rattle.model.specs.Packet.{pid}
use Rattle.model.specs.Rules.{numbered}
use Rattle.model.specs.Entries.{row_of}
use Rattle.model.specs.Runs.{Placed}
use Rattle.model.specs.Sections.{carries}
use Rattle.model.specs.Sheets.{entries_of}
use Rattle.watch.specs.Phases.{phase_of, sections_from}
use Rattle.watch.proofs.Booleans.{some_row}
use Rattle.watch.proofs.Rows.{no_row}
use Rattle.watch.proofs.Following.{follows_here, follows_more, follows_same, follows_nothing, carries_listed}
use Rattle.watch.proofs.sections.SectionsWatch.observe.Goals as goal

pub returns : goal.returns
returns c =
    let p = c.args.packet.now in
    let es = entries_of c.args.self.now.sheet in
    let phases = map phase_of c.args.self.now.rows in
    let i = c.in_ok-row.row in
    let y : Placed = record { place = c.args.place; bytes = p } in
    let found = some_row (carries es (pid p) y) (row_of es (pid p)) i (c.in_ok-row.ensures.row c.args.place) in
    let l : i < length phases =
    let a = length-map c.args.self.now.rows phase_of in
    let b = c.args.self.now.long in
    let d = c.in_ok-row.ensures.fits in
    omega arith in
    record {
      answers = c.follow_in.ensures.answers ∙ follows_here es phases y i l found.0 found.1;
      learns = λ xs x. ap (λ v. sections_from es v xs x) c.follow_in.ensures.moves ∙ follows_more es phases y i l found.0 found.1 xs x;
    }

pub returns-in_err-row : goal.returns-in_err-row
returns-in_err-row c =
    let p = c.args.packet.now in
    let es = entries_of c.args.self.now.sheet in
    let phases = map phase_of c.args.self.now.rows in
    let y : Placed = record { place = c.args.place; bytes = p } in
    let none : carries es (pid p) y ≡ false = no_row es (pid p) (carries es (pid p) y) (carries_listed es (pid p) y) (c.in_err-row.ensures.row c.args.place) in
    record {
      answers = (let e : c.from_residual.result ≡ None = search rules in ap numbered e) ∙ follows_nothing es phases y none;
      learns = follows_same es phases y none;
    }
