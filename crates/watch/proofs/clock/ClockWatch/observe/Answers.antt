use Rattle.std.proofs.Common.{◌≡◌, ℕ, ◌<◌, false, length, get_or, set, Some, None, ap, ◌∙◌, arith, rules}
use Rattle.model.specs.Packet.{pid}
use Rattle.model.specs.Rules.{numbered}
use Rattle.model.specs.Entries.{row_of}
use Rattle.model.specs.Clock.{carries_pcr, judged}
use Rattle.model.specs.Sheets.{entries_of, rate_of}
use Rattle.model.specs.Runs.{Placed}
use Rattle.watch.specs.declared.mark.Mark.{Mark}
use Rattle.watch.specs.Marks.{placed_of, recalled, clock_from}
use Rattle.watch.proofs.Booleans.{some_row}
use Rattle.watch.proofs.Rows.{no_row}
use Rattle.watch.proofs.Recalling.{recalls_here, recalls_more, recalls_same, recalls_nothing, carries_listed}
use Rattle.watch.proofs.clock.ClockWatch.observe.Goals as goal

pub returns : goal.returns
returns c =
    let p = c.args.packet.now in
    let s = c.args.self.now.sheet in
    let es = entries_of s in
    let marks = c.args.self.now.marks in
    let i = c.in_ok-row.row in
    let y : Placed = record { place = c.args.place; bytes = p } in
    let v : ℕ → Mark = λ n. record { place = c.args.place; value = n } in
    let found = some_row (carries_pcr es (pid p) y) (row_of es (pid p)) i (c.in_ok-row.ensures.row c.args.place) in
    let l : i < length marks = let a = c.args.self.now.long in let b = c.in_ok-row.ensures.fits in omega arith in
    record {
      answers = c.judge.ensures.found
          ∙ ap (λ n. judged n (recalled (get_or marks i None)) (placed_of (v c.pcr-value.result))) c.rate.ensures
          ∙ ap (λ n. judged (rate_of s) (recalled (get_or marks i None)) (placed_of (v n))) c.pcr-value.ensures.value
          ∙ recalls_here es (rate_of s) marks y i found.0 found.1;
      learns = λ xs x. ap (λ m. clock_from es (rate_of s) (set marks i m) xs x) c.judge.ensures.keeps
          ∙ ap (λ n. clock_from es (rate_of s) (set marks i (Some (v n))) xs x) c.pcr-value.ensures.value
          ∙ recalls_more es (rate_of s) marks y i l found.0 found.1 xs x;
    }

pub returns-in_err-row : goal.returns-in_err-row
returns-in_err-row c =
    let p = c.args.packet.now in
    let s = c.args.self.now.sheet in
    let es = entries_of s in
    let y : Placed = record { place = c.args.place; bytes = p } in
    let none : carries_pcr es (pid p) y ≡ false = no_row es (pid p) (carries_pcr es (pid p) y) (carries_listed es (pid p) y) (c.in_err-row.ensures.row c.args.place) in
    record {
      answers = (let e : c.from_residual.result ≡ None = search rules in ap numbered e) ∙ recalls_nothing es (rate_of s) c.args.self.now.marks y none;
      learns = recalls_same es (rate_of s) c.args.self.now.marks y none;
    }
