use Rattle.std.proofs.Common.{◌≡◌, ℕ, ◌*◌, true, length, Ok, Err, sym, ap, ◌∙◌}
use Rattle.std.proofs.lemmas.Bool.{cond-true}
use Rattle.model.specs.Runs.{Packets, run}
use Rattle.model.specs.Sheets.{entries_of, round_of}
use Rattle.verdict.specs.Fitting.{fit_rounds}
use Rattle.verdict.specs.RoundReels.{first_of, rounds_by}
use Rattle.verdict.specs.RoundLaws.{rounds_run}
use Rattle.verdict.proofs.rounds.Rounds.new.Goals as goal

pub returns : goal.returns
returns g c =
    let s = c.args.sheet in
    let n : ℕ = c.args.n in
    let ps : Packets = g.R.Reel.packets c.args.below in
    let ok : fit_rounds n (length ps) ≡ true = ap (fit_rounds n) (sym c.count-count.ensures) ∙ sym c.if-not-fit.ensures in
    ap (λ (x : Packets). Ok (rounds_by (entries_of s) (round_of s) c.tallies-tallies.result n x)) c.tallies-tallies.ensures.keeps
    ∙ ap Ok (rounds_run (entries_of s) (round_of s) c.tallies-tallies.result n ps ok c.tallies-tallies.ensures.counts)
    ∙ sym (cond-true (fit_rounds n (length ps)) (Ok (first_of (run (entries_of s) (round_of s) ps) (n * length ps))) (Err (6, c.args.below)) ok)
