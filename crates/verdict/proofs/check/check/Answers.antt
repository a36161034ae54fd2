use Rattle.std.proofs.Common.{◌≡◌, List, sym, ap, ◌∙◌, subst, rules}
use mathlib.Core.Path.{fun_ext}
use Rattle.model.specs.declared.entry.Entry.{Entry}
use Rattle.model.specs.Runs.{Packets}
use Rattle.model.specs.Watches.{Finding}
use Rattle.model.specs.Breaches.{verdict, Decides}
use Rattle.model.specs.Sheets.{entries_of, round_of}
use Rattle.laws.proofs.Final.{decided}
use Rattle.verdict.specs.Verdicts.{breach_of}
use Rattle.verdict.proofs.Sheets.{whole_round}
use Rattle.verdict.proofs.check.check.Goals as goal

pub returns-in_err-check_with-clause-decides : goal.returns-in_err-check_with-clause-decides
returns-in_err-check_with-clause-decides g c =
    let es : List Entry = entries_of c.args.sheet.now in
    let T = round_of c.args.sheet.now in
    let ps : Packets = g.R.Reel.packets c.args.reel.now in
    let f : Finding = g.W.Watch.fresh c.args.sheet.now in
    let e : g.W.Watch.finding c.make-watch.result ≡ f = fun_ext (λ xs. fun_ext (λ x. c.make-watch.ensures xs x)) in
    let a = c.in_err-check_with.ensures.answers ∙ ap (λ x. verdict es T x ps) e in
    let b : breach_of c.from_residual.result ≡ verdict es T f ps = search rules in
    subst (Decides es T f ps) (sym b) (decided es T (whole_round c.args.sheet.now) f (g.met.W.Watch.rounds c.args.sheet.now) ps (g.met.R.Reel.whole c.args.reel.now))

pub returns-clause-decides : goal.returns-clause-decides
returns-clause-decides g c =
    let es : List Entry = entries_of c.args.sheet.now in
    let T = round_of c.args.sheet.now in
    let ps : Packets = g.R.Reel.packets c.args.reel.now in
    let f : Finding = g.W.Watch.fresh c.args.sheet.now in
    let e : g.W.Watch.finding c.make-watch.result ≡ f = fun_ext (λ xs. fun_ext (λ x. c.make-watch.ensures xs x)) in
    let a = c.in_ok-check_with.ensures.answers ∙ ap (λ x. verdict es T x ps) e in
    subst (Decides es T f ps) (sym a) (decided es T (whole_round c.args.sheet.now) f (g.met.W.Watch.rounds c.args.sheet.now) ps (g.met.R.Reel.whole c.args.reel.now))
