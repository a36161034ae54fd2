use Rattle.std.proofs.Common.{◌≡◌, [], Err, sym, ◌∙◌, subst, rules}
use Rattle.model.specs.Rules.{rule_number}
use Rattle.watch.specs.Readings.{Takes}
use Rattle.watch.specs.Assembled.{bytes_of}
use Rattle.watch.proofs.Stuffing.{wrong_first, wrong_among}
use Rattle.watch.proofs.Extending.{extends, finishes}
use Rattle.watch.proofs.sections.section.Section.take.Goals as goal

pub returns-in_err-progress-clause-reads : goal.returns-in_err-progress-clause-reads
returns-in_err-progress-clause-reads c =
    let u = bytes_of c.args.self.now in
    let bs = c.args.bytes.now in
    let x = c.in_err-progress.field-0.0 in
    let e : c.from_residual.result ≡ Err x = search rules in
    subst (λ r. Takes u bs r (bytes_of c.push.new.self)) (sym e) (wrong_first u bs (rule_number x) c.requires c.in_err-progress.ensures)

pub returns-then-count-lacks-clause-reads : goal.returns-then-count-lacks-clause-reads
returns-then-count-lacks-clause-reads c =
    extends c.args.self.now c.args.bytes.now c.lacks-lacks.result c.min-count.result c.copy_from_slice.new.self c.if-self-lt3.false c.lacks-lacks.ensures c.min-count.ensures c.copy_from_slice.ensures.after c.requires c.if-count-lacks.true

pub returns-in_err-progress-2-clause-reads : goal.returns-in_err-progress-2-clause-reads
returns-in_err-progress-2-clause-reads c =
    let u = bytes_of c.args.self.now in
    let bs = c.args.bytes.now in
    let n = c.min-count.result in
    let x = c.in_err-progress-2.field-0.0 in
    let e : c.from_residual-in_err-progress-2.result ≡ Err x = search rules in
    subst (λ r. Takes u bs r []) (sym e)
    (wrong_among u bs n (rule_number x) (λ next. c.in_err-progress-2.ensures [] ∙ finishes c.args.self.now bs c.lacks-lacks.result n c.copy_from_slice.new.self c.if-self-lt3.false c.lacks-lacks.ensures c.min-count.ensures c.copy_from_slice.ensures.after c.requires c.if-count-lacks.false next))

pub returns-clause-reads : goal.returns-clause-reads
returns-clause-reads c = λ next.
    c.in_ok-progress-2.ensures [] ∙ finishes c.args.self.now c.args.bytes.now c.lacks-lacks.result c.min-count.result c.copy_from_slice.new.self c.if-self-lt3.false c.lacks-lacks.ensures c.min-count.ensures c.copy_from_slice.ensures.after c.requires c.if-count-lacks.false next
