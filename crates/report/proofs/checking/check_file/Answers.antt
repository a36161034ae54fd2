use Rattle.std.proofs.Common.{sym, arith}
use Rattle.std.proofs.lemmas.Grind.{common_steps}
use Rattle.report.proofs.Memories.{never_refused, taken_as}
use Rattle.report.proofs.Opened.{count_within, count_right, bytes_right}
use Rattle.report.proofs.checking.check_file.Goals as goal

pub overflow_mul-contents : goal.overflow_mul-contents
overflow_mul-contents c = let n = count_right c.args.file.now _ (sym c.in_ok-contents.ensures.answers) in grind (arith, common_steps)

pub slice_bounds-new-end : goal.slice_bounds-new-end
slice_bounds-new-end c = let w = count_within c.args.file.now _ (sym c.in_ok-contents.ensures.answers) in grind (arith, common_steps)

pub returns-in_err-reel : goal.returns-in_err-reel
returns-in_err-reel c =
    let good = bytes_right c.args.file.now _ (sym c.in_ok-contents.ensures.answers) in
    absurd (never_refused (λ s. s.now) good _ _ c.new.result c.new.ensures c.map_err.result c.map_err.ensures.variant _ c.in_err-reel.was)

pub returns : goal.returns
returns c =
    let good = bytes_right c.args.file.now _ (sym c.in_ok-contents.ensures.answers) in
    let packets = taken_as (λ s. s.now) good _ _ c.new.result c.new.ensures c.map_err.result _ c.in_ok-reel.reel c.map_err.ensures.cases c.in_ok-reel.was in
    (sym c.in_ok-contents.ensures.answers, rw packets at c.check-verdict.ensures.answers)
