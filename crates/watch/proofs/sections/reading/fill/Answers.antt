use Rattle.std.proofs.Common.{cond, sym, ap, ◌∙◌}
use Rattle.model.specs.Sections.{filling, wrong}
use Rattle.watch.proofs.Stuffing.{fills}
use Rattle.watch.proofs.sections.reading.fill.Goals as goal

pub returns-then-is_stuffing : goal.returns-then-is_stuffing
returns-then-is_stuffing c = λ n u. sym (fills n c.args.bytes.now ∙ ap (λ t. cond t filling (wrong 28)) (sym c.if-is_stuffing.ensures))

pub returns-else-is_stuffing : goal.returns-else-is_stuffing
returns-else-is_stuffing c = λ n u. sym (fills n c.args.bytes.now ∙ ap (λ t. cond t filling (wrong 28)) (sym c.if-is_stuffing.ensures))
