use Rattle.report.proofs.Spelling.{behind}
use Rattle.report.proofs.pen.Pen.refused.Goals as goal

pub returns : goal.returns
returns c = rw (← c.from.ensures) (behind c.text.ensures (behind c.decimal.ensures c.text-2.ensures))
