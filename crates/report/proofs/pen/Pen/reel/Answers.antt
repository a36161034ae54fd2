use Rattle.report.proofs.Spelling.{behind}
use Rattle.report.proofs.pen.Pen.reel.Goals as goal

pub returns-clause-writes : goal.returns-clause-writes
returns-clause-writes c = behind c.text.ensures (behind c.decimal.ensures (behind c.text-2.ensures (behind c.decimal-2.ensures c.text-3.ensures)))
