use Rattle.report.proofs.Spelling.{behind}
use Rattle.report.proofs.pen.Pen.report.Goals as goal

pub returns-in-Ok : goal.returns-in-Ok
returns-in-Ok c = rw (c.in-Ok.is, ← c.entries.ensures.list) (behind c.reel.ensures.writes c.verdict.ensures)
