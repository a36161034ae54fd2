use Rattle.std.proofs.Common.{◌∙◌, sym}
use Rattle.report.proofs.Spelling.{behind}
use Rattle.report.proofs.pen.Pen.breach.Goals as goal

pub returns : goal.returns
returns c =
    rw (sym c.from.ensures, sym (c.from-3.ensures ∙ c.from-2.ensures))
    (behind c.text.ensures (behind c.decimal.ensures (behind c.text-2.ensures (behind c.decimal-2.ensures (behind c.text-3.ensures (behind c.decimal-3.ensures c.text-4.ensures))))))
