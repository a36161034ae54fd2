use Rattle.std.proofs.Common.{replicate, ap, ◌∙◌}
use Rattle.model.specs.Sheets.{entries_of}
use Rattle.watch.specs.Phases.{sections_from}
use Rattle.watch.proofs.Following.{follows_none}
use Rattle.watch.proofs.sections.SectionsWatch.make.Goals as goal

pub returns : goal.returns
returns c = λ xs x. ap (λ ph. sections_from (entries_of c.args.sheet.now) (replicate 16 ph) xs x) c.new.ensures ∙ follows_none (entries_of c.args.sheet.now) xs x
