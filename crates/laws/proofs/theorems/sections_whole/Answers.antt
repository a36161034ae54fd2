use Rattle.laws.proofs.WholeSections.{sections_whole}
use Rattle.laws.proofs.theorems.sections_whole.Goals as goal

pub returns : goal.returns
returns c = sections_whole
