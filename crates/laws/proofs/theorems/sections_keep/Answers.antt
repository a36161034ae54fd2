use Rattle.laws.proofs.Final.{sections_keep}
use Rattle.laws.proofs.theorems.sections_keep.Goals as goal

pub returns : goal.returns
returns c = sections_keep
