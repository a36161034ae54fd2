use Rattle.laws.proofs.Final.{moves_lawfully}
use Rattle.laws.proofs.theorems.moves_lawfully.Goals as goal

pub returns : goal.returns
returns c = moves_lawfully
