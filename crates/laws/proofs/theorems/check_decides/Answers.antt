use Rattle.laws.proofs.Final.{decided}
use Rattle.laws.proofs.theorems.check_decides.Goals as goal

pub returns : goal.returns
returns c = decided
