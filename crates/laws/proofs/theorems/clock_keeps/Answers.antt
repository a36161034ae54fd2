use Rattle.laws.proofs.Final.{clock_keeps}
use Rattle.laws.proofs.theorems.clock_keeps.Goals as goal

pub returns : goal.returns
returns c = clock_keeps
