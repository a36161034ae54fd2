use Rattle.laws.proofs.Final.{continues_forever}
use Rattle.laws.proofs.theorems.continues_forever.Goals as goal

pub returns : goal.returns
returns c = continues_forever
