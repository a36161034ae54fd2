use Rattle.laws.proofs.Final.{bank_keeps}
use Rattle.laws.proofs.theorems.bank_keeps.Goals as goal

pub returns : goal.returns
returns c = bank_keeps
