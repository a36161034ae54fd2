use Rattle.laws.proofs.Final.{stamps_keep}
use Rattle.laws.proofs.theorems.stamps_keep.Goals as goal

pub returns : goal.returns
returns c = stamps_keep
