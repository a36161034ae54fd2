use Rattle.std.proofs.Common.{refl}
use Rattle.model.specs.Moves.{moved, move_header, move_stamps}
use Rattle.model.specs.Runs.{run}
use Rattle.worked.specs.Generated.{Generated}
use Rattle.worked.proofs.generated_reels.Goals as goal

computed : Generated
unfolding moved move_header move_stamps run
computed = record { answers = refl; packets = refl }

pub returns : goal.returns
returns c = computed
