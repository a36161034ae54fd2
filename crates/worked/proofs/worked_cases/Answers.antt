use Rattle.std.proofs.Common.{refl}
use Rattle.model.specs.Moves.{moved, move_header, move_stamps}
use Rattle.model.specs.Runs.{run}
use Rattle.worked.specs.Worked.{Worked}
use Rattle.worked.proofs.worked_cases.Goals as goal

computed : Worked
unfolding moved move_header move_stamps run
computed = record {
  last_clock_lem = refl;
  clock_wraps = refl;
  last_stamp_lem = refl;
  stamp_wraps = refl;
  slowest = refl;
  too_slow = refl;
  fastest = refl;
  too_fast = refl;
  length_182_with_payload = refl;
  length_182_alone = refl;
  length_183_alone = refl;
  length_183_with_payload = refl;
  copy_not_counted = refl;
  counters_move = refl;
  copy_of_a_copy = refl;
  same_counter_without_payload = refl;
  next_counter_without_payload = refl;
  section_of_9 = refl;
  section_of_8 = refl;
  section_of_1021 = refl;
  section_of_1022 = refl;
  looped = refl;
  late_at_the_seam = refl;
}

pub returns : goal.returns
returns c = computed
