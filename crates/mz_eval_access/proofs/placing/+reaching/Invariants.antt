use Rattle.std.proofs.Common.{◌≡◌, ◌++◌, ◌+◌, ◌*◌, length, map}
use Rattle.mz_index.specs.Places.{count_of, length_of}
use Rattle.mz_eval_cells.specs.Views.{known_bound}
use Rattle.mz_eval_access.specs.Places.{places_of}
use Rattle.mz_eval_access.specs.StepsPlaces.{reach, runs, swept}
use Rattle.mz_eval_access.proofs.placing.+reaching.Given as goal

abbrev pub invariant-with_swept-loop-left : goal.invariant-with_swept-loop-left
invariant-with_swept-loop-left l = map known_bound l.fn.out.items ++ swept (reach l.fn.ranges l.fn.ends) l.fn.e (count_of l.fn.ranges) (length_of l.fn.r) l.fn.r.0 (places_of l.fn.p) ≡ map known_bound l.all.items ++ runs (reach l.fn.ranges l.fn.ends) (count_of l.fn.ranges) l.left (places_of l.rest)

abbrev pub decreases-with_swept-loop-left : goal.decreases-with_swept-loop-left
decreases-with_swept-loop-left l = l.left

abbrev pub decreases-with_reached : goal.decreases-with_reached
decreases-with_reached l = 2 * length l.ranges.now

abbrev pub decreases-with_swept : goal.decreases-with_swept
decreases-with_swept l = 2 * length l.ranges.now + 1
