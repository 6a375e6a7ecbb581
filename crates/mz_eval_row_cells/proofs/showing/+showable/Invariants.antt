use Rattle.std.proofs.Common.{◌≡◌, ◌+◌, ◌*◌, map, drop}
use Rattle.mz_value.specs.Contents.{content, contents, case_names}
use Rattle.mz_meaning.specs.Operations.{are_showable}
use Rattle.mz_eval_row_cells.proofs.showing.+showable.Given as goal

abbrev pub invariant-are_showable-loop-x : goal.invariant-are_showable-loop-x
invariant-are_showable-loop-x l = are_showable (case_names l.cases) (contents (map content l.items)) ≡ are_showable (case_names l.cases) (contents (map content (drop l.x-index l.items)))

abbrev pub decreases-is_showable : goal.decreases-is_showable
decreases-is_showable l = 2 * goal.size-is_showable l

abbrev pub decreases-are_showable : goal.decreases-are_showable
decreases-are_showable l = 2 * goal.size-are_showable l + 1
