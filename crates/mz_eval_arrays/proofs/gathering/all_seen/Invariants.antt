use Rattle.std.proofs.Common.{◌≡◌, map, take}
use Rattle.mz_value.specs.Contents.{content}
use Rattle.mz_meaning.specs.Cells.{par_value}
use Rattle.mz_eval_cells.specs.Views.{cells_of}
use Rattle.mz_eval_arrays.proofs.gathering.all_seen.Given as goal

abbrev pub invariant-loop-x : goal.invariant-loop-x
invariant-loop-x l = cells_of l.all.items ≡ map (λ x. par_value (content x)) (take l.x-index l.items)
