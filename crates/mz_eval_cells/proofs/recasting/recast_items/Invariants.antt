use Rattle.std.proofs.Common.{◌≡◌, map, take}
use Rattle.mz_value.specs.Contents.{content}
use Rattle.mz_meaning.specs.Coerced.{recast}
use Rattle.mz_eval_cells.proofs.recasting.recast_items.Given as goal

abbrev pub invariant-loop-x : goal.invariant-loop-x
invariant-loop-x l = map content l.all.items ≡ map (recast l.b) (map content (take l.x-index l.xs))
