use Rattle.std.proofs.Common.{◌≡◌, [], map, drop}
use Rattle.std.specs.List.{zip}
use Rattle.mz_core.specs.TreeViews.{tree}
use Rattle.mz_tree.specs.Data.{value}
use Rattle.mz_check_meaning.specs.Tests.{loop, one_more}
use Rattle.mz_check_context.specs.Known.{known}
use Rattle.mz_check_data.specs.Datum.{index_set_tree}
use Rattle.mz_check_data.proofs.arrays.index_sets.Given as goal

abbrev pub invariant-loop-d : goal.invariant-loop-d
invariant-loop-d l = loop (one_more (index_set_tree (known l.context).names l.span)) [] (zip (map value l.ds) l.xs) ≡ loop (one_more (index_set_tree (known l.context).names l.span)) (map tree l.all.items) (zip (map value (drop l.d-index l.ds)) (drop l.i l.xs))
