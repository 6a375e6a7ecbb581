use Rattle.std.proofs.Common.{◌≡◌, [], map, drop}
use Rattle.mz_core.specs.TreeViews.{tree}
use Rattle.mz_tree.specs.Data.{value}
use Rattle.mz_check_meaning.specs.Tests.{loop, one_more}
use Rattle.mz_check_context.specs.Known.{known}
use Rattle.mz_check_data.specs.Datum.{plain_tree}
use Rattle.mz_check_data.proofs.arrays.plains.Given as goal

abbrev pub invariant-loop-d : goal.invariant-loop-d
invariant-loop-d l = loop (one_more (plain_tree (known l.context).names l.span)) [] (map value l.ds) ≡ loop (one_more (plain_tree (known l.context).names l.span)) (map tree l.all.items) (map value (drop l.d-index l.ds))
