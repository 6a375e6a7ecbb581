use Rattle.std.proofs.Common.{◌≡◌, map, drop}
use Rattle.std.specs.List.{list_all}
use Rattle.mz_value.specs.Contents.{content}
use Rattle.mz_meaning.specs.Arrays.{item_suits}
use Rattle.mz_eval_declared.proofs.suiting.all_suit.Given as goal

abbrev pub invariant-loop-x : goal.invariant-loop-x
invariant-loop-x l = list_all (item_suits l.u) (map content l.items) ≡ list_all (item_suits l.u) (map content (drop l.x-index l.items))
