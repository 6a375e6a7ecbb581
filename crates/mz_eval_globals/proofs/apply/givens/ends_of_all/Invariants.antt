use Rattle.std.proofs.Common.{◌≡◌, ◌++◌, drop, map}
use Rattle.mz_value.specs.Contents.{content}
use Rattle.mz_operations.specs.Bounds.{bound_of}
use Rattle.mz_globals.specs.Givens.{ends_in_all}
use Rattle.mz_eval_globals.proofs.apply.givens.ends_of_all.Given as goal

abbrev pub invariant-loop-v : goal.invariant-loop-v
invariant-loop-v l = l.all.items ++ ends_in_all (map bound_of (map content (drop l.v-index l.items))) ≡ ends_in_all (map bound_of (map content l.items))
