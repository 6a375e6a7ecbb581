use Rattle.std.proofs.Common.{◌≡◌, ◌++◌, map, drop}
use Rattle.mz_value.specs.Contents.{content}
use Rattle.mz_value.specs.Contents as values
use Rattle.mz_eval_global_terms.proofs.par.integers_of.Given as goal

abbrev pub invariant-loop-v : goal.invariant-loop-v
invariant-loop-v l = map values.int l.all.items ++ map content (drop l.v-index l.items) ≡ map content l.items
