use Rattle.std.proofs.Common.{◌≡◌, ◌++◌, map, drop}
use Rattle.mz_core.specs.declared.types.Base.TheVariants as base
use Rattle.glob_sets.specs.Arrays.{plain_symbol}
use Rattle.glob_sets.proofs.arguments.truths.Given as goal

abbrev pub invariant-loop-s : goal.invariant-loop-s
invariant-loop-s l = map (plain_symbol base.Bool) l.ids.items ++ drop l.s-index l.items ≡ l.items
