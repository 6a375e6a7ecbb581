use Rattle.std.proofs.Common.{◌≡◌, ◌++◌, drop, map}
use Rattle.std.specs.Option.{option_map}
use Rattle.mz_value.specs.Contents.{content}
use Rattle.mz_globals.specs.Givens.{given_of}
use Rattle.mz_eval_globals.specs.Views.{plain_given}
use Rattle.mz_eval_globals.proofs.apply.givens.givens_of.Given as goal

abbrev pub invariant-loop-arg : goal.invariant-loop-arg
invariant-loop-arg l = map plain_given l.all.items ++ map given_of (map (option_map content) (drop l.arg-index l.args)) ≡ map given_of (map (option_map content) l.args)
