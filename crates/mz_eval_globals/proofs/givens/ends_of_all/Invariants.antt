use Rattle.std.proofs.Common.{◌≡◌, ◌++◌, drop, map}
use Rattle.mz_globals.specs.Givens.{ends_in_all}
use Rattle.mz_eval_cells.specs.Views.{known_bound}
use Rattle.mz_eval_globals.proofs.givens.ends_of_all.Given as goal

abbrev pub invariant-loop-b : goal.invariant-loop-b
invariant-loop-b l = l.all.items ++ ends_in_all (map known_bound (drop l.b-index l.bounds)) ≡ ends_in_all (map known_bound l.bounds)
