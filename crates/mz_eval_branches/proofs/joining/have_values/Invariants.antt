use Rattle.std.proofs.Common.{◌≡◌, drop}
use Rattle.std.specs.List.{list_all}
use Rattle.mz_eval_branches.specs.TableCells.{has_value}
use Rattle.mz_eval_branches.proofs.joining.have_values.Given as goal

abbrev pub invariant-loop-k : goal.invariant-loop-k
invariant-loop-k l = list_all has_value l.all ≡ list_all has_value (drop l.k-index l.all)
