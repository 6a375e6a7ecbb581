use Rattle.std.proofs.Common.{◌≡◌, drop}
use Rattle.mz_globals.specs.Givens.{negative_in}
use Rattle.mz_eval_globals.proofs.apply.refusals.negative_in.Given as goal

abbrev pub invariant-loop-e : goal.invariant-loop-e
invariant-loop-e l = negative_in (drop l.e-index l.ends) ≡ negative_in l.ends
