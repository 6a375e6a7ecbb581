use Rattle.std.proofs.Common.{◌≡◌, drop, map}
use Rattle.mz_globals.specs.Givens.{first_negative}
use Rattle.mz_eval_globals.specs.Views.{plain_given}
use Rattle.mz_eval_globals.proofs.apply.refusals.first_negative.Given as goal

abbrev pub invariant-loop-g : goal.invariant-loop-g
invariant-loop-g l = first_negative (map plain_given (drop l.g-index l.gs)) ≡ first_negative (map plain_given l.gs)
