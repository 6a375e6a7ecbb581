use Rattle.std.proofs.Common.{◌≡◌, drop, map}
use Rattle.std.specs.Prelude.{None}
use Rattle.mz_globals.specs.Givens.{unlike}
use Rattle.mz_eval_globals.specs.Views.{plain_given}
use Rattle.mz_eval_globals.proofs.apply.misfits.unlike.Given as goal

abbrev pub invariant-loop-g : goal.invariant-loop-g
invariant-loop-g l = unlike l.found (map plain_given (drop l.g-index l.gs)) ≡ unlike None (map plain_given l.gs)
