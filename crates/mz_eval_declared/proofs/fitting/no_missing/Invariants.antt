use Rattle.std.proofs.Common.{◌≡◌, drop}
use Rattle.mz_meaning.specs.Arrays.{no_missing}
use Rattle.mz_eval_declared.specs.Wants.{wants_of}
use Rattle.mz_eval_declared.proofs.fitting.no_missing.Given as goal

abbrev pub invariant-loop-w : goal.invariant-loop-w
invariant-loop-w l = no_missing (wants_of l.ws) ≡ no_missing (wants_of (drop l.w-index l.ws))
