use Rattle.std.proofs.Common.{◌≡◌, drop}
use Rattle.std.specs.Prelude.{not}
use Rattle.std.specs.List.{list_all}
use Rattle.mz_meaning.specs.Arrays.{is_own}
use Rattle.mz_eval_declared.specs.Wants.{wants_of}
use Rattle.mz_eval_declared.proofs.fitting.no_own.Given as goal

abbrev pub invariant-loop-w : goal.invariant-loop-w
invariant-loop-w l = list_all (λ x. not (is_own x)) (wants_of l.ws) ≡ list_all (λ x. not (is_own x)) (wants_of (drop l.w-index l.ws))
