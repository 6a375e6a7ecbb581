use Rattle.std.proofs.Common.{◌≡◌, ◌++◌, drop}
use Rattle.mz_eval_declared.specs.StepsTaking.{symbols_of}
use Rattle.mz_eval_declared.proofs.arrays.symbols.Given as goal

abbrev pub invariant-loop-f : goal.invariant-loop-f
invariant-loop-f l = symbols_of l.choices ≡ l.all.items ++ symbols_of (drop l.f-index l.choices)
