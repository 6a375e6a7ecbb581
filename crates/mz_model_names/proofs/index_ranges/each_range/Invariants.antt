use Rattle.std.proofs.Common.{◌≡◌, ◌++◌, None, map, drop}
use Rattle.mz_meaning.specs.Arrays.{range_for}
use Rattle.mz_eval_declared.specs.Wants.{wants_of}
use Rattle.mz_model_names.proofs.index_ranges.each_range.Given as goal

abbrev pub invariant-loop-w : goal.invariant-loop-w
invariant-loop-w l = map (λ w. range_for w None) (wants_of l.ws) ≡ l.ranges.items ++ map (λ w. range_for w None) (wants_of (drop l.w-index l.ws))
