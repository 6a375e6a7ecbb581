use Rattle.std.proofs.Common.{◌≡◌, take}
use Rattle.std.specs.Prelude.{filter}
use Rattle.mz_interval.specs.Ends.{is_number}
use Rattle.mz_eval_arrays.proofs.numbering.numbers_in_limit.Given as goal

abbrev pub invariant-loop-n : goal.invariant-loop-n
invariant-loop-n l = l.all.items ≡ filter is_number (take l.n-index l.ns)
