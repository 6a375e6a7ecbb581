use Rattle.std.proofs.Common.{◌≡◌, ◌++◌, drop}
use Rattle.mz_print.specs.Output.{index_text}
use Rattle.mz_print.proofs.shown.push_index.Given as goal

abbrev pub invariant-loop-range : goal.invariant-loop-range
invariant-loop-range l = l.fn.out.items ++ index_text l.index ≡ l.out.items ++ index_text (drop l.range-index l.index)
