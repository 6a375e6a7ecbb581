use Rattle.mz_symbol_arrays.proofs.sure.+is_sure_within.Given as goal

abbrev pub decreases-is_sure_within : goal.decreases-is_sure_within
decreases-is_sure_within l = l.depth
