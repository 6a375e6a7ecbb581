use Rattle.mz_builtin.proofs.lists.+index_lists.Given as goal

abbrev pub decreases-index_lists : goal.decreases-index_lists
decreases-index_lists l = l.n
