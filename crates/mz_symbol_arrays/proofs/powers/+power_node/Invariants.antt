use Rattle.mz_symbol_arrays.proofs.powers.+power_node.Given as goal

abbrev pub decreases-power_node : goal.decreases-power_node
decreases-power_node l = l.k
