use Rattle.std.proofs.Common.{◌≡◌, ◌++◌, map, drop}
use Rattle.mz_arena.specs.Instances.{var_cell}
use Rattle.mz_print_model.specs.Shapes.{domain_of}
use Rattle.mz_print_model.proofs.making.domains.Given as goal

abbrev pub invariant-loop-cell : goal.invariant-loop-cell
invariant-loop-cell l = map domain_of (map var_cell l.cells) ≡ l.sets.items ++ map domain_of (map var_cell (drop l.cell-index l.cells))
