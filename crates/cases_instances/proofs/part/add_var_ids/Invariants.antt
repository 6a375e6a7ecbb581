use Rattle.std.proofs.Common.{◌≡◌, ◌++◌, drop}
use Rattle.std.specs.List.{flat_map}
use Rattle.mz_arena.specs.Instances.{var_cell}
use Rattle.mz_instance.specs.Parts.{cell_ids}
use Rattle.cases_instances.proofs.part.add_var_ids.Given as goal

abbrev pub invariant-cells : goal.invariant-cells
invariant-cells l = l.fn.all.items ++ flat_map (λ c. cell_ids (var_cell c)) l.m.cells.items ≡ l.all.items ++ flat_map (λ c. cell_ids (var_cell c)) (drop l.c-index l.m.cells.items)
