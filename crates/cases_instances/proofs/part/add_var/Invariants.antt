use Rattle.std.proofs.Common.{◌≡◌, ◌++◌, map, drop}
use Rattle.std.specs.List.{flat_map}
use Rattle.mz_arena.specs.Instances.{model_var, var_cell}
use Rattle.mz_instance.specs.Parts.{parts_of, value_part}
use Rattle.cases_instances.specs.Seen.{part}
use Rattle.cases_instances.proofs.part.add_var.Given as goal

abbrev pub invariant-cells : goal.invariant-cells
invariant-cells l = map part l.fn.all.items ++ flat_map (λ c. parts_of l.m.opt (value_part (model_var l.m) (var_cell c))) l.m.cells.items ≡ map part l.all.items ++ flat_map (λ c. parts_of l.m.opt (value_part (model_var l.m) (var_cell c))) (drop l.c-index l.m.cells.items)
