use Rattle.std.proofs.Common.{◌≡◌, map, take}
use Rattle.mz_arena.specs.Instances.{var_cell}
use Rattle.flat.specs.Arrays.{value_ids}
use Rattle.flat.proofs.arrays.value_ids.Given as goal

abbrev pub invariant-cells : goal.invariant-cells
invariant-cells l = l.all.items ≡ value_ids (map var_cell (take l.c-index l.cells))
