use Rattle.std.proofs.Common.{◌≡◌, ◌++◌, take, map, flat_map}
use Rattle.fz_program.specs.Flat.{array_item, variable}
use Rattle.fz_text.specs.Spelling.{array_line}
use Rattle.fz_text.proofs.spell.push_arrays.Given as goal

abbrev pub invariant-loop-a : goal.invariant-loop-a
invariant-loop-a l =
    l.out.items ≡ l.initial.out.items ++ flat_map (λ r. array_line (map variable l.vars) (array_item r)) (take l.a-index l.arrays)
