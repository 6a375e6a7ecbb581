use Rattle.std.proofs.Common.{◌≡◌, ◌+◌, pos, map, length, []}
use Rattle.fz_program.specs.Arguments.{plains}
use Rattle.fz_program.specs.Flat.{variable}
use Rattle.fz_build.specs.Bounds.{union_reached}
use Rattle.fz_build.proofs.sets.union_reached.Given as goal

abbrev pub invariant-loop-rest : goal.invariant-loop-rest
invariant-loop-rest l = record {
  place : l.place + length l.rest ≡ 1 + length l.items;
  rest : union_reached (map variable l.vars) l.index (pos l.place) l.acc (plains l.rest) ≡ union_reached (map variable l.vars) l.index (pos 1) [] (plains l.items);
}

abbrev pub decreases-loop-rest : goal.decreases-loop-rest
decreases-loop-rest l = length l.rest
