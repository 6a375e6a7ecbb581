use Rattle.std.proofs.Common.{◌≡◌, drop, map, None}
use Rattle.fz_program.specs.Flat.{variable}
use Rattle.fz_text.specs.Spelling.{hull}
use Rattle.fz_text.proofs.array.hull.Given as goal

abbrev pub invariant-loop-k : goal.invariant-loop-k
invariant-loop-k l = hull (map variable l.vars) l.all (drop l.k-index l.items) ≡ hull (map variable l.vars) None l.items
