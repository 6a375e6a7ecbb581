use Rattle.std.proofs.Common.{◌≡◌, map, drop}
use Rattle.std.specs.List.{flat_map}
use Rattle.mz_core.specs.Program.{function}
use Rattle.mz_model_unbounded.specs.Firsts.{first_place}
use Rattle.mz_model_unbounded.specs.StepsLayers.{in_function}
use Rattle.mz_model_unbounded.proofs.program.in_functions.Given as goal

abbrev pub invariant-loop-f : goal.invariant-loop-f
invariant-loop-f l = first_place l.fn.found (flat_map in_function (map function l.fs)) ≡ first_place l.found (flat_map in_function (map function (drop l.f-index l.fs)))
