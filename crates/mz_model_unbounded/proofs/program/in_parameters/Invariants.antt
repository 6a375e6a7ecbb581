use Rattle.std.proofs.Common.{◌≡◌, map, drop}
use Rattle.std.specs.List.{flat_map}
use Rattle.mz_core.specs.TreeViews.{decl}
use Rattle.mz_model_unbounded.specs.Firsts.{first_place}
use Rattle.mz_model_unbounded.specs.StepsLayers.{in_param}
use Rattle.mz_model_unbounded.proofs.program.in_parameters.Given as goal

abbrev pub invariant-loop-d : goal.invariant-loop-d
invariant-loop-d l = first_place l.fn.found (flat_map in_param (map decl l.ds)) ≡ first_place l.found (flat_map in_param (map decl (drop l.d-index l.ds)))
