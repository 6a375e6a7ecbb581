use Rattle.std.proofs.Common.{◌∙◌, map, ap}
use Rattle.std.specs.List.{flat_map}
use Rattle.mz_core.specs.TreeViews.{decl}
use Rattle.mz_core.specs.Program.{function}
use Rattle.mz_model_unbounded.specs.Firsts.{first_place}
use Rattle.mz_model_unbounded.specs.StepsLayers.{in_param}
use Rattle.mz_model_unbounded.proofs.Items.{function_place}
use Rattle.mz_model_unbounded.proofs.program.in_function.Goals as goal

pub returns : goal.returns
returns c =
    function_place (function c.args.f.now) c.args.found.now c.in_parameters.new.found c.in_type.new.found c.in_tree.new.found
    (c.in_parameters.ensures ∙ ap (λ ds. first_place c.args.found.now (flat_map in_param (map decl ds))) c.as_slice.ensures.value)
    c.in_type.ensures
    c.in_tree.ensures
