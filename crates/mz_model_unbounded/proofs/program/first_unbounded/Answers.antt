use Rattle.std.proofs.Common.{◌∙◌, map, ap}
use Rattle.std.specs.List.{flat_map}
use Rattle.mz_core.specs.TreeViews.{tree, decl}
use Rattle.mz_core.specs.Program.{function}
use Rattle.mz_model_unbounded.specs.Firsts.{first_place}
use Rattle.mz_model_unbounded.specs.StepsLayers.{in_all, in_local, in_function}
use Rattle.mz_model_unbounded.proofs.Items.{program_place}
use Rattle.mz_model_unbounded.proofs.program.first_unbounded.Goals as goal

pub returns : goal.returns
returns c =
    program_place c.args.program.now c.in_declarations.new.found c.in_functions.new.found c.in_all.new.found c.in_goal.new.found c.in_all-2.new.found
    (c.in_declarations.ensures ∙ ap (λ ds. first_place _ (flat_map in_local (map decl ds))) c.as_slice.ensures.value)
    (c.in_functions.ensures ∙ ap (λ fs. first_place c.in_declarations.new.found (flat_map in_function (map function fs))) c.as_slice-2.ensures.value)
    (c.in_all.ensures ∙ ap (λ es. first_place c.in_functions.new.found (in_all (map tree es))) c.as_slice-3.ensures.value)
    c.in_goal.ensures
    (c.in_all-2.ensures ∙ ap (λ es. first_place c.in_goal.new.found (in_all (map tree es))) c.as_slice-4.ensures.value)
