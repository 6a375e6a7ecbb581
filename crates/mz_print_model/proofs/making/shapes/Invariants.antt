use Rattle.std.proofs.Common.{◌≡◌, ◌++◌, map, drop}
use Rattle.mz_arena.specs.Instances.{model_var}
use Rattle.fz_items.specs.Forms.{forms}
use Rattle.mz_print_model.specs.Shapes.{forms_of}
use Rattle.mz_print_model.proofs.making.shapes.Given as goal

abbrev pub invariant-loop-var : goal.invariant-loop-var
invariant-loop-var l = forms_of l.names (map model_var l.vars) ≡ forms l.shapes.items ++ forms_of l.names (map model_var (drop l.var-index l.vars))
