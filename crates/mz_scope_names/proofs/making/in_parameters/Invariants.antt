use Rattle.std.proofs.Common.{◌≡◌, ◌++◌, drop, map}
use Rattle.mz_tree.specs.Views.{declaration}
use Rattle.mz_scope_names.specs.Sketches.{in_parameters, with_parameters}
use Rattle.mz_scope_names.proofs.making.in_parameters.Given as goal

abbrev pub invariant-loop-p : goal.invariant-loop-p
invariant-loop-p l = record {
  uses : l.fn.out.items ++ in_parameters l.fn.hidden (map declaration l.params) ≡ l.out.items ++ in_parameters l.hidden (map declaration (drop l.p-index l.params));
  hidden : with_parameters l.fn.hidden (map declaration l.params) ≡ with_parameters l.hidden (map declaration (drop l.p-index l.params));
}
