use Rattle.std.proofs.Common.{◌≡◌, ◌++◌, map, drop}
use Rattle.mz_tree.specs.Items.{FunctionTree}
use Rattle.mz_scope_order.specs.Scoped.{lent_function}
use Rattle.mz_check_exprs.proofs.model_names.function_names.Given as goal

abbrev pub invariant-loop-f : goal.invariant-loop-f
invariant-loop-f l = map (λ (f : FunctionTree). f.name) (map lent_function l.functions) ≡ l.all.items ++ map (λ (f : FunctionTree). f.name) (map lent_function (drop l.f-index l.functions))
