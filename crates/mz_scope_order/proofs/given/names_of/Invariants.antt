use Rattle.std.proofs.Common.{◌≡◌, ◌++◌, drop, map}
use Rattle.mz_scope_order.proofs.given.names_of.Given as goal

abbrev pub invariant-loop-e : goal.invariant-loop-e
invariant-loop-e l = l.out.items ++ map (λ e. e.name) (drop l.e-index l.enums) ≡ map (λ e. e.name) l.enums
