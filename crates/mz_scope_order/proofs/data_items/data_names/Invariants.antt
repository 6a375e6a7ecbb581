use Rattle.std.proofs.Common.{◌≡◌, ◌++◌, drop, map}
use Rattle.mz_scope_order.proofs.data_items.data_names.Given as goal

abbrev pub invariant-loop-d : goal.invariant-loop-d
invariant-loop-d l = l.out.items ++ map (λ d. d.name) (drop l.d-index l.items) ≡ map (λ d. d.name) l.items
