use Rattle.std.proofs.Common.{◌≡◌, ◌++◌, drop, map}
use Rattle.mz_scope_order.proofs.enums.placed.Given as goal

abbrev pub invariant-loop-name : goal.invariant-loop-name
invariant-loop-name l = l.out.items ++ map (λ n. (n, l.at)) (drop l.name-index l.names) ≡ map (λ n. (n, l.at)) l.names
