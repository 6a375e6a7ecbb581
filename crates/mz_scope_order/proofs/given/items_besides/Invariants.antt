use Rattle.std.proofs.Common.{◌≡◌, ◌++◌, drop, map}
use Rattle.std.specs.List.{flat_map}
use Rattle.mz_tree.specs.Data.{given}
use Rattle.mz_scope_names.specs.Sets.{holds}
use Rattle.mz_scope_order.specs.Parts.{unless}
use Rattle.mz_scope_order.specs.Scoped.{lent_given}
use Rattle.mz_scope_order.proofs.given.items_besides.Given as goal

abbrev pub invariant-loop-d : goal.invariant-loop-d
invariant-loop-d l = map lent_given l.out.items ++ flat_map (λ d. unless (holds d.name l.names) (given d)) (drop l.d-index l.items) ≡ flat_map (λ d. unless (holds d.name l.names) (given d)) l.items
