use Rattle.std.proofs.Common.{take, string_bytes, ◌≡◌}
use Rattle.std.specs.List.{AllByRecursion}
use Rattle.cases_instances.proofs.names.is_among.Given as goal

abbrev pub invariant-texts : goal.invariant-texts
invariant-texts l = AllByRecursion (λ y. string_bytes y ≡ l.x → ⊥) (take l.y-index l.fn.texts)
