-- What the terms tell of arrays that lead to indices, over integers that may be undefined; private clauses only.
use Rattle.std.specs.Prelude.{ℕ, Bool, ◌&&◌}
use Rattle.std.specs.List.{list_all}
use Rattle.mz_operations.specs.Numbers.{same}
use Rattle.mz_globals.specs.Lists.{numbered}
use Rattle.mz_symbol.specs.Readings.{Reading}
use Rattle.glob_nodes.specs.declared.arguments.Numbers.{Numbers}
use Rattle.glob_nodes.specs.declared.nodes.Compare.TheVariants.{Equal}
use Rattle.glob_nodes.specs.Says.{num, compares}
use Rattle.glob_nodes.specs.Places.{Place, lies_within, known}

-- the one place leads to the other exactly where the other leads back
abbrev pub are_two_way : Reading → Place → Place → Bool
are_two_way r p q = same (compares Equal (num r p.1) q.0) (compares Equal (num r q.1) p.0)

abbrev pub holds_indices : Reading → Numbers → Numbers → Bool
holds_indices r f g = list_all (λ x. lies_within (g.first, g.last) (num r x)) f.items.items

abbrev pub are_in_ranges : Reading → Numbers → Numbers → Bool
are_in_ranges r f g = holds_indices r f g && holds_indices r g f

abbrev pub lead_back : Reading → Numbers → Numbers → Bool
lead_back r f g = list_all (λ p. list_all (λ q. are_two_way r (known p) (known q)) (numbered g.first g.items.items)) (numbered f.first f.items.items)

abbrev pub are_inverse : Reading → Numbers → Numbers → Bool
are_inverse r f g = are_in_ranges r f g && lead_back r f g

-- a place with the index i and the element y
abbrev pub is_place : Reading → ℕ → ℕ → Place → Bool
is_place r i y p = compares Equal (num r i) p.0 && compares Equal (num r p.1) (num r y)
