-- What the terms tell of sets that may be undefined; private clauses only.
use Rattle.std.specs.Prelude.{◌≡◌, refl, ℕ, pos, ◌*◌, ◌≤◌, Bool, true, false, ◌&&◌, List, [], ◌∷◌, drop, length, Option, Some, None}
use Rattle.std.specs.List.{list_all}
use Rattle.mz_value.specs.Ranges.{Range, range_of}
use Rattle.mz_operations.specs.declared.row.SetOp.TheVariants as rows
use Rattle.mz_operations.specs.Numbers.{same}
use Rattle.mz_operations.specs.Sets.{complement, difference, intersection, is_subset, missing_from, same_set}
use Rattle.mz_globals.specs.Lists.{numbered, pairwise}
use Rattle.mz_arena.specs.Values.{Term, as_set, holds, is_member, is_true, set_term}
use Rattle.mz_symbol.specs.Runs.{Run}
use Rattle.mz_symbol.specs.Readings.{Reading, Reads, state_of}
use Rattle.mz_symbol.specs.Makes.{GoesOnBy}
use Rattle.glob_nodes.specs.declared.arguments.Numbers.{Numbers}
use Rattle.glob_nodes.specs.declared.nodes.Compare.TheVariants.{Equal}
use Rattle.glob_nodes.specs.Says.{compares, num}
use Rattle.glob_nodes.specs.Places.{Place, known, lies_within}

-- two sets whose intersection is the one that `none` is
abbrev pub are_apart : Reading → ℕ → ℕ → ℕ → Bool
are_apart r none x y = holds (as_set (set_term rows.Intersect (r.term x) (r.term y))) (as_set (r.term none)) same_set

abbrev pub all_apart : Reading → ℕ → Numbers → Bool
all_apart r none a = pairwise (are_apart r none) a.items.items

-- the union of a set and those after it
abbrev pub united_from : Reading → Term → List ℕ → Term
united_from r t [] = t
united_from r t (x ∷ xs) = united_from r (set_term rows.Union t (r.term x)) xs

abbrev pub make_up : Reading → ℕ → Numbers → ℕ → Bool
make_up r none a u = all_apart r none a && holds (as_set (united_from r (r.term none) a.items.items)) (as_set (r.term u)) same_set

-- the union so far, and what is left from a place on
pub record UnitedSoFar (old new : Run) (none : ℕ) (all : List ℕ) (k acc : ℕ) : Type 0 where
  pub goes : GoesOnBy (4 * k) old new
  pub same : (r : Reading) → Reads r new → state_of r old ≡ state_of r new
  pub is : (r : Reading) → Reads r new → united_from r (r.term none) all ≡ united_from r (r.term acc) (drop k all)
  pub low : k ≤ length all

-- ---- sets of indices

abbrev pub is_part : Reading → ℕ → ℕ → Bool
is_part r s t = holds (as_set (r.term s)) (as_set (r.term t)) is_subset

-- a set that may be undefined has numbers of a range alone
abbrev pub lies_among : Range → Option (List Range) → Bool
lies_among x o = holds o (Some (range_of x.0 x.1)) is_subset

-- an element names a set's index exactly where the set has the element's
abbrev pub belong : Reading → Place → Place → Bool
belong r p q = same (compares Equal (num r p.1) q.0) (is_member p.0 (as_set (r.term q.1)))

abbrev pub name_indices : Reading → Numbers → Numbers → Bool
name_indices r x y = list_all (λ id. lies_within (y.first, y.last) (num r id)) x.items.items

abbrev pub have_indices : Reading → Numbers → Numbers → Bool
have_indices r x y = list_all (λ id. lies_among (x.first, x.last) (as_set (r.term id))) y.items.items

abbrev pub all_belong : Reading → Numbers → Numbers → Bool
all_belong r x y = list_all (λ p. list_all (λ q. belong r (known p) (known q)) (numbered y.first y.items.items)) (numbered x.first x.items.items)

abbrev pub are_channel : Reading → Numbers → Numbers → Bool
are_channel r x y = name_indices r x y && have_indices r x y && all_belong r x y

-- a Boolean is true exactly where a set has its index
abbrev pub is_linked : Reading → ℕ → Place → Bool
is_linked r s p = same (is_member p.0 (as_set (r.term s))) (is_true (r.term p.1))

abbrev pub all_linked : Reading → ℕ → Numbers → Bool
all_linked r s b = list_all (λ p. is_linked r s (known p)) (numbered b.first b.items.items)

abbrev pub are_linked : Reading → ℕ → Numbers → Bool
are_linked r s b = lies_among (b.first, b.last) (as_set (r.term s)) && all_linked r s b

-- ---- worked examples

an_index : lies_among (pos 1, pos 3) (Some ((pos 3, pos 3) ∷ [])) ≡ true
unfolding difference intersection complement missing_from
an_index = refl

no_index : lies_among (pos 1, pos 3) (Some ((pos 1, pos 1) ∷ (pos 4, pos 4) ∷ [])) ≡ false
unfolding difference intersection complement missing_from
no_index = refl

no_index_of_none : lies_among (pos 1, pos 0) (Some ((pos 1, pos 1) ∷ [])) ≡ false
unfolding difference intersection complement missing_from
no_index_of_none = refl

nothing_of_none : lies_among (pos 1, pos 0) (Some []) ≡ true
unfolding difference intersection
nothing_of_none = refl

an_undefined_set : lies_among (pos 1, pos 3) None ≡ false
an_undefined_set = refl
