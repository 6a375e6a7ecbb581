-- `link_set_to_booleans`: its cost, its line, and what its term tells.
use Rattle.std.proofs.Common.{◌≡◌, ◌∙◌, ℕ, ◌+◌, ◌*◌, ◌≤◌, ℤ, Bool, ◌&&◌, List, [], ◌∷◌, length, map, Option, Some, None, is_some, refl, sym, ap, arith}
use Rattle.std.specs.List.{list_all}
use Rattle.std.specs.Option.{option_map}
use Rattle.mz_value.specs.Ranges.{Range}
use Rattle.mz_value.specs.Contents.{Content}
use Rattle.mz_value.specs.Contents as values
use Rattle.mz_core.specs.declared.types.Base.TheVariants as base
use Rattle.mz_operations.specs.Arguments.{set_at}
use Rattle.mz_operations.specs.Numbers.{same}
use Rattle.mz_operations.specs.Sets.{contains}
use Rattle.mz_operations.specs.Views.{◌>>=◌, as_bool}
use Rattle.mz_instance.specs.Contents.{is_one}
use Rattle.mz_arena.specs.Values.{Term, as_number, as_set, is_member, is_true}
use Rattle.mz_arena.specs.Values as terms
use Rattle.mz_globals.specs.declared.global.Global.TheVariants as global
use Rattle.mz_globals.specs.Counting as counting
use Rattle.mz_globals.specs.Lists.{numbered}
use Rattle.mz_globals.specs.Reading.{Placed, placed_at}
use Rattle.mz_globals.specs.Table.{line_of, truth}
use Rattle.mz_symbol.specs.Runs.{Run}
use Rattle.mz_symbol.specs.Readings.{Reading}
use Rattle.mz_symbol.specs.Makes.{GoesOnBy}
use Rattle.glob_nodes.specs.declared.arguments.Numbers.{Numbers}
use Rattle.glob_nodes.specs.Rows.{IsRow, row_cost}
use Rattle.glob_nodes.specs.Says.{Says, Tells}
use Rattle.glob_nodes.proofs.Rows.{found, at_first, at_second, row_by}
use Rattle.glob_nodes.proofs.Telling.{says_then}
use Rattle.glob_nodes.specs.Places.{known}
use Rattle.glob_nodes.specs.Sets.{set_value}
use Rattle.glob_nodes.proofs.Seen.{all_seen, both_first, both_second, both_same}
use Rattle.glob_nodes.proofs.SetNodes.{set_is, set_found}
use Rattle.glob_nodes.proofs.Several.{same_two}
use Rattle.glob_sets.specs.Arrays.{array_by, elements_by, elements_in, truth_of, truths_value, AreTruths}
use Rattle.glob_sets.specs.Senses.{all_linked, are_linked, is_linked, lies_among}
use Rattle.glob_sets.proofs.AtPlaces.{array_found_of, bools_read, placed, placed_are, placed_of}
use Rattle.glob_sets.proofs.Belonging.{only_told, spot_seen, spots_seen}
use Rattle.glob_sets.proofs.Elements.{items_found}

-- ---- what is told of a set and Booleans

true_there : (t : Term) (b : Bool) → truth_of t ≡ Some b → is_true t ≡ b
true_there t b h = by (as_number t) h
  where
    by : (o : Option ℤ) → option_map is_one o ≡ Some b → terms.is_one o ≡ b
    by None e = absurd (cc)
    by (Some n) e = cc

linked_told : (r : Reading) (s : ℕ) (p : ℤ × ℕ) (u : List Range) (w : ℤ × Bool) → as_set (r.term s) ≡ Some u → spot_seen truth_of r p ≡ Some w → is_linked r s (known p) ≡ counting.is_link u w
linked_told r s p u w e h =
    ap (λ o. same (is_member (Some p.0) o) (is_true (r.term p.1))) e
    ∙ ap (λ o. same (is_member o (Some u)) (is_true (r.term p.1))) (both_first (Some p.0) (truth_of (r.term p.1)) w h)
    ∙ ap (same (contains u w.0)) (true_there (r.term p.1) w.1 (both_second (Some p.0) (truth_of (r.term p.1)) w h))

link_told : (r : Reading) (s : ℕ) (b : Numbers) (u : List Range) (vs : List Bool) → as_set (r.term s) ≡ Some u → elements_by truth_of r b ≡ map (λ n. Some n) vs → are_linked r s b ≡ counting.links u (placed (b.first, b.last) vs)
link_told r s b u vs e h =
    both_same (lies_among (b.first, b.last) (as_set (r.term s))) (all_linked r s b) (counting.holds_only (b.first, b.last) u) (list_all (counting.is_link u) (numbered b.first vs))
    (ap (lies_among (b.first, b.last)) e ∙ only_told (b.first, b.last) u)
    (all_seen (spot_seen truth_of r) (λ p. is_linked r s (known p)) (counting.is_link u) (numbered b.first b.items.items) (numbered b.first vs) (λ p w i. linked_told r s p u w e i) (spots_seen truth_of r b.first b.items.items vs h))

-- ---- the row

abbrev link_of : Option (List Range) → Option (Placed Bool) → Option Content
link_of o p = truth (o >>= λ u. p >>= λ vs. Some (counting.links u vs))

link_line : (y : Range) (o : Option (List Range)) (p : Option (List Bool)) → (line_of global.Link).value (option_map (values.set None) o ∷ array_by values.bool y p ∷ []) ≡ Some (values.bool (found (λ u. found (λ vs. counting.links u (placed y vs)) p) o))
unfolding line_of
link_line y o p =
    same_two link_of (set_at (option_map (values.set None) o ∷ array_by values.bool y p ∷ []) 0) o (placed_at as_bool (option_map (values.set None) o ∷ array_by values.bool y p ∷ []) 1) (placed_of y p)
    (set_is (option_map (values.set None) o ∷ array_by values.bool y p ∷ []) 0 o (at_first (option_map (values.set None) o) (array_by values.bool y p ∷ [])))
    (placed_are as_bool values.bool (option_map (values.set None) o ∷ array_by values.bool y p ∷ []) 1 y p bools_read (at_second (option_map (values.set None) o) (array_by values.bool y p) []))
    ∙ array_found_of counting.links y o p

pub link_row : (old mid new : Run) (s : ℕ) (b : Numbers) (body id n m : ℕ)
    → AreTruths old b
    → GoesOnBy n old mid
    → Tells old mid (λ r. are_linked r s b) body
    → GoesOnBy m mid new
    → Says mid new (λ r. is_some (as_set (r.term s)) && (is_true (r.term b.defined) && is_true (r.term body))) id
    → IsRow base.Bool old new global.Link (λ r. set_value r s ∷ truths_value r b ∷ []) id
link_row old mid new s b body id n m wb before t goes says =
    row_by old new global.Link (λ r. set_value r s ∷ truths_value r b ∷ []) (λ r. is_some (as_set (r.term s)) && (is_true (r.term b.defined) && are_linked r s b)) id
    (λ r q. ap (λ p. Some (values.bool p)) (set_found (as_set (r.term s)) (is_true (r.term b.defined) && are_linked r s b) (λ u. found (λ vs. counting.links u (placed (b.first, b.last) vs)) (elements_in truth_of r b))
    (λ u e. items_found (is_true (r.term b.defined)) (elements_by truth_of r b) (are_linked r s b) (λ vs. counting.links u (placed (b.first, b.last) vs)) (wb r (before.back r (goes.back r q)))
    (λ vs h. link_told r s b u vs e h)))
    ∙ sym (link_line (b.first, b.last) (as_set (r.term s)) (elements_in truth_of r b)))
    (says_then old mid new (λ r. are_linked r s b) _ (λ r p. is_some (as_set (r.term s)) && (is_true (r.term b.defined) && p)) body id m t goes says (λ r. refl))

-- ---- the cost

pub link_cost : (bs : List ℕ) → 6 + 18 * length bs + 6 + 18 ≤ 56 * row_cost global.Link (0 ∷ length bs ∷ [])
unfolding line_of
link_cost bs = omega arith
