-- `inverse`: its cost, its line, and what its term tells.
use Rattle.std.proofs.Common.{◌≡◌, ◌∙◌, ℕ, ◌+◌, ◌*◌, ◌≤◌, ℤ, Bool, ◌&&◌, List, [], ◌∷◌, length, Option, Some, ap, arith}
use Rattle.std.specs.List.{list_all}
use Rattle.std.specs.Ordering.{int_eq}
use Rattle.mz_value.specs.Ranges.{Range}
use Rattle.mz_value.specs.Contents.{Content}
use Rattle.mz_value.specs.Contents as values
use Rattle.mz_operations.specs.Numbers.{same}
use Rattle.mz_operations.specs.Views.{◌>>=◌, as_int}
use Rattle.mz_globals.specs.declared.global.Global.TheVariants as global
use Rattle.mz_globals.specs.Graphs as graphs
use Rattle.mz_globals.specs.Lists.{numbered}
use Rattle.mz_globals.specs.Reading.{Placed, is_index, placed_at}
use Rattle.mz_globals.specs.Table.{line_of, truth}
use Rattle.mz_symbol.specs.Runs.{Run}
use Rattle.mz_symbol.specs.Readings.{Reading, Reads}
use Rattle.glob_nodes.specs.declared.arguments.Numbers.{Numbers}
use Rattle.glob_nodes.specs.declared.nodes.Compare.TheVariants.{Equal}
use Rattle.glob_nodes.specs.Says.{compares, num}
use Rattle.glob_nodes.specs.Arguments.{array_of}
use Rattle.glob_nodes.specs.Rows.{row_cost}
use Rattle.glob_nodes.proofs.Rows.{found, at_first, at_second}
use Rattle.glob_nodes.specs.Places.{indexed, known, AreNumbered}
use Rattle.glob_nodes.proofs.Indexing.{all_numbered, all_like, place_seen, numbered_seen, index_seen, element_seen, within_seen}
use Rattle.glob_nodes.proofs.Seen.{all_seen, both_same}
use Rattle.glob_nodes.proofs.Several.{same_two, placed, placed_of, placed_are, two_placed, AreElements}
use Rattle.glob_nodes.proofs.Squares.{below_square, product_below}
use Rattle.glob_graph.specs.Senses.{are_two_way, holds_indices, are_in_ranges, lead_back, are_inverse}

stretched : (b a : ℕ) → (24 * b + 6) * a ≡ 24 * (b * a) + 6 * a
stretched b a = grind arith

of_places : (a b m : ℕ) → a ≤ m → b ≤ m → a + b ≤ m → 24 * a + 24 * b + 6 + (24 * b + 6) * a + 6 + 12 ≤ 56 * (1 + m * m)
of_places a b m h i j =
    let same = stretched b a in
    let most = product_below b a m i h in
    let more = below_square m in
    omega (arith, same, most, more, h, j)

pub inverse_cost : (f g : List ℕ) → 24 * length f + 24 * length g + 6 + (24 * length g + 6) * length f + 6 + 12 ≤ 56 * row_cost global.Inverse (length f ∷ length g ∷ [])
unfolding line_of
inverse_cost f g = of_places (length f) (length g) (0 + length f + length g) (omega arith) (omega arith) (omega arith)

abbrev pair_of : (Placed ℤ → Placed ℤ → Bool) → Option (Placed ℤ) → Option (Placed ℤ) → Option Content
pair_of f o p = truth (o >>= λ us. p >>= λ vs. Some (f us vs))

pub inverse_line : (x y : Range) (o p : Option (List ℤ)) → (line_of global.Inverse).value (array_of x o ∷ array_of y p ∷ []) ≡ Some (values.bool (found (λ us. found (λ vs. graphs.are_inverse (placed x us) (placed y vs)) p) o))
unfolding line_of
inverse_line x y o p =
    same_two (pair_of graphs.are_inverse) (placed_at as_int (array_of x o ∷ array_of y p ∷ []) 0) (placed_of x o) (placed_at as_int (array_of x o ∷ array_of y p ∷ []) 1) (placed_of y p)
    (placed_are (array_of x o ∷ array_of y p ∷ []) 0 x o (at_first (array_of x o) (array_of y p ∷ [])))
    (placed_are (array_of x o ∷ array_of y p ∷ []) 1 y p (at_second (array_of x o) (array_of y p) []))
    ∙ two_placed graphs.are_inverse x y o p

-- ---- of the nodes of indices, of the indices

pub back_numbered : (old m1 m2 : Run) (f g : Numbers) (fs gs : List (ℕ × ℕ)) (r : Reading) → AreNumbered old m1 f.first f.items.items fs → AreNumbered m1 m2 g.first g.items.items gs → Reads r m1 → Reads r m2 → list_all (λ p. list_all (λ q. are_two_way r (indexed r p) (indexed r q)) gs) fs ≡ lead_back r f g
back_numbered old m1 m2 f g fs gs r t u h k =
    all_numbered old m1 f.first f.items.items fs r (λ p. list_all (λ q. are_two_way r p (indexed r q)) gs) t h
    ∙ all_like (λ p. list_all (λ q. are_two_way r (known p) (indexed r q)) gs) (λ p. list_all (λ q. are_two_way r (known p) (known q)) (numbered g.first g.items.items)) (numbered f.first f.items.items)
    (λ p. all_numbered m1 m2 g.first g.items.items gs r (λ q. are_two_way r (known p) q) u k)

-- ---- what is told of numbers

two_way_told : (r : Reading) (p q : ℤ × ℕ) (v w : ℤ × ℤ) → place_seen r p ≡ Some v → place_seen r q ≡ Some w → are_two_way r (known p) (known q) ≡ graphs.is_two_way v w
two_way_told r p q v w h k =
    ap (λ o. same (compares Equal o (Some q.0)) (compares Equal (num r q.1) (Some p.0))) (element_seen r p v h)
    ∙ ap (λ o. same (compares Equal (Some v.1) o) (compares Equal (num r q.1) (Some p.0))) (index_seen r q w k)
    ∙ ap (λ o. same (int_eq v.1 w.0) (compares Equal o (Some p.0))) (element_seen r q w k)
    ∙ ap (λ o. same (int_eq v.1 w.0) (compares Equal (Some w.1) o)) (index_seen r p v h)

pub inverse_told : (r : Reading) (f g : Numbers) (us vs : List ℤ) → AreElements r f us → AreElements r g vs → are_inverse r f g ≡ graphs.are_inverse (placed (f.first, f.last) us) (placed (g.first, g.last) vs)
inverse_told r f g us vs h k =
    both_same (are_in_ranges r f g) (lead_back r f g) (list_all (is_index (g.first, g.last)) us && list_all (is_index (f.first, f.last)) vs) (list_all (λ p. list_all (graphs.is_two_way p) (numbered g.first vs)) (numbered f.first us))
    (both_same (holds_indices r f g) (holds_indices r g f) (list_all (is_index (g.first, g.last)) us) (list_all (is_index (f.first, f.last)) vs) (within_seen r (g.first, g.last) f.items.items us h) (within_seen r (f.first, f.last) g.items.items vs k))
    (all_seen (place_seen r) (λ p. list_all (λ q. are_two_way r (known p) (known q)) (numbered g.first g.items.items)) (λ p. list_all (graphs.is_two_way p) (numbered g.first vs)) (numbered f.first f.items.items) (numbered f.first us)
    (λ p v i. all_seen (place_seen r) (λ q. are_two_way r (known p) (known q)) (graphs.is_two_way v) (numbered g.first g.items.items) (numbered g.first vs) (λ q w j. two_way_told r p q v w i j) (numbered_seen r g.first g.items.items vs k))
    (numbered_seen r f.first f.items.items us h))
