-- `element`: its cost, its line, and what its term tells.
use Rattle.std.proofs.Common.{◌≡◌, ◌∙◌, ℕ, zero, suc, ◌+◌, ◌*◌, ◌≤◌, ℤ, pos, negsuc, ◌+ℤ◌, ◌-ℤ◌, Bool, true, false, ◌&&◌, ◌||◌, List, [], ◌∷◌, length, map, Option, Some, None, refl, sym, ap, arith}
use Rattle.std.proofs.lemmas.Int.{ints}
use Rattle.std.specs.List.{list_any}
use Rattle.std.specs.Option.{option_map}
use Rattle.std.specs.Ordering.{int_eq}
use Rattle.mz_value.specs.Ranges.{Range}
use Rattle.mz_value.specs.Contents.{Content}
use Rattle.mz_value.specs.Contents as values
use Rattle.mz_operations.specs.Arguments.{int_at}
use Rattle.mz_operations.specs.Views.{◌>>=◌, as_int}
use Rattle.mz_globals.specs.declared.global.Global.TheVariants as global
use Rattle.mz_globals.specs.Graphs as graphs
use Rattle.mz_globals.specs.Lists.{numbered}
use Rattle.mz_globals.specs.Order.{is_number_of}
use Rattle.mz_globals.specs.Reading.{Placed, placed_at}
use Rattle.mz_globals.specs.Table.{line_of, truth}
use Rattle.mz_symbol.specs.Runs.{Run}
use Rattle.mz_symbol.specs.Readings.{Reading, Reads}
use Rattle.glob_nodes.specs.declared.arguments.Numbers.{Numbers}
use Rattle.glob_nodes.specs.declared.nodes.Compare.TheVariants.{Equal}
use Rattle.glob_nodes.specs.Says.{compares, num}
use Rattle.glob_nodes.specs.Arguments.{array_of}
use Rattle.glob_nodes.specs.Rows.{row_cost}
use Rattle.glob_nodes.proofs.Rows.{found, int_is, at_first, at_second, at_third}
use Rattle.glob_nodes.specs.Places.{Place, indexed, known, AreNumbered}
use Rattle.glob_nodes.proofs.Indexing.{place_seen, numbered_seen, index_seen, element_seen}
use Rattle.glob_nodes.proofs.Seen.{any_seen, both_same}
use Rattle.glob_nodes.proofs.Several.{same_three, placed, placed_of, placed_are, AreElements}
use Rattle.glob_graph.specs.Senses.{is_place}

pub element_cost : {A : Type 0} (xs : List A) → 24 * length xs + 30 ≤ 56 * row_cost global.Element (1 ∷ length xs ∷ 1 ∷ [])
unfolding line_of
element_cost xs = omega arith

abbrev element_of : Option ℤ → Option (Placed ℤ) → Option ℤ → Option Content
element_of i x y = truth (i >>= λ n. x >>= λ ns. y >>= λ m. Some (graphs.is_element n ns m))

-- i and y, then the array
abbrev pub has_element : Range → ℤ → ℤ → List ℤ → Bool
has_element x n m ns = graphs.is_element n (placed x ns) m

element_found : (x : Range) (i : Option ℤ) (o : Option (List ℤ)) (y : Option ℤ) → element_of i (placed_of x o) y ≡ Some (values.bool (found (λ n. found (λ m. found (has_element x n m) o) y) i))
element_found x None o y = refl
element_found x (Some n) None None = refl
element_found x (Some n) None (Some m) = refl
element_found x (Some n) (Some ns) None = refl
element_found x (Some n) (Some ns) (Some m) = refl

pub element_line : (x : Range) (i : Option ℤ) (o : Option (List ℤ)) (y : Option ℤ) → (line_of global.Element).value (option_map values.int i ∷ array_of x o ∷ option_map values.int y ∷ []) ≡ Some (values.bool (found (λ n. found (λ m. found (has_element x n m) o) y) i))
unfolding line_of
element_line x i o y =
    same_three element_of (int_at (option_map values.int i ∷ array_of x o ∷ option_map values.int y ∷ []) 0) i (placed_at as_int (option_map values.int i ∷ array_of x o ∷ option_map values.int y ∷ []) 1) (placed_of x o) (int_at (option_map values.int i ∷ array_of x o ∷ option_map values.int y ∷ []) 2) y
    (int_is (option_map values.int i ∷ array_of x o ∷ option_map values.int y ∷ []) 0 i (at_first (option_map values.int i) (array_of x o ∷ option_map values.int y ∷ [])))
    (placed_are (option_map values.int i ∷ array_of x o ∷ option_map values.int y ∷ []) 1 x o (at_second (option_map values.int i) (array_of x o) (option_map values.int y ∷ [])))
    (int_is (option_map values.int i ∷ array_of x o ∷ option_map values.int y ∷ []) 2 y (at_third (option_map values.int i) (array_of x o) (option_map values.int y) []))
    ∙ element_found x i o y

-- ---- some place, and the place

any_map : {A B : Type 0} (p : B → Bool) (g : A → B) (xs : List A) → list_any (λ x. p (g x)) xs ≡ list_any p (map g xs)
any_map p g [] = refl
any_map p g (x ∷ xs) = ap (λ b. p (g x) || b) (any_map p g xs)

-- of the nodes of the indices, of the indices
pub any_numbered : (old new : Run) (first : ℤ) (items : List ℕ) (ps : List (ℕ × ℕ)) (r : Reading) (q : Place → Bool) → AreNumbered old new first items ps → Reads r new → list_any (λ p. q (indexed r p)) ps ≡ list_any (λ p. q (known p)) (numbered first items)
any_numbered old new first items ps r q t h = any_map q (indexed r) ps ∙ ap (list_any q) (t.are r h) ∙ sym (any_map q known (numbered first items))

abbrev is_number_at : ℤ → ℤ → ℤ × ℤ → Bool
is_number_at n m p = int_eq n p.0 && int_eq p.1 m

same_index : (first : ℤ) → int_eq (first +ℤ pos 0) first ≡ true
same_index first = grind (arith, ints)

after_index : (first : ℤ) (k : ℕ) → int_eq (first +ℤ pos (suc k)) first ≡ false
after_index first k = grind (arith, ints)

before_index : (first : ℤ) (k : ℕ) → int_eq (first +ℤ negsuc k) first ≡ false
before_index first k = grind (arith, ints)

one_before : (first : ℤ) → first +ℤ pos 0 ≡ (first +ℤ pos 1) +ℤ negsuc 0
one_before first = grind (arith, ints)

still_before : (first : ℤ) (k : ℕ) → first +ℤ negsuc k ≡ (first +ℤ pos 1) +ℤ negsuc (suc k)
still_before first k = grind (arith, ints)

still_after : (first : ℤ) (k : ℕ) → first +ℤ pos (suc k) ≡ (first +ℤ pos 1) +ℤ pos k
still_after first k = grind (arith, ints)

or_false : (b : Bool) → (b || false) ≡ b
or_false true = refl
or_false false = refl

-- by how far the index is after the first
some_number : (first d m : ℤ) (ns : List ℤ) → list_any (is_number_at (first +ℤ d) m) (numbered first ns) ≡ is_number_of (graphs.nth d ns) m
some_number first (pos k) m [] = refl
some_number first (negsuc k) m [] = refl
some_number first (pos zero) m (n ∷ ns) =
    ap (λ b. (b && int_eq n m) || list_any (is_number_at (first +ℤ pos 0) m) (numbered (first +ℤ pos 1) ns)) (same_index first)
    ∙ ap (λ i. int_eq n m || list_any (is_number_at i m) (numbered (first +ℤ pos 1) ns)) (one_before first)
    ∙ ap (λ b. int_eq n m || b) (some_number (first +ℤ pos 1) (negsuc 0) m ns)
    ∙ or_false (int_eq n m)
some_number first (pos (suc k)) m (n ∷ ns) =
    ap (λ b. (b && int_eq n m) || list_any (is_number_at (first +ℤ pos (suc k)) m) (numbered (first +ℤ pos 1) ns)) (after_index first k)
    ∙ ap (λ i. list_any (is_number_at i m) (numbered (first +ℤ pos 1) ns)) (still_after first k)
    ∙ some_number (first +ℤ pos 1) (pos k) m ns
some_number first (negsuc k) m (n ∷ ns) =
    ap (λ b. (b && int_eq n m) || list_any (is_number_at (first +ℤ negsuc k) m) (numbered (first +ℤ pos 1) ns)) (before_index first k)
    ∙ ap (λ i. list_any (is_number_at i m) (numbered (first +ℤ pos 1) ns)) (still_before first k)
    ∙ some_number (first +ℤ pos 1) (negsuc (suc k)) m ns

moved_back : (first n : ℤ) → n ≡ first +ℤ (n -ℤ first)
moved_back first n = grind (arith, ints)

some_element : (first n m : ℤ) (ns : List ℤ) → list_any (is_number_at n m) (numbered first ns) ≡ is_number_of (graphs.nth (n -ℤ first) ns) m
some_element first n m ns = ap (λ i. list_any (is_number_at i m) (numbered first ns)) (moved_back first n) ∙ some_number first (n -ℤ first) m ns

place_told : (r : Reading) (i y : ℕ) (n m : ℤ) → num r i ≡ Some n → num r y ≡ Some m → (p : ℤ × ℕ) (v : ℤ × ℤ) → place_seen r p ≡ Some v → is_place r i y (known p) ≡ is_number_at n m v
place_told r i y n m h k p v e =
    both_same (compares Equal (num r i) (Some p.0)) (compares Equal (num r p.1) (num r y)) (int_eq n v.0) (int_eq v.1 m)
    (ap (λ o. compares Equal o (Some p.0)) h ∙ ap (compares Equal (Some n)) (index_seen r p v e))
    (ap (λ o. compares Equal o (num r y)) (element_seen r p v e) ∙ ap (compares Equal (Some v.1)) k)

pub element_told : (r : Reading) (i y : ℕ) (xs : Numbers) (n m : ℤ) (ns : List ℤ) → num r i ≡ Some n → num r y ≡ Some m → AreElements r xs ns → list_any (λ p. is_place r i y (known p)) (numbered xs.first xs.items.items) ≡ has_element (xs.first, xs.last) n m ns
element_told r i y xs n m ns h k e =
    any_seen (place_seen r) (λ p. is_place r i y (known p)) (is_number_at n m) (numbered xs.first xs.items.items) (numbered xs.first ns) (place_told r i y n m h k) (numbered_seen r xs.first xs.items.items ns e)
    ∙ some_element xs.first n m ns
