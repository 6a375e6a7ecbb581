-- `int_set_channel`: its cost, its line, and what its term tells. Sets of indices.
use Rattle.std.proofs.Common.{◌≡◌, ◌∙◌, ℕ, ◌+◌, ◌*◌, ◌≤◌, ℤ, pos, ◌+ℤ◌, Bool, ◌&&◌, List, [], ◌∷◌, length, map, Option, Some, None, refl, sym, ap, arith}
use Rattle.std.specs.List.{list_all}
use Rattle.std.specs.Ordering.{int_eq}
use Rattle.mz_value.specs.Ranges.{Range, range_of}
use Rattle.mz_value.specs.Contents.{Content}
use Rattle.mz_value.specs.Contents as values
use Rattle.mz_core.specs.declared.types.Base.TheVariants as base
use Rattle.mz_operations.specs.Numbers.{same}
use Rattle.mz_operations.specs.Sets.{is_subset}
use Rattle.mz_operations.specs.Views.{◌>>=◌, as_int}
use Rattle.mz_operations.specs.Views.{as_set as set_in}
use Rattle.mz_arena.specs.declared.node.NodeKind.TheVariants as kind
use Rattle.mz_arena.specs.Values.{Term, as_number, as_set, holds, is_member, is_true, set_comparison_term}
use Rattle.mz_arena.specs.Values as terms
use Rattle.mz_globals.specs.declared.global.Global.TheVariants as global
use Rattle.mz_globals.specs.Counting as counting
use Rattle.mz_globals.specs.Lists.{numbered}
use Rattle.mz_globals.specs.Reading.{Placed, is_index, placed_at}
use Rattle.mz_globals.specs.Table.{line_of, truth}
use Rattle.mz_symbol.specs.Runs.{Run}
use Rattle.mz_symbol.specs.Readings.{Reading, Reads}
use Rattle.mz_symbol.specs.Makes.{GoesOnBy}
use Rattle.glob_nodes.specs.declared.arguments.Numbers.{Numbers}
use Rattle.glob_nodes.specs.declared.nodes.Compare.TheVariants.{Equal}
use Rattle.glob_nodes.specs.Arguments.{array_value, elements, numbers_in, IsWhole}
use Rattle.glob_nodes.specs.Rows.{IsRow, row_cost}
use Rattle.glob_nodes.specs.Says.{Gives, Says, Tells, compares, num}
use Rattle.glob_nodes.specs.StepsNodes.{meaning_over}
use Rattle.glob_nodes.proofs.Rows.{found, at_first, at_second, array_found, row_by}
use Rattle.glob_nodes.proofs.Saying.{says_by}
use Rattle.glob_nodes.proofs.Telling.{says_then}
use Rattle.glob_nodes.specs.Places.{Place, indexed, known, AreNumbered}
use Rattle.glob_nodes.proofs.Indexing.{all_numbered, all_like, within_seen}
use Rattle.glob_nodes.proofs.Seen.{all_seen, both, both_first, both_second, both_same, cons_same, head_there, tail_there}
use Rattle.glob_nodes.proofs.Several.{same_two}
use Rattle.glob_nodes.proofs.Squares.{below_square, product_below}
use Rattle.glob_sets.specs.Arrays.{array_by, elements_by, elements_in, sets_value, AreSets}
use Rattle.glob_sets.specs.Senses.{all_belong, are_channel, belong, have_indices, is_part, lies_among, name_indices}
use Rattle.glob_sets.proofs.AtPlaces.{arrays_found, ints_read, placed, placed_are, placed_of, sets_read}
use Rattle.glob_sets.proofs.Elements.{items_found}

-- ---- sets of indices

pub range_by : (s : List Range) (i a j b : ℤ) → s ≡ range_of i j → i ≡ a → j ≡ b → s ≡ range_of a b
range_by s i a j b h p q = h ∙ same_two range_of i a j b p q

pub part_says : (old new : Run) (s t id : ℕ) → Gives old new (meaning_over kind.Subset s t) id → Says old new (λ r. is_part r s t) id
unfolding set_comparison_term
part_says old new s t id g = says_by old new (λ r. is_part r s t) id (record { same = g.same; is = g.is })

pub among_says : (old mid new : Run) (x : Range) (s places id m : ℕ) → Gives old mid (λ r. Some (terms.set (range_of x.0 x.1))) places → GoesOnBy m mid new → Says mid new (λ r. is_part r s places) id → Says old new (λ r. lies_among x (as_set (r.term s))) id
among_says old mid new x s places id m g goes t = record {
  same = λ r q. g.same r (goes.back r q) ∙ t.same r q;
  is = λ r q. t.is r q ∙ ap (λ u. terms.bit (holds (as_set (r.term s)) (as_set u) is_subset)) (g.is r (goes.back r q));
  tells = λ r q. t.tells r q ∙ ap (λ u. holds (as_set (r.term s)) (as_set u) is_subset) (g.is r (goes.back r q));
}

-- a set that is there
pub only_told : (x : Range) (s : List Range) → lies_among x (Some s) ≡ counting.holds_only x s
only_told x s = refl

-- ---- elements beside their indices

-- an index, and what an element is
abbrev pub spot_seen : {A : Type 0} → (Term → Option A) → Reading → ℤ × ℕ → Option (ℤ × A)
spot_seen see r p = both (Some p.0) (see (r.term p.1))

pub spots_seen : {A : Type 0} (see : Term → Option A) (r : Reading) (first : ℤ) (items : List ℕ) (vs : List A) → map (λ id. see (r.term id)) items ≡ map (λ n. Some n) vs → map (spot_seen see r) (numbered first items) ≡ map (λ n. Some n) (numbered first vs)
spots_seen see r first [] [] h = refl
spots_seen see r first [] (v ∷ vs) h = absurd (cc)
spots_seen see r first (x ∷ xs) [] h = absurd (cc)
spots_seen see r first (x ∷ xs) (v ∷ vs) h =
    cons_same (both (Some first) (see (r.term x))) (Some (first, v)) (map (spot_seen see r) (numbered (first +ℤ pos 1) xs)) (map (λ n. Some n) (numbered (first +ℤ pos 1) vs))
    (ap (both (Some first)) (head_there (see (r.term x)) (map (λ id. see (r.term id)) xs) v vs h))
    (spots_seen see r (first +ℤ pos 1) xs vs (tail_there (see (r.term x)) (map (λ id. see (r.term id)) xs) v vs h))

-- of the nodes of indices, of the indices
pub pairs_numbered : (old m1 m2 : Run) (x y : Numbers) (ps qs : List (ℕ × ℕ)) (r : Reading) (f : Place → Place → Bool) → AreNumbered old m1 x.first x.items.items ps → AreNumbered m1 m2 y.first y.items.items qs → Reads r m1 → Reads r m2 → list_all (λ p. list_all (λ q. f (indexed r p) (indexed r q)) qs) ps ≡ list_all (λ p. list_all (λ q. f (known p) (known q)) (numbered y.first y.items.items)) (numbered x.first x.items.items)
pairs_numbered old m1 m2 x y ps qs r f t u h k =
    all_numbered old m1 x.first x.items.items ps r (λ p. list_all (λ q. f p (indexed r q)) qs) t h
    ∙ all_like (λ p. list_all (λ q. f (known p) (indexed r q)) qs) (λ p. list_all (λ q. f (known p) (known q)) (numbered y.first y.items.items)) (numbered x.first x.items.items)
    (λ p. all_numbered m1 m2 y.first y.items.items qs r (λ q. f (known p) q) u k)

-- ---- what is told of integers and sets

belong_told : (r : Reading) (p q : ℤ × ℕ) (v : ℤ × ℤ) (w : ℤ × List Range) → spot_seen as_number r p ≡ Some v → spot_seen as_set r q ≡ Some w → belong r (known p) (known q) ≡ counting.is_channel v w
belong_told r p q v w h k =
    ap (λ o. same (compares Equal o (Some q.0)) (is_member (Some p.0) (as_set (r.term q.1)))) (both_second (Some p.0) (num r p.1) v h)
    ∙ ap (λ o. same (compares Equal (Some v.1) o) (is_member (Some p.0) (as_set (r.term q.1)))) (both_first (Some q.0) (as_set (r.term q.1)) w k)
    ∙ ap (λ o. same (int_eq v.1 w.0) (is_member o (as_set (r.term q.1)))) (both_first (Some p.0) (num r p.1) v h)
    ∙ ap (λ o. same (int_eq v.1 w.0) (is_member (Some v.0) o)) (both_second (Some q.0) (as_set (r.term q.1)) w k)

channel_told : (r : Reading) (x y : Numbers) (us : List ℤ) (vs : List (List Range)) → elements r x ≡ map (λ n. Some n) us → elements_by as_set r y ≡ map (λ n. Some n) vs → are_channel r x y ≡ counting.channels (placed (x.first, x.last) us) (placed (y.first, y.last) vs)
channel_told r x y us vs h k =
    both_same (name_indices r x y && have_indices r x y) (all_belong r x y) (list_all (is_index (y.first, y.last)) us && list_all (counting.holds_only (x.first, x.last)) vs) (list_all (λ p. list_all (counting.is_channel p) (numbered y.first vs)) (numbered x.first us))
    (both_same (name_indices r x y) (have_indices r x y) (list_all (is_index (y.first, y.last)) us) (list_all (counting.holds_only (x.first, x.last)) vs)
    (within_seen r (y.first, y.last) x.items.items us h)
    (all_seen (λ id. as_set (r.term id)) (λ id. lies_among (x.first, x.last) (as_set (r.term id))) (counting.holds_only (x.first, x.last)) y.items.items vs (λ id s i. ap (lies_among (x.first, x.last)) i ∙ only_told (x.first, x.last) s) k))
    (all_seen (spot_seen as_number r) (λ p. list_all (λ q. belong r (known p) (known q)) (numbered y.first y.items.items)) (λ p. list_all (counting.is_channel p) (numbered y.first vs)) (numbered x.first x.items.items) (numbered x.first us)
    (λ p v i. all_seen (spot_seen as_set r) (λ q. belong r (known p) (known q)) (counting.is_channel v) (numbered y.first y.items.items) (numbered y.first vs) (λ q w j. belong_told r p q v w i j) (spots_seen as_set r y.first y.items.items vs k))
    (spots_seen as_number r x.first x.items.items us h))

-- ---- the row

abbrev channel_of : Option (Placed ℤ) → Option (Placed (List Range)) → Option Content
channel_of o p = truth (o >>= λ us. p >>= λ vs. Some (counting.channels us vs))

channel_line : (x y : Range) (o : Option (List ℤ)) (p : Option (List (List Range))) → (line_of global.Channel).value (array_by values.int x o ∷ array_by (values.set None) y p ∷ []) ≡ Some (values.bool (found (λ us. found (λ vs. counting.channels (placed x us) (placed y vs)) p) o))
unfolding line_of
channel_line x y o p =
    same_two channel_of (placed_at as_int (array_by values.int x o ∷ array_by (values.set None) y p ∷ []) 0) (placed_of x o) (placed_at set_in (array_by values.int x o ∷ array_by (values.set None) y p ∷ []) 1) (placed_of y p)
    (placed_are as_int values.int (array_by values.int x o ∷ array_by (values.set None) y p ∷ []) 0 x o ints_read (at_first (array_by values.int x o) (array_by (values.set None) y p ∷ [])))
    (placed_are set_in (values.set None) (array_by values.int x o ∷ array_by (values.set None) y p ∷ []) 1 y p sets_read (at_second (array_by values.int x o) (array_by (values.set None) y p) []))
    ∙ arrays_found counting.channels x y o p

pub channel_row : (old mid new : Run) (x y : Numbers) (body id n m : ℕ)
    → IsWhole old x
    → AreSets old y
    → GoesOnBy n old mid
    → Tells old mid (λ r. are_channel r x y) body
    → GoesOnBy m mid new
    → Says mid new (λ r. is_true (r.term x.defined) && (is_true (r.term y.defined) && is_true (r.term body))) id
    → IsRow base.Bool old new global.Channel (λ r. array_value r x ∷ sets_value r y ∷ []) id
channel_row old mid new x y body id n m wx wy before t goes s =
    row_by old new global.Channel (λ r. array_value r x ∷ sets_value r y ∷ []) (λ r. is_true (r.term x.defined) && (is_true (r.term y.defined) && are_channel r x y)) id
    (λ r q. ap (λ p. Some (values.bool p)) (array_found (is_true (r.term x.defined)) (elements r x) (is_true (r.term y.defined) && are_channel r x y) (λ us. found (λ vs. counting.channels (placed (x.first, x.last) us) (placed (y.first, y.last) vs)) (elements_in as_set r y)) (wx r (before.back r (goes.back r q)))
    (λ us h. items_found (is_true (r.term y.defined)) (elements_by as_set r y) (are_channel r x y) (λ vs. counting.channels (placed (x.first, x.last) us) (placed (y.first, y.last) vs)) (wy r (before.back r (goes.back r q)))
    (λ vs k. channel_told r x y us vs h k)))
    ∙ sym (channel_line (x.first, x.last) (y.first, y.last) (numbers_in r x) (elements_in as_set r y)))
    (says_then old mid new (λ r. are_channel r x y) _ (λ r p. is_true (r.term x.defined) && (is_true (r.term y.defined) && p)) body id m t goes s (λ r. refl))

-- ---- the cost

stretched : (b a : ℕ) → (24 * b + 6) * a ≡ 24 * (b * a) + 6 * a
stretched b a = grind arith

of_places : (a b m : ℕ) → a ≤ m → b ≤ m → a + b ≤ m → 24 * a + 12 * b + 6 + (24 * b + 6) * a + 6 + 12 ≤ 56 * (1 + m * m)
of_places a b m h i j =
    let same = stretched b a in
    let most = product_below b a m i h in
    let more = below_square m in
    omega (arith, same, most, more, h, j)

pub channel_cost : (xs ys : List ℕ) → 24 * length xs + 12 * length ys + 6 + (24 * length ys + 6) * length xs + 6 + 12 ≤ 56 * row_cost global.Channel (length xs ∷ length ys ∷ [])
unfolding line_of
channel_cost xs ys = of_places (length xs) (length ys) (0 + length xs + length ys) (omega arith) (omega arith) (omega arith)
