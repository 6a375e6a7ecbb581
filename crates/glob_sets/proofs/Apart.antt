-- `all_disjoint`: its cost, its line, and what its term tells.
use Rattle.std.proofs.Common.{◌≡◌, ◌∙◌, ℕ, suc, ◌+◌, ◌*◌, ◌≤◌, nat_eq, Bool, false, ◌&&◌, List, [], ◌∷◌, length, map, Option, Some, None, refl, sym, ap, arith}
use Rattle.std.proofs.lemmas.Bool.Decides.{nat_tests}
use Rattle.mz_value.specs.Ranges.{Range}
use Rattle.mz_value.specs.Contents as values
use Rattle.mz_core.specs.declared.types.Base.TheVariants as base
use Rattle.mz_operations.specs.declared.row.SetOp.{SetOp}
use Rattle.mz_operations.specs.declared.row.SetOp.TheVariants as rows
use Rattle.mz_operations.specs.Sets.{combined, intersection, is_empty_set, same_set}
use Rattle.mz_operations.specs.Views.{◌>>=◌}
use Rattle.mz_operations.specs.Views.{as_set as set_in}
use Rattle.mz_arena.specs.declared.node.NodeKind.TheVariants as kind
use Rattle.mz_arena.specs.Values.{Term, as_set, holds, is_true, set_comparison_term, set_term}
use Rattle.mz_arena.specs.Values as terms
use Rattle.mz_globals.specs.declared.global.Global.TheVariants as global
use Rattle.mz_globals.specs.Counting as counting
use Rattle.mz_globals.specs.Lists.{pairwise}
use Rattle.mz_globals.specs.Table.{line_of, truth}
use Rattle.mz_symbol.specs.Runs.{Run}
use Rattle.mz_symbol.specs.Readings.{Reading}
use Rattle.mz_symbol.specs.Makes.{GoesOnBy}
use Rattle.glob_nodes.specs.declared.arguments.Numbers.{Numbers}
use Rattle.glob_nodes.specs.Rows.{IsRow, row_cost}
use Rattle.glob_nodes.specs.Says.{Gives, Says, Tells, pair_count}
use Rattle.glob_nodes.specs.StepsNodes.{meaning_over}
use Rattle.glob_nodes.proofs.Rows.{found, at_first, one_found, row_by}
use Rattle.glob_nodes.proofs.Saying.{says_by}
use Rattle.glob_nodes.proofs.Seen.{pairs_seen}
use Rattle.glob_nodes.proofs.Squares.{pairs_within}
use Rattle.glob_sets.specs.Arrays.{array_by, elements_by, elements_in, sets_value, AreSets, IsSet}
use Rattle.glob_sets.specs.Senses.{are_apart, all_apart}
use Rattle.glob_sets.proofs.AtPlaces.{elements_are, sets_read}
use Rattle.glob_sets.proofs.Elements.{items_found}

-- ---- nodes

pub equal_says : (old new : Run) (s t id : ℕ) → Gives old new (meaning_over kind.SetEq s t) id → Says old new (λ r. holds (as_set (r.term s)) (as_set (r.term t)) same_set) id
unfolding set_comparison_term
equal_says old new s t id g = says_by old new (λ r. holds (as_set (r.term s)) (as_set (r.term t)) same_set) id (record { same = g.same; is = g.is })

pub apart_says : (old mid new : Run) (x y none common id m : ℕ) → Gives old mid (meaning_over kind.Intersect x y) common → GoesOnBy m mid new → Says mid new (λ r. holds (as_set (r.term common)) (as_set (r.term none)) same_set) id → Says old new (λ r. are_apart r none x y) id
apart_says old mid new x y none common id m g goes s = record {
  same = λ r q. g.same r (goes.back r q) ∙ s.same r q;
  is = λ r q. s.is r q ∙ ap (λ t. terms.bit (holds (as_set t) (as_set (r.term none)) same_set)) (g.is r (goes.back r q));
  tells = λ r q. s.tells r q ∙ ap (λ t. holds (as_set t) (as_set (r.term none)) same_set) (g.is r (goes.back r q));
}

-- two sets combined
pub both_sets : (op : SetOp) (t u : Term) (v w : List Range) → as_set t ≡ Some v → as_set u ≡ Some w → as_set (set_term op t u) ≡ Some (combined op v w)
unfolding set_term
both_sets op t u v w h k =
    ap (λ o. as_set (o >>= λ a. as_set u >>= λ b. Some (terms.set (combined op a b)))) h
    ∙ ap (λ o. as_set (o >>= λ b. Some (terms.set (combined op v b)))) k

common_is : (v w : List Range) → combined rows.Intersect v w ≡ intersection v w
unfolding combined
common_is v w = refl

some_length : (n : ℕ) → nat_eq (suc n) 0 ≡ false
some_length n = grind (arith, nat_tests)

is_empty : (s : List Range) → same_set s [] ≡ is_empty_set s
unfolding same_set
is_empty [] = refl
is_empty (r ∷ s) = sym (some_length (length s))

two_apart : (r : Reading) (none x y : ℕ) (v w : List Range) → r.term none ≡ Some (terms.set []) → as_set (r.term x) ≡ Some v → as_set (r.term y) ≡ Some w → are_apart r none x y ≡ counting.are_apart v w
two_apart r none x y v w e h k =
    ap (λ o. holds o (as_set (r.term none)) same_set) (both_sets rows.Intersect (r.term x) (r.term y) v w h k)
    ∙ ap (λ t. holds (Some (combined rows.Intersect v w)) (as_set t) same_set) e
    ∙ ap (λ s. same_set s []) (common_is v w)
    ∙ is_empty (intersection v w)

pub apart_told : (r : Reading) (none : ℕ) (ids : List ℕ) (ss : List (List Range)) → r.term none ≡ Some (terms.set []) → map (λ id. as_set (r.term id)) ids ≡ map (λ n. Some n) ss → pairwise (are_apart r none) ids ≡ counting.all_disjoint ss
apart_told r none ids ss e h = pairs_seen (λ id. as_set (r.term id)) (are_apart r none) counting.are_apart ids ss (λ x y v w i j. two_apart r none x y v w e i j) h

-- ---- the row

disjoint_line : (x : Range) (o : Option (List (List Range))) → (line_of global.Disjoint).value (array_by (values.set None) x o ∷ []) ≡ Some (values.bool (found counting.all_disjoint o))
unfolding line_of
disjoint_line x o = ap (λ p. truth (p >>= λ ss. Some (counting.all_disjoint ss))) (elements_are set_in (values.set None) (array_by (values.set None) x o ∷ []) 0 x o sets_read (at_first (array_by (values.set None) x o) [])) ∙ one_found counting.all_disjoint o

pub disjoint_row : (old mid new : Run) (a : Numbers) (none body id n m : ℕ)
    → AreSets old a
    → IsSet old none []
    → GoesOnBy n old mid
    → Tells old mid (λ r. all_apart r none a) body
    → GoesOnBy m mid new
    → Says mid new (λ r. is_true (r.term a.defined) && is_true (r.term body)) id
    → IsRow base.Bool old new global.Disjoint (λ r. sets_value r a ∷ []) id
disjoint_row old mid new a none body id n m whole empty before t goes s =
    row_by old new global.Disjoint (λ r. sets_value r a ∷ []) (λ r. is_true (r.term a.defined) && is_true (r.term body)) id
    (λ r q. ap (λ p. Some (values.bool p)) (items_found (is_true (r.term a.defined)) (elements_by as_set r a) (is_true (r.term body)) counting.all_disjoint (whole r (before.back r (goes.back r q)))
    (λ ss h. t.tells r (goes.back r q) ∙ apart_told r none a.items.items ss (empty r (before.back r (goes.back r q))) h))
    ∙ sym (disjoint_line (a.first, a.last) (elements_in as_set r a)))
    (record { same = λ r q. t.same r (goes.back r q) ∙ s.same r q; is = s.is; tells = s.tells })

-- ---- the cost

pub same_square : (n : ℕ) → n * n ≤ (0 + n) * (0 + n)
same_square n = grind arith

pub disjoint_cost : (ids : List ℕ) → 16 * pair_count ids + 6 ≤ 56 * row_cost global.Disjoint (length ids ∷ [])
unfolding line_of
disjoint_cost ids = of_pairs (pair_count ids) (length ids) (pairs_within ids)
  where
    of_pairs : (p n : ℕ) → p ≤ n * n → 16 * p + 6 ≤ 56 * (1 + (0 + n) * (0 + n))
    of_pairs p n h = let same = same_square n in omega (arith, h, same)
