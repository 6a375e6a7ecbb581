-- `partition_set`: its cost, its line, and what its term tells.
use Rattle.std.proofs.Common.{◌≡◌, ◌∙◌, ℕ, suc, ◌+◌, ◌*◌, ◌<◌, ◌≤◌, ◌&&◌, List, [], ◌∷◌, length, map, drop, slice_index_or, Option, Some, None, is_some, refl, sym, ap, subst, arith}
use Rattle.std.specs.Option.{option_map}
use Rattle.mz_value.specs.Ranges.{Range}
use Rattle.mz_value.specs.Contents.{Content}
use Rattle.mz_value.specs.Contents as values
use Rattle.mz_core.specs.declared.types.Base.TheVariants as base
use Rattle.mz_operations.specs.declared.row.SetOp.TheVariants as rows
use Rattle.mz_operations.specs.Arguments as arguments
use Rattle.mz_operations.specs.Sets.{combined, same_set, union}
use Rattle.mz_operations.specs.Views.{◌>>=◌}
use Rattle.mz_operations.specs.Views.{as_set as set_in}
use Rattle.mz_arena.specs.declared.node.NodeKind.TheVariants as kind
use Rattle.mz_arena.specs.Values.{Term, as_set, holds, is_true, set_term}
use Rattle.mz_arena.specs.Values as terms
use Rattle.mz_globals.specs.declared.global.Global.TheVariants as global
use Rattle.mz_globals.specs.Counting as counting
use Rattle.mz_globals.specs.Reading.{sets_at}
use Rattle.mz_globals.specs.Table.{line_of, truth}
use Rattle.mz_symbol.specs.Runs.{Run}
use Rattle.mz_symbol.specs.Readings.{Reading}
use Rattle.mz_symbol.specs.Makes.{GoesOnBy}
use Rattle.glob_nodes.specs.declared.arguments.Numbers.{Numbers}
use Rattle.glob_nodes.specs.Rows.{IsRow, row_cost}
use Rattle.glob_nodes.specs.Says.{Gives, Says, Tells, pair_count}
use Rattle.glob_nodes.specs.StepsNodes.{meaning_over}
use Rattle.glob_nodes.proofs.Rows.{found, at_first, at_second, row_by, two_found}
use Rattle.glob_nodes.proofs.Telling.{goes_more, drop_all}
use Rattle.glob_nodes.specs.Sets.{set_value}
use Rattle.glob_nodes.proofs.Indexing.{next_of}
use Rattle.glob_nodes.proofs.IntegerNodes.{stays}
use Rattle.glob_nodes.proofs.Seen.{both_same, head_there, tail_there}
use Rattle.glob_nodes.proofs.SetNodes.{set_is, set_found}
use Rattle.glob_nodes.proofs.Several.{same_two}
use Rattle.glob_nodes.proofs.Squares.{below_square, pairs_within}
use Rattle.glob_sets.specs.Arrays.{array_by, elements_by, elements_in, sets_value, AreSets, IsSet}
use Rattle.glob_sets.specs.Senses.{all_apart, make_up, united_from, UnitedSoFar}
use Rattle.glob_sets.proofs.Apart.{apart_told, both_sets, same_square}
use Rattle.glob_sets.proofs.AtPlaces.{elements_are, sets_read}
use Rattle.glob_sets.proofs.Elements.{items_found}

-- ---- the union, a set at a time

pub union_begins : (s : Run) (none : ℕ) (all : List ℕ) → UnitedSoFar s s none all 0 none
union_begins s none all = record { goes = stays 0 s; same = λ r q. refl; is = λ r q. refl; low = omega arith }

pub union_goes : (old mid new : Run) (none k l acc id : ℕ) (all : List ℕ) → UnitedSoFar old mid none all k acc → k < length all → l ≡ suc k → GoesOnBy 4 mid new → Gives mid new (meaning_over kind.Union acc (slice_index_or all k 0)) id → UnitedSoFar old new none all l id
union_goes old mid new none k l acc id all u low after goes g = subst (λ n. UnitedSoFar old new none all n id) (sym after) (record {
  goes = goes_more (4 * k) 4 (4 * suc k) old mid new (omega arith) u.goes goes;
  same = λ r q. u.same r (goes.back r q) ∙ g.same r q;
  is = λ r q.
      u.is r (goes.back r q)
      ∙ ap (united_from r (r.term acc)) (next_of all k low)
      ∙ sym (ap (λ t. united_from r t (drop (suc k) all)) (g.is r q));
  low = omega (arith, low);
})

pub union_ends : (old new : Run) (none k acc : ℕ) (all : List ℕ) → UnitedSoFar old new none all k acc → length all ≤ k → Gives old new (λ r. united_from r (r.term none) all) acc
union_ends old new none k acc all u high =
    let end : k ≡ length all = omega (arith, u.low, high) in
    record {
      same = u.same;
      is = λ r q. sym (u.is r q ∙ ap (λ n. united_from r (r.term acc) (drop n all)) end ∙ ap (united_from r (r.term acc)) (drop_all all));
    }

-- ---- what is told of sets

union_is : (v w : List Range) → combined rows.Union v w ≡ union v w
unfolding combined
union_is v w = refl

united_told : (r : Reading) (t : Term) (v : List Range) (ids : List ℕ) (ss : List (List Range)) → as_set t ≡ Some v → map (λ id. as_set (r.term id)) ids ≡ map (λ n. Some n) ss → as_set (united_from r t ids) ≡ Some (counting.united_from v ss)
united_told r t v [] [] e h = e
united_told r t v [] (s ∷ ss) e h = absurd (cc)
united_told r t v (x ∷ xs) [] e h = absurd (cc)
united_told r t v (x ∷ xs) (s ∷ ss) e h =
    united_told r (set_term rows.Union t (r.term x)) (union v s) xs ss
    (both_sets rows.Union t (r.term x) v s e (head_there (as_set (r.term x)) (map (λ id. as_set (r.term id)) xs) s ss h) ∙ ap (λ u. Some u) (union_is v s))
    (tail_there (as_set (r.term x)) (map (λ id. as_set (r.term id)) xs) s ss h)

partition_told : (r : Reading) (none u : ℕ) (a : Numbers) (ss : List (List Range)) (w : List Range) → r.term none ≡ Some (terms.set []) → elements_by as_set r a ≡ map (λ n. Some n) ss → as_set (r.term u) ≡ Some w → make_up r none a u ≡ counting.partitions ss w
partition_told r none u a ss w e h k =
    both_same (all_apart r none a) (holds (as_set (united_from r (r.term none) a.items.items)) (as_set (r.term u)) same_set) (counting.all_disjoint ss) (same_set (counting.united_from [] ss) w)
    (apart_told r none a.items.items ss e h)
    (same_two (λ o p. holds o p same_set) (as_set (united_from r (r.term none) a.items.items)) (Some (counting.united_from [] ss)) (as_set (r.term u)) (Some w) (united_told r (r.term none) [] a.items.items ss (ap as_set e) h) k)

-- ---- the row

abbrev partition_of : Option (List (List Range)) → Option (List Range) → Option Content
partition_of o p = truth (o >>= λ ss. p >>= λ u. Some (counting.partitions ss u))

partition_line : (x : Range) (o : Option (List (List Range))) (p : Option (List Range)) → (line_of global.Partition).value (array_by (values.set None) x o ∷ option_map (values.set None) p ∷ []) ≡ Some (values.bool (found (λ ss. found (counting.partitions ss) p) o))
unfolding line_of
partition_line x o p =
    same_two partition_of (sets_at (array_by (values.set None) x o ∷ option_map (values.set None) p ∷ []) 0) o (arguments.set_at (array_by (values.set None) x o ∷ option_map (values.set None) p ∷ []) 1) p
    (elements_are set_in (values.set None) (array_by (values.set None) x o ∷ option_map (values.set None) p ∷ []) 0 x o sets_read (at_first (array_by (values.set None) x o) (option_map (values.set None) p ∷ [])))
    (set_is (array_by (values.set None) x o ∷ option_map (values.set None) p ∷ []) 1 p (at_second (array_by (values.set None) x o) (option_map (values.set None) p) []))
    ∙ two_found counting.partitions o p

pub partition_row : (old mid new : Run) (a : Numbers) (u none body id n m : ℕ)
    → AreSets old a
    → IsSet old none []
    → GoesOnBy n old mid
    → Tells old mid (λ r. make_up r none a u) body
    → GoesOnBy m mid new
    → Says mid new (λ r. is_true (r.term a.defined) && (is_some (as_set (r.term u)) && is_true (r.term body))) id
    → IsRow base.Bool old new global.Partition (λ r. sets_value r a ∷ set_value r u ∷ []) id
partition_row old mid new a u none body id n m whole empty before t goes s =
    row_by old new global.Partition (λ r. sets_value r a ∷ set_value r u ∷ []) (λ r. is_true (r.term a.defined) && (is_some (as_set (r.term u)) && is_true (r.term body))) id
    (λ r q. ap (λ p. Some (values.bool p)) (items_found (is_true (r.term a.defined)) (elements_by as_set r a) (is_some (as_set (r.term u)) && is_true (r.term body)) (λ ss. found (counting.partitions ss) (as_set (r.term u))) (whole r (before.back r (goes.back r q)))
    (λ ss h. set_found (as_set (r.term u)) (is_true (r.term body)) (counting.partitions ss)
    (λ w k. t.tells r (goes.back r q) ∙ partition_told r none u a ss w (empty r (before.back r (goes.back r q))) h k)))
    ∙ sym (partition_line (a.first, a.last) (elements_in as_set r a) (as_set (r.term u))))
    (record { same = λ r q. t.same r (goes.back r q) ∙ s.same r q; is = s.is; tells = s.tells })

-- ---- the cost

pub partition_cost : (ids : List ℕ) → 16 * pair_count ids + (4 * length ids + 6) + 6 + 18 ≤ 56 * row_cost global.Partition (length ids ∷ 0 ∷ [])
unfolding line_of
partition_cost ids = of_pairs (pair_count ids) (length ids) (pairs_within ids) (below_square (length ids))
  where
    of_pairs : (p n : ℕ) → p ≤ n * n → n ≤ n * n → 16 * p + (4 * n + 6) + 6 + 18 ≤ 56 * (1 + (0 + n) * (0 + n))
    of_pairs p n h k = let same = same_square n in omega (arith, h, k, same)

-- ---- the union as a set

pub whole_says : (old mid new : Run) (none u whole id m : ℕ) (ids : List ℕ) → Gives old mid (λ r. united_from r (r.term none) ids) whole → GoesOnBy m mid new → Says mid new (λ r. holds (as_set (r.term whole)) (as_set (r.term u)) same_set) id → Says old new (λ r. holds (as_set (united_from r (r.term none) ids)) (as_set (r.term u)) same_set) id
whole_says old mid new none u whole id m ids g goes s = record {
  same = λ r q. g.same r (goes.back r q) ∙ s.same r q;
  is = λ r q. s.is r q ∙ ap (λ t. terms.bit (holds (as_set t) (as_set (r.term u)) same_set)) (g.is r (goes.back r q));
  tells = λ r q. s.tells r q ∙ ap (λ t. holds (as_set t) (as_set (r.term u)) same_set) (g.is r (goes.back r q));
}
