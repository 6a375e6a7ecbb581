-- What the globals of counting say of numbers, and those of sets of sets.
use Rattle.std.specs.Prelude.{ℕ, suc, ℤ, pos, nat_abs, int_le, List, [], ◌∷◌, count_by, zip, Bool, ◌&&◌, if◌then◌else◌}
use Rattle.std.specs.List.{list_all}
use Rattle.std.specs.Ordering.{int_eq}
use Rattle.mz_value.specs.Ranges.{Range, range_of}
use Rattle.mz_operations.specs.Numbers.{same}
use Rattle.mz_operations.specs.Sets.{contains, intersection, union, is_empty_set, is_subset, same_set}
use Rattle.mz_globals.specs.declared.global.Relation.{Relation}
use Rattle.mz_globals.specs.declared.global.Relation.TheVariants.{AtLeast, AtMost, Exactly}
use Rattle.mz_globals.specs.Lists.{pairwise, total, numbered, windows}
use Rattle.mz_globals.specs.Order.{differ, times}
use Rattle.mz_globals.specs.Reading.{Placed, is_index}

-- how a number of places stands to n
abbrev pub related : Relation → ℤ → ℤ → Bool
related AtLeast n count = int_le n count
related AtMost n count = int_le count n
related Exactly n count = int_eq count n

-- the number of places whose value lies in a set
abbrev pub times_among : List Range → List ℤ → ℕ
times_among s xs = count_by (contains s) xs

-- each value is counted where it isn't met again
abbrev pub different_values : List ℤ → ℕ
different_values [] = 0
different_values (x ∷ xs) = if list_all (differ x) xs then suc (different_values xs) else different_values xs

-- a value of the cover and its count
abbrev pub is_count_in : List ℤ → ℤ × ℤ → Bool
is_count_in xs p = int_eq (pos (times p.0 xs)) p.1

abbrev pub are_counts : List ℤ → List ℤ → List ℤ → Bool
are_counts xs cover counts = list_all (is_count_in xs) (zip cover counts)

-- a sum lies in low..up
abbrev pub sum_fits : ℤ → ℤ → List ℤ → Bool
sum_fits low up xs = int_le low (total (λ x. x) xs) && int_le (total (λ x. x) xs) up

-- of `seq` 0 the empty sums have to lie there; a negative `seq` is refused before
abbrev pub slides : ℤ → ℤ → ℤ → List ℤ → Bool
slides low up seq xs = list_all (sum_fits low up) (windows (nat_abs seq) xs)

-- ---- sets

-- a set holds numbers of a range alone
abbrev pub holds_only : Range → List Range → Bool
holds_only within s = is_subset s (range_of within.0 within.1)

-- an element of the one array and a set of the other, each with its index: the element is the set's index exactly where the set has the element's
abbrev pub is_channel : ℤ × ℤ → ℤ × List Range → Bool
is_channel p q = same (int_eq p.1 q.0) (contains q.1 p.0)

abbrev pub channels : Placed ℤ → Placed (List Range) → Bool
channels x y =
    list_all (is_index y.indices) x.items
    && list_all (holds_only x.indices) y.items
    && list_all (λ p. list_all (is_channel p) (numbered y.indices.0 y.items)) (numbered x.indices.0 x.items)

-- i lies in the set exactly where b[i] is true
abbrev pub is_link : List Range → ℤ × Bool → Bool
is_link s p = same (contains s p.0) p.1

abbrev pub links : List Range → Placed Bool → Bool
links s b = holds_only b.indices s && list_all (is_link s) (numbered b.indices.0 b.items)

abbrev pub are_apart : List Range → List Range → Bool
are_apart s t = is_empty_set (intersection s t)

abbrev pub all_disjoint : List (List Range) → Bool
all_disjoint ss = pairwise are_apart ss

abbrev pub united_from : List Range → List (List Range) → List Range
united_from acc [] = acc
united_from acc (s ∷ ss) = united_from (union acc s) ss

abbrev pub partitions : List (List Range) → List Range → Bool
partitions ss u = all_disjoint ss && same_set (united_from [] ss) u
