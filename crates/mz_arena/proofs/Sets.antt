-- The greatest sets of bounds are sets.
use Rattle.std.proofs.Common.{ℕ, zero, suc, ℤ, List, [], ◌∷◌, drop, take, Bool, true, false, cond, Option, Some, None}
use Rattle.std.specs.Option.{option_and_then, option_map}
use Rattle.mz_value.specs.Ranges.{Range}
use Rattle.mz_interval.specs.Ends.{Ends}
use Rattle.mz_operations.specs.declared.row.SetOp.{SetOp as SetRow}
use Rattle.mz_operations.specs.declared.row.SetOp.TheVariants as set_row
use Rattle.mz_operations.specs.Sets.{union, combined}
use Rattle.mz_operations.specs.Bounds.{union_from, combined_upper, hull_of_set}
use Rattle.mz_operations.specs.Laws.{IsSet, AreSets}
use Rattle.mz_operations.proofs.SetMembers.{union_set, intersection_set, difference_set}
use Rattle.mz_arena.specs.Extents.{Extent, Known, whole, truth, subset, wholes, truths, subsets, empty, as_whole, as_truth, as_subset, as_wholes, as_single, as_list, is_bit, is_truths, bool_extent, marked, variable_extent, set_variable_extent, to_int_extent, comparison_extent, connective_extent, not_extent, member_extent, set_comparison_extent, branch_extent, if_extent, guarded_extent, guard_extent, skipped, reached, element_extent, access_extent, before_extent, cons_extent, set_extent}
use Rattle.mz_arena.specs.InBounds.{HasSets}

-- ---- sets that are made of sets

pub upper_set : (op : SetRow) (u w : List Range) → IsSet u → IsSet w → IsSet (combined_upper op u w)
unfolding combined_upper
upper_set set_row.Union u w p q = union_set u w p q
upper_set set_row.Intersect u w p q = intersection_set u w p q
upper_set set_row.Diff u w p q = p
upper_set set_row.Symdiff u w p q = union_set u w p q

pub combined_set : (op : SetRow) (s t : List Range) → IsSet s → IsSet t → IsSet (combined op s t)
unfolding combined
combined_set set_row.Union s t p q = union_set s t p q
combined_set set_row.Intersect s t p q = intersection_set s t p q
combined_set set_row.Diff s t p q = difference_set s t p q
combined_set set_row.Symdiff s t p q = union_set _ _ (difference_set s t p q) (difference_set t s q p)

union_from_set : (acc : List Range) (us : List (List Range)) → IsSet acc → AreSets us → IsSet (union_from acc us)
unfolding union_from
union_from_set acc [] p all = p
union_from_set acc (u ∷ us) p all = union_from_set (union acc u) us (union_set acc u p all.0) all.1

drop_sets : (n : ℕ) (us : List (List Range)) → AreSets us → AreSets (drop n us)
drop_sets zero us all = all
drop_sets (suc n) [] all = tt
drop_sets (suc n) (u ∷ us) all = drop_sets n us all.1

take_sets : (n : ℕ) (us : List (List Range)) → AreSets us → AreSets (take n us)
take_sets zero us all = tt
take_sets (suc n) [] all = tt
take_sets (suc n) (u ∷ us) all = (all.0, take_sets n us all.1)

pub reached_sets : (e : Ends) (us : List (List Range)) → AreSets us → AreSets (reached e us)
reached_sets e us all = take_sets _ (drop (skipped e) us) (drop_sets (skipped e) us all)

-- ---- the bounds of a node of each kind

-- where nothing is there, nothing is asked
then_sets : {A : Type 0} (o : Option A) (f : A → Known) → ((a : A) → HasSets (f a)) → HasSets (option_and_then f o)
then_sets None f h = tt
then_sets (Some a) f h = h a

pub number_sets : (o : Option Ends) → HasSets (option_map whole o)
number_sets None = tt
number_sets (Some e) = tt

pub extreme_sets : (f : List Ends → Ends) (o : Option (List Ends)) → HasSets (option_map (λ es. whole (f es)) o)
extreme_sets f None = tt
extreme_sets f (Some es) = tt

cond_truth : (b : Bool) (e : Ends) (x : Known) → HasSets x → HasSets (cond b (Some (truth e)) x)
cond_truth true e x h = tt
cond_truth false e x h = h

abbrev absent : Known
absent = None

pub bool_sets : (n : ℤ) → HasSets (bool_extent n)
unfolding bool_extent
bool_sets n = cond_truth (is_bit n) (n, n) None tt

marked_sets : (m : ℕ) (e : Ends) → HasSets (marked m e)
marked_sets zero e = number_sets _
marked_sets (suc zero) e = cond_truth _ e None tt
marked_sets (suc (suc m)) e = tt

pub variable_sets : (m : ℕ) (x : Known) → HasSets (variable_extent m x)
unfolding variable_extent
variable_sets m x = then_sets (as_subset x) _ (λ u. marked_sets m (hull_of_set u))

pub set_variable_sets : (x : Known) → HasSets x → HasSets (set_variable_extent x)
unfolding set_variable_extent
set_variable_sets (Some (subset u)) h = h
set_variable_sets None h = tt
set_variable_sets (Some _) h = tt

pub to_int_sets : (x : Known) → HasSets (to_int_extent x)
unfolding to_int_extent
to_int_sets x = then_sets (as_truth x) _ (λ e. tt)

pub comparison_sets : (x y : Known) → HasSets (comparison_extent x y)
unfolding comparison_extent
comparison_sets x y = then_sets (as_whole x) _ (λ e. then_sets (as_whole y) _ (λ f. tt))

pub connective_sets : (x y : Known) → HasSets (connective_extent x y)
unfolding connective_extent
connective_sets x y = then_sets (as_truth x) _ (λ e. then_sets (as_truth y) _ (λ f. tt))

pub not_sets : (x : Known) → HasSets (not_extent x)
unfolding not_extent
not_sets x = then_sets (as_truth x) _ (λ e. tt)

pub member_sets : (x y : Known) → HasSets (member_extent x y)
unfolding member_extent
member_sets x y = then_sets (as_whole x) _ (λ e. then_sets (as_subset y) _ (λ u. tt))

pub set_comparison_sets : (x y : Known) → HasSets (set_comparison_extent x y)
unfolding set_comparison_extent
set_comparison_sets x y = then_sets (as_subset x) _ (λ u. then_sets (as_subset y) _ (λ w. tt))

-- a node that is no list
single_sets : (x : Known) (f : Extent → Known) → HasSets x → ((b : Extent) → HasSets (Some b) → HasSets (f b)) → HasSets (option_and_then f (as_single x))
single_sets None f p h = tt
single_sets (Some (whole e)) f p h = h (whole e) p
single_sets (Some (truth e)) f p h = h (truth e) p
single_sets (Some (subset u)) f p h = h (subset u) p
single_sets (Some _) f p h = tt

branch_sets : (b : Extent) (z : Known) → HasSets (Some b) → HasSets z → HasSets (branch_extent b z)
branch_sets (whole e) z p q = then_sets (as_whole z) _ (λ f. tt)
branch_sets (truth e) z p q = then_sets (as_truth z) _ (λ f. tt)
branch_sets (subset u) None p q = tt
branch_sets (subset u) (Some (subset w)) p q = union_set u w p q
branch_sets (subset u) (Some _) p q = tt
branch_sets _ z p q = tt

pub if_sets : (x y z : Known) → HasSets y → HasSets z → HasSets (if_extent x y z)
unfolding if_extent
if_sets x y z p q = then_sets (as_truth x) _ (λ c. single_sets y _ p (λ b h. branch_sets b z h q))

guarded_sets : (b : Extent) → HasSets (Some b) → HasSets (guarded_extent b)
guarded_sets (whole e) p = tt
guarded_sets (truth e) p = tt
guarded_sets (subset u) p = p
guarded_sets _ p = tt

pub guard_sets : (x y : Known) → HasSets y → HasSets (guard_extent x y)
unfolding guard_extent
guard_sets x y p = then_sets (as_truth x) _ (λ c. single_sets y _ p (λ b h. guarded_sets b h))

list_sets : (y : Known) (f : Extent → Known) → HasSets y → ((b : Extent) → HasSets (Some b) → HasSets (f b)) → HasSets (option_and_then f (as_list y))
list_sets None f p h = tt
list_sets (Some (wholes es)) f p h = h (wholes es) p
list_sets (Some truths) f p h = h truths p
list_sets (Some (subsets us)) f p h = h (subsets us) p
list_sets (Some empty) f p h = h empty p
list_sets (Some _) f p h = tt

element_sets : (e : Ends) (b : Extent) → HasSets (Some b) → HasSets (element_extent e b)
element_sets e (wholes es) p = tt
element_sets e truths p = tt
element_sets e (subsets us) p = union_from_set [] (reached e us) (tt, tt) (reached_sets e us p)
element_sets e empty p = tt
element_sets e _ p = tt

pub access_sets : (x y : Known) → HasSets y → HasSets (access_extent x y)
unfolding access_extent
access_sets x y p = then_sets (as_whole x) _ (λ e. list_sets y _ p (λ b h. element_sets e b h))

before_sets : (b : Extent) (y : Known) → HasSets (Some b) → HasSets y → HasSets (before_extent b y)
before_sets (whole e) y p q = then_sets (as_wholes y) _ (λ es. tt)
before_sets (truth e) y p q = by (is_truths y)
  where
    by : (t : Bool) → HasSets (cond t (Some truths) absent)
    by true = tt
    by false = tt
before_sets (subset u) None p q = tt
before_sets (subset u) (Some (subsets us)) p q = (p, q)
before_sets (subset u) (Some empty) p q = (p, tt)
before_sets (subset u) (Some _) p q = tt
before_sets _ y p q = tt

pub cons_sets : (x y : Known) → HasSets x → HasSets y → HasSets (cons_extent x y)
unfolding cons_extent
cons_sets x y p q = single_sets x _ p (λ b h. before_sets b y h q)

pub set_sets : (op : SetRow) (x y : Known) → HasSets x → HasSets y → HasSets (set_extent op x y)
unfolding set_extent
set_sets op (Some (subset u)) (Some (subset w)) p q = upper_set op u w p q
set_sets op (Some (subset u)) None p q = tt
set_sets op (Some (subset u)) (Some _) p q = tt
set_sets op None y p q = tt
set_sets op (Some _) y p q = tt
