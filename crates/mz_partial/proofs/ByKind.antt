-- What the kinds of each group have in common.
use Rattle.std.proofs.Common.{◌≡◌, ℕ, ℤ, pos, List, [], ◌∷◌, Bool, true, false, not, ◌&&◌, ◌||◌, Option, Some, None, IsSome, option_map, refl, sym, ap, subst, ◌∙◌, arith}
use Rattle.std.specs.Option.{option_and_then}
use Rattle.std.specs.Ordering.{int_eq}
use Rattle.std.proofs.lemmas.Int.{ints}
use Rattle.mz_value.specs.Ranges.{Range}
use Rattle.mz_interval.specs.Ends.{Ends, hull_of}
use Rattle.mz_operations.specs.declared.row.Arith.{Arith as ArithRow}
use Rattle.mz_operations.specs.declared.row.Arith.TheVariants as arith_row
use Rattle.mz_operations.specs.declared.row.Sign.TheVariants as sign_row
use Rattle.mz_operations.specs.declared.row.SetOp.{SetOp}
use Rattle.mz_operations.specs.declared.row.SetOp.TheVariants as set_row
use Rattle.mz_operations.specs.declared.row.Side.TheVariants.{Least, Greatest}
use Rattle.mz_operations.specs.Bounds as bounds
use Rattle.mz_operations.specs.Bounds.{extreme_ends, combined_upper}
use Rattle.mz_operations.specs.Numbers.{computed, same}
use Rattle.mz_arena.specs.declared.node.NodeKind.{NodeKind}
use Rattle.mz_arena.specs.declared.node.NodeKind.TheVariants.{Int, Bool as BoolNode, Var, Local, Add, Mul, Div, Mod, Min, Max, Abs, ToInt, Eq, Ne, Le, Lt, And, Or, Not, Iff, If, Access, Guard, Nil, Cons, SetConst, SetVar, SetLocal, Member, Union, Intersect, Diff, Symdiff, Card, SetEq, Subset}
use Rattle.mz_arena.specs.Entries.{Entry, of_one, of_two, of_three}
use Rattle.mz_arena.specs.Values.{Val, number, set, numbers, sets, empty, Term, Values, as_number, as_set, bit, is_one, is_true, holds, is_member, arith_term, sign_term, set_term, card_term, comparison_term, set_comparison_term, member_term, and_term, or_term, not_term, iff_term, to_int_term}
use Rattle.mz_arena.specs.Terms.{kind_term}
use Rattle.mz_arena.specs.Extents.{Extent, Known, whole, truth, subset, wholes, truths, subsets, empty as no_element, open_truth, as_whole, as_truth, as_subset, as_wholes, as_single, as_list, is_bit, arith_bounds, arith_extent, abs_bounds, card_bounds, to_int_extent, comparison_extent, connective_extent, not_extent, member_extent, set_comparison_extent, branch_extent, if_extent, guarded_extent, guard_extent, element_extent, access_extent, set_extent, kind_extent}
use Rattle.mz_arena.specs.InBounds.{LiesIn}
use Rattle.mz_partial.specs.declared.group.Group.TheVariants as group
use Rattle.mz_partial.specs.Groups.{group_of, is_inner}
use Rattle.mz_partial.specs.Totals.{IsOpen, Counts, Tells}

-- ---- values of the sort that the bounds tell

pub record IsNumberVal (w : Val) : Type 0 where
  pub value : ℤ
  pub is : w ≡ number value

pub record IsBitVal (w : Val) : Type 0 where
  pub value : ℤ
  pub is : w ≡ number value
  pub bit : is_bit value ≡ true

pub record IsSetVal (w : Val) : Type 0 where
  pub value : List Range
  pub is : w ≡ set value

pub whole_val : (e : Ends) (w : Val) → LiesIn (whole e) w → IsNumberVal w
whole_val e (number n) h = record { value = n; is = refl }
whole_val e (set s) h = absurd h
whole_val e (numbers ns) h = absurd h
whole_val e (sets ss) h = absurd h
whole_val e empty h = absurd h

pub truth_val : (e : Ends) (w : Val) → LiesIn (truth e) w → IsBitVal w
truth_val e (number n) h = record { value = n; is = refl; bit = h.bit }
truth_val e (set s) h = absurd h
truth_val e (numbers ns) h = absurd h
truth_val e (sets ss) h = absurd h
truth_val e empty h = absurd h

pub subset_val : (u : List Range) (w : Val) → LiesIn (subset u) w → IsSetVal w
subset_val u (set s) h = record { value = s; is = refl }
subset_val u (number n) h = absurd h
subset_val u (numbers ns) h = absurd h
subset_val u (sets ss) h = absurd h
subset_val u empty h = absurd h

-- bounds of a sort
pub record HasWhole (x : Known) : Type 0 where
  pub ends : Ends
  pub is : x ≡ Some (whole ends)

pub record HasTruth (x : Known) : Type 0 where
  pub ends : Ends
  pub is : x ≡ Some (truth ends)

pub record HasSubset (x : Known) : Type 0 where
  pub upper : List Range
  pub is : x ≡ Some (subset upper)

pub has_whole : (x : Known) → IsSome (as_whole x) → HasWhole x
has_whole (Some (whole e)) h = record { ends = e; is = refl }
has_whole _ h = absurd (cc)

pub has_truth : (x : Known) → IsSome (as_truth x) → HasTruth x
has_truth (Some (truth e)) h = record { ends = e; is = refl }
has_truth _ h = absurd (cc)

pub has_subset : (x : Known) → IsSome (as_subset x) → HasSubset x
has_subset (Some (subset u)) h = record { upper = u; is = refl }
has_subset _ h = absurd (cc)

-- a value in some bounds
pub record Fits (x : Known) (w : Val) : Type 0 where
  pub lies : (b : Extent) → x ≡ Some b → LiesIn b w

pub number_in : (x : Known) (w : Val) → HasWhole x → Fits x w → IsNumberVal w
number_in x w h f = whole_val h.ends w (f.lies (whole h.ends) h.is)

pub bit_in : (x : Known) (w : Val) → HasTruth x → Fits x w → IsBitVal w
bit_in x w h f = truth_val h.ends w (f.lies (truth h.ends) h.is)

pub set_in : (x : Known) (w : Val) → HasSubset x → Fits x w → IsSetVal w
set_in x w h f = subset_val h.upper w (f.lies (subset h.upper) h.is)

-- ---- what is asked of the children

then_first : {A : Type 0} (o : Option A) (f : A → Known) → IsSome (option_and_then f o) → IsSome o
then_first None f h = absurd (cc)
then_first (Some a) f h = refl

pub arith_first : (op : ArithRow) (x y : Known) → IsSome (arith_extent op x y) → HasWhole x
arith_first op x y h = has_whole x (by (as_whole x) (as_whole y) h)
  where
    by : (o p : Option Ends) → IsSome (option_map whole (arith_bounds op o p)) → IsSome o
    by None p h = absurd (cc)
    by (Some e) p h = refl

pub arith_second : (op : ArithRow) (x y : Known) → IsSome (arith_extent op x y) → HasWhole y
arith_second op x y h = has_whole y (by (as_whole x) (as_whole y) h)
  where
    by : (o p : Option Ends) → IsSome (option_map whole (arith_bounds op o p)) → IsSome p
    by None p h = absurd (cc)
    by (Some e) None h = absurd (cc)
    by (Some e) (Some f) h = refl

set_sorts : (op : SetOp) (x y : Known) → IsSome (set_extent op x y) → IsSome (as_subset x) × IsSome (as_subset y)
unfolding set_extent
set_sorts op x y h = by (as_subset x) (as_subset y) h
  where
    by : (o p : Option (List Range)) → IsSome (option_and_then (λ u. option_and_then (λ w. Some (subset (combined_upper op u w))) p) o) → IsSome o × IsSome p
    by None p h = absurd (cc)
    by (Some e) None h = absurd (cc)
    by (Some e) (Some f) h = (refl, refl)

-- the children of a comparison, of a connective
comparison_sorts : (x y : Known) → IsSome (comparison_extent x y) → IsSome (as_whole x) × IsSome (as_whole y)
unfolding comparison_extent
comparison_sorts x y h = by (as_whole x) (as_whole y) h
  where
    by : (o p : Option Ends) → IsSome (option_and_then (λ e. option_and_then (λ f. open_truth) p) o) → IsSome o × IsSome p
    by None p h = absurd (cc)
    by (Some e) None h = absurd (cc)
    by (Some e) (Some f) h = (refl, refl)

connective_sorts : (x y : Known) → IsSome (connective_extent x y) → IsSome (as_truth x) × IsSome (as_truth y)
unfolding connective_extent
connective_sorts x y h = by (as_truth x) (as_truth y) h
  where
    by : (o p : Option Ends) → IsSome (option_and_then (λ e. option_and_then (λ f. open_truth) p) o) → IsSome o × IsSome p
    by None p h = absurd (cc)
    by (Some e) None h = absurd (cc)
    by (Some e) (Some f) h = (refl, refl)

pub connective_truths : (e : Entry) (k : NodeKind) (x y : Known) → group_of k ≡ group.Connective → IsSome (kind_extent e k (x ∷ y ∷ [])) → HasTruth x × HasTruth y
connective_truths e And x y g h = let s = connective_sorts x y h in (has_truth x s.0, has_truth y s.1)
connective_truths e Or x y g h = let s = connective_sorts x y h in (has_truth x s.0, has_truth y s.1)
connective_truths e Iff x y g h = let s = connective_sorts x y h in (has_truth x s.0, has_truth y s.1)
connective_truths e _ x y g h = absurd (cc)

pub reading_truth : (e : Entry) (k : NodeKind) (x : Known) → group_of k ≡ group.Reading → IsSome (kind_extent e k (x ∷ [])) → HasTruth x
unfolding not_extent to_int_extent
reading_truth e Not x g h = has_truth x (then_first (as_truth x) _ h)
reading_truth e ToInt x g h = has_truth x (then_first (as_truth x) _ h)
reading_truth e _ x g h = absurd (cc)

pub choice_kind : (k : NodeKind) → group_of k ≡ group.Choice → k ≡ If
choice_kind If g = refl
choice_kind _ g = absurd (cc)

pub guard_kind : (k : NodeKind) → group_of k ≡ group.Guard → k ≡ Guard
guard_kind Guard g = refl
guard_kind _ g = absurd (cc)

pub cons_kind : (k : NodeKind) → group_of k ≡ group.Cons → k ≡ Cons
cons_kind Cons g = refl
cons_kind _ g = absurd (cc)

pub access_kind : (k : NodeKind) → group_of k ≡ group.Access → k ≡ Access
access_kind Access g = refl
access_kind _ g = absurd (cc)

pub choice_truth : (x y z : Known) → IsSome (if_extent x y z) → HasTruth x
unfolding if_extent
choice_truth x y z h = has_truth x (then_first (as_truth x) _ h)

pub guard_truth : (x y : Known) → IsSome (guard_extent x y) → HasTruth x
unfolding guard_extent
guard_truth x y h = has_truth x (then_first (as_truth x) _ h)

-- ---- operations on one child

pub one_none : (v : Values) (e : Entry) (k : NodeKind) → group_of k ≡ group.One → kind_term v e k (None ∷ []) ≡ None
unfolding sign_term card_term
one_none v e Abs g = refl
one_none v e Card g = refl
one_none v e _ g = absurd (cc)

pub one_some : (v : Values) (e f : Entry) (k : NodeKind) (x : Known) (w : Val) → group_of k ≡ group.One → IsSome (kind_extent e k (x ∷ [])) → Fits x w → IsSome (kind_term v f k (Some w ∷ []))
unfolding sign_term card_term
one_some v e f Abs x w g h p =
    let n = number_in x w (has_whole x (by (as_whole x) h)) p in
    subst (λ (z : Val). IsSome (sign_term sign_row.Abs (Some z))) (sym n.is) refl
  where
    by : (o : Option Ends) → IsSome (option_map whole (abs_bounds o)) → IsSome o
    by None h = absurd (cc)
    by (Some e) h = refl
one_some v e f Card x w g h p =
    let s = set_in x w (has_subset x (by (as_subset x) h)) p in
    subst (λ (z : Val). IsSome (card_term (Some z))) (sym s.is) refl
  where
    by : (o : Option (List Range)) → IsSome (option_map whole (card_bounds o)) → IsSome o
    by None h = absurd (cc)
    by (Some e) h = refl
one_some v e f _ x w g h p = absurd (cc)

-- ---- operations on two

no_number : (op : ArithRow) (x : Term) → arith_term op x None ≡ None
unfolding arith_term
no_number op None = refl
no_number op (Some (number n)) = refl
no_number op (Some (set s)) = refl
no_number op (Some (numbers ns)) = refl
no_number op (Some (sets ss)) = refl
no_number op (Some empty) = refl

no_set : (op : SetOp) (x : Term) → set_term op x None ≡ None
unfolding set_term
no_set op None = refl
no_set op (Some (number n)) = refl
no_set op (Some (set s)) = refl
no_set op (Some (numbers ns)) = refl
no_set op (Some (sets ss)) = refl
no_set op (Some empty) = refl

pub two_left : (v : Values) (e : Entry) (k : NodeKind) (y : Term) → group_of k ≡ group.Two → kind_term v e k (None ∷ y ∷ []) ≡ None
unfolding arith_term set_term
two_left v e Add y g = refl
two_left v e Mul y g = refl
two_left v e Union y g = refl
two_left v e Intersect y g = refl
two_left v e Diff y g = refl
two_left v e Symdiff y g = refl
two_left v e _ y g = absurd (cc)

pub two_right : (v : Values) (e : Entry) (k : NodeKind) (x : Term) → group_of k ≡ group.Two → kind_term v e k (x ∷ None ∷ []) ≡ None
two_right v e Add x g = no_number arith_row.Add x
two_right v e Mul x g = no_number arith_row.Mul x
two_right v e Union x g = no_set set_row.Union x
two_right v e Intersect x g = no_set set_row.Intersect x
two_right v e Diff x g = no_set set_row.Diff x
two_right v e Symdiff x g = no_set set_row.Symdiff x
two_right v e _ x g = absurd (cc)

pub arith_some : (op : ArithRow) (x y : Known) (s t : Val) → ((i j : ℤ) → t ≡ number j → IsSome (computed op i j)) → IsSome (arith_extent op x y) → Fits x s → Fits y t → IsSome (arith_term op (Some s) (Some t))
unfolding arith_term
arith_some op x y s t all h p q =
    let a = number_in x s (arith_first op x y h) p in
    let b = number_in y t (arith_second op x y h) q in
    subst (λ (w : Val). IsSome (arith_term op (Some w) (Some t))) (sym a.is) (subst (λ (w : Val). IsSome (arith_term op (Some (number a.value)) (Some w))) (sym b.is) (by (computed op a.value b.value) (all a.value b.value b.is)))
  where
    by : (o : Option ℤ) → IsSome o → IsSome (option_and_then (λ n. Some (number n)) o)
    by None h = absurd (cc)
    by (Some n) h = refl

set_some : (op : SetOp) (x y : Known) (s t : Val) → IsSome (set_extent op x y) → Fits x s → Fits y t → IsSome (set_term op (Some s) (Some t))
unfolding set_term
set_some op x y s t h p q =
    let sorts = set_sorts op x y h in
    let a = set_in x s (has_subset x sorts.0) p in
    let b = set_in y t (has_subset y sorts.1) q in
    subst (λ (w : Val). IsSome (set_term op (Some w) (Some t))) (sym a.is) (subst (λ (w : Val). IsSome (set_term op (Some (set a.value)) (Some w))) (sym b.is) refl)

sums : (i j : ℤ) → IsSome (computed arith_row.Add i j)
unfolding computed
sums i j = refl

products : (i j : ℤ) → IsSome (computed arith_row.Mul i j)
unfolding computed
products i j = refl

pub two_some : (v : Values) (e f : Entry) (k : NodeKind) (x y : Known) (s t : Val) → group_of k ≡ group.Two → IsSome (kind_extent e k (x ∷ y ∷ [])) → Fits x s → Fits y t → IsSome (kind_term v f k (Some s ∷ Some t ∷ []))
two_some v e f Add x y s t g h p q = arith_some arith_row.Add x y s t (λ i j m. sums i j) h p q
two_some v e f Mul x y s t g h p q = arith_some arith_row.Mul x y s t (λ i j m. products i j) h p q
two_some v e f Union x y s t g h p q = set_some set_row.Union x y s t h p q
two_some v e f Intersect x y s t g h p q = set_some set_row.Intersect x y s t h p q
two_some v e f Diff x y s t g h p q = set_some set_row.Diff x y s t h p q
two_some v e f Symdiff x y s t g h p q = set_some set_row.Symdiff x y s t h p q
two_some v e f _ x y s t g h p q = absurd (cc)

-- ---- Booleans

pub true_bit : (b : Bool) → is_true (bit b) ≡ b
true_bit true = refl
true_bit false = refl

no_holds : {A : Type 0} (o : Option A) (f : A → A → Bool) → holds o None f ≡ false
no_holds None f = refl
no_holds (Some a) f = refl

no_member : (o : Option ℤ) → is_member o None ≡ false
no_member None = refl
no_member (Some n) = refl

-- a comparison is a Boolean, false where a child has no value
pub test_bit : (v : Values) (e : Entry) (k : NodeKind) (x y : Term) → group_of k ≡ group.Test → kind_term v e k (x ∷ y ∷ []) ≡ bit (is_true (kind_term v e k (x ∷ y ∷ [])))
unfolding comparison_term set_comparison_term member_term
test_bit v e Eq x y g = ap bit (sym (true_bit _))
test_bit v e Ne x y g = ap bit (sym (true_bit _))
test_bit v e Le x y g = ap bit (sym (true_bit _))
test_bit v e Lt x y g = ap bit (sym (true_bit _))
test_bit v e Member x y g = ap bit (sym (true_bit _))
test_bit v e SetEq x y g = ap bit (sym (true_bit _))
test_bit v e Subset x y g = ap bit (sym (true_bit _))
test_bit v e _ x y g = absurd (cc)

pub test_left : (v : Values) (e : Entry) (k : NodeKind) (y : Term) → group_of k ≡ group.Test → kind_term v e k (None ∷ y ∷ []) ≡ bit false
unfolding comparison_term set_comparison_term member_term
test_left v e Eq y g = refl
test_left v e Ne y g = refl
test_left v e Le y g = refl
test_left v e Lt y g = refl
test_left v e Member y g = refl
test_left v e SetEq y g = refl
test_left v e Subset y g = refl
test_left v e _ y g = absurd (cc)

pub test_right : (v : Values) (e : Entry) (k : NodeKind) (x : Term) → group_of k ≡ group.Test → kind_term v e k (x ∷ None ∷ []) ≡ bit false
unfolding comparison_term set_comparison_term member_term
test_right v e Eq x g = ap bit (no_holds (as_number x) _)
test_right v e Ne x g = ap bit (no_holds (as_number x) _)
test_right v e Le x g = ap bit (no_holds (as_number x) _)
test_right v e Lt x g = ap bit (no_holds (as_number x) _)
test_right v e Member x g = ap bit (no_member (as_number x))
test_right v e SetEq x g = ap bit (no_holds (as_set x) _)
test_right v e Subset x g = ap bit (no_holds (as_set x) _)
test_right v e _ x g = absurd (cc)

-- a connective reads its children's truth, and is a Boolean
pub connective_reads : (v : Values) (e : Entry) (k : NodeKind) (x y : Term) → group_of k ≡ group.Connective → kind_term v e k (bit (is_true x) ∷ bit (is_true y) ∷ []) ≡ kind_term v e k (x ∷ y ∷ [])
unfolding and_term or_term iff_term
connective_reads v e And x y g = ap (λ a. bit (a && is_true (bit (is_true y)))) (true_bit (is_true x)) ∙ ap (λ a. bit (is_true x && a)) (true_bit (is_true y))
connective_reads v e Or x y g = ap (λ a. bit (a || is_true (bit (is_true y)))) (true_bit (is_true x)) ∙ ap (λ a. bit (is_true x || a)) (true_bit (is_true y))
connective_reads v e Iff x y g = ap (λ a. bit (same a (is_true (bit (is_true y))))) (true_bit (is_true x)) ∙ ap (λ a. bit (same (is_true x) a)) (true_bit (is_true y))
connective_reads v e _ x y g = absurd (cc)

pub connective_some : (v : Values) (e : Entry) (k : NodeKind) (x y : Term) → group_of k ≡ group.Connective → IsSome (kind_term v e k (x ∷ y ∷ []))
unfolding and_term or_term iff_term
connective_some v e And x y g = refl
connective_some v e Or x y g = refl
connective_some v e Iff x y g = refl
connective_some v e _ x y g = absurd (cc)

pub reading_reads : (v : Values) (e : Entry) (k : NodeKind) (x : Term) → group_of k ≡ group.Reading → kind_term v e k (bit (is_true x) ∷ []) ≡ kind_term v e k (x ∷ [])
unfolding not_term to_int_term
reading_reads v e Not x g = ap (λ a. bit (not a)) (true_bit (is_true x))
reading_reads v e ToInt x g = ap bit (true_bit (is_true x))
reading_reads v e _ x g = absurd (cc)

pub reading_some : (v : Values) (e : Entry) (k : NodeKind) (x : Term) → group_of k ≡ group.Reading → IsSome (kind_term v e k (x ∷ []))
unfolding not_term to_int_term
reading_some v e Not x g = refl
reading_some v e ToInt x g = refl
reading_some v e _ x g = absurd (cc)

-- a number that is 0 or 1 is the Boolean that it is read as
pub bit_is : (n : ℤ) → is_bit n ≡ true → Some (number n) ≡ bit (is_one (Some n))
bit_is n h = by (int_eq n (pos 1)) refl
  where
    by : (b : Bool) → int_eq n (pos 1) ≡ b → Some (number n) ≡ bit b
    by true e = let same : n ≡ pos 1 = grind (arith, ints) in ap (λ m. Some (number m)) same
    by false e = let same : n ≡ pos 0 = grind (arith, ints) in ap (λ m. Some (number m)) same

-- ---- bounds of what is no list, of which a Boolean's are open

abbrev pub IsPlain : Known → Type 0
IsPlain None = Unit {0}
IsPlain (Some (whole e)) = Unit {0}
IsPlain (Some (truth e)) = e ≡ bounds.truth
IsPlain (Some (subset u)) = Unit {0}
IsPlain (Some (wholes es)) = ⊥
IsPlain (Some truths) = ⊥
IsPlain (Some (subsets us)) = ⊥
IsPlain (Some no_element) = ⊥

pub plain_open : (x : Known) → IsPlain x → IsOpen x
plain_open None h = tt
plain_open (Some (whole e)) h = tt
plain_open (Some (truth e)) h = h
plain_open (Some (subset u)) h = tt
plain_open (Some (wholes es)) h = tt
plain_open (Some truths) h = tt
plain_open (Some (subsets us)) h = tt
plain_open (Some no_element) h = tt

pub plain_tells : (x : Known) (n : ℕ) → IsPlain x → Tells x n
plain_tells None n h = tt
plain_tells (Some (whole e)) n h = tt
plain_tells (Some (truth e)) n h = tt
plain_tells (Some (subset u)) n h = tt
plain_tells (Some (wholes es)) n h = absurd h
plain_tells (Some truths) n h = absurd h
plain_tells (Some (subsets us)) n h = absurd h
plain_tells (Some no_element) n h = absurd h

pub plain_counts : (x : Known) (w : Val) (n : ℕ) → IsSome x → IsPlain x → Fits x w → Counts w n
plain_counts None w n s h f = absurd (cc)
plain_counts (Some (whole e)) w n s h f = let a = whole_val e w (f.lies (whole e) refl) in subst (λ (z : Val). Counts z n) (sym a.is) tt
plain_counts (Some (truth e)) w n s h f = let a = truth_val e w (f.lies (truth e) refl) in subst (λ (z : Val). Counts z n) (sym a.is) tt
plain_counts (Some (subset u)) w n s h f = let a = subset_val u w (f.lies (subset u) refl) in subst (λ (z : Val). Counts z n) (sym a.is) tt
plain_counts (Some (wholes es)) w n s h f = absurd h
plain_counts (Some truths) w n s h f = absurd h
plain_counts (Some (subsets us)) w n s h f = absurd h
plain_counts (Some no_element) w n s h f = absurd h

then_plain : {A : Type 0} (o : Option A) (f : A → Known) → ((a : A) → IsPlain (f a)) → IsPlain (option_and_then f o)
then_plain None f h = tt
then_plain (Some a) f h = h a

whole_plain : {A : Type 0} (o : Option A) (f : A → Ends) → IsPlain (option_map (λ a. whole (f a)) o)
whole_plain None f = tt
whole_plain (Some a) f = tt

ends_plain : (o : Option Ends) → IsPlain (option_map whole o)
ends_plain None = tt
ends_plain (Some e) = tt

one_plain : (xs : List Known) (f : Known → Known) → ((x : Known) → IsPlain (f x)) → IsPlain (of_one xs f)
one_plain [] f h = tt
one_plain (x ∷ []) f h = h x
one_plain (x ∷ y ∷ xs) f h = tt

two_plain : (xs : List Known) (f : Known → Known → Known) → ((x y : Known) → IsPlain (f x y)) → IsPlain (of_two xs f)
two_plain [] f h = tt
two_plain (x ∷ []) f h = tt
two_plain (x ∷ y ∷ []) f h = h x y
two_plain (x ∷ y ∷ z ∷ xs) f h = tt

three_plain : (xs : List Known) (f : Known → Known → Known → Known) → ((x y z : Known) → IsPlain (f x y z)) → IsPlain (of_three xs f)
three_plain [] f h = tt
three_plain (x ∷ []) f h = tt
three_plain (x ∷ y ∷ []) f h = tt
three_plain (x ∷ y ∷ z ∷ []) f h = h x y z
three_plain (x ∷ y ∷ z ∷ w ∷ xs) f h = tt

set_plain : (op : SetOp) (x y : Known) → IsPlain (set_extent op x y)
unfolding set_extent
set_plain op x y = then_plain (as_subset x) _ (λ u. then_plain (as_subset y) _ (λ w. tt))

comparison_plain : (x y : Known) → IsPlain (comparison_extent x y)
unfolding comparison_extent
comparison_plain x y = then_plain (as_whole x) _ (λ e. then_plain (as_whole y) _ (λ f. refl))

connective_plain : (x y : Known) → IsPlain (connective_extent x y)
unfolding connective_extent
connective_plain x y = then_plain (as_truth x) _ (λ e. then_plain (as_truth y) _ (λ f. refl))

not_plain : (x : Known) → IsPlain (not_extent x)
unfolding not_extent
not_plain x = then_plain (as_truth x) _ (λ e. refl)

to_int_plain : (x : Known) → IsPlain (to_int_extent x)
unfolding to_int_extent
to_int_plain x = then_plain (as_truth x) _ (λ e. tt)

member_plain : (x y : Known) → IsPlain (member_extent x y)
unfolding member_extent
member_plain x y = then_plain (as_whole x) _ (λ e. then_plain (as_subset y) _ (λ u. refl))

set_comparison_plain : (x y : Known) → IsPlain (set_comparison_extent x y)
unfolding set_comparison_extent
set_comparison_plain x y = then_plain (as_subset x) _ (λ u. then_plain (as_subset y) _ (λ w. refl))

branch_plain : (b : Extent) (z : Known) → IsPlain (branch_extent b z)
branch_plain (whole e) z = then_plain (as_whole z) _ (λ f. tt)
branch_plain (truth e) z = then_plain (as_truth z) _ (λ f. refl)
branch_plain (subset u) z = then_plain (as_subset z) _ (λ w. tt)
branch_plain (wholes es) z = tt
branch_plain truths z = tt
branch_plain (subsets us) z = tt
branch_plain no_element z = tt

if_plain : (x y z : Known) → IsPlain (if_extent x y z)
unfolding if_extent
if_plain x y z = then_plain (as_truth x) _ (λ c. then_plain (as_single y) _ (λ b. branch_plain b z))

guarded_plain : (b : Extent) → IsPlain (guarded_extent b)
guarded_plain (whole e) = tt
guarded_plain (truth e) = refl
guarded_plain (subset u) = tt
guarded_plain (wholes es) = tt
guarded_plain truths = tt
guarded_plain (subsets us) = tt
guarded_plain no_element = tt

guard_plain : (x y : Known) → IsPlain (guard_extent x y)
unfolding guard_extent
guard_plain x y = then_plain (as_truth x) _ (λ c. then_plain (as_single y) _ (λ b. guarded_plain b))

element_plain : (e : Ends) (b : Extent) → IsPlain (element_extent e b)
element_plain e (wholes es) = tt
element_plain e truths = refl
element_plain e (subsets us) = tt
element_plain e no_element = tt
element_plain e (whole f) = tt
element_plain e (truth f) = tt
element_plain e (subset u) = tt

access_plain : (x y : Known) → IsPlain (access_extent x y)
unfolding access_extent
access_plain x y = then_plain (as_whole x) _ (λ e. then_plain (as_list y) _ (λ b. element_plain e b))

abbrev pub is_cons : NodeKind → Bool
is_cons Cons = true
is_cons _ = false

pub inner_plain : (e : Entry) (k : NodeKind) (xs : List Known) → is_inner k ≡ true → is_cons k ≡ false → IsPlain (kind_extent e k xs)
inner_plain e Int xs i c = absurd (cc)
inner_plain e BoolNode xs i c = absurd (cc)
inner_plain e Var xs i c = absurd (cc)
inner_plain e Local xs i c = absurd (cc)
inner_plain e Nil xs i c = absurd (cc)
inner_plain e SetConst xs i c = absurd (cc)
inner_plain e SetVar xs i c = absurd (cc)
inner_plain e SetLocal xs i c = absurd (cc)
inner_plain e Cons xs i c = absurd (cc)
inner_plain e Add xs i c = two_plain xs _ (λ x y. ends_plain _)
inner_plain e Mul xs i c = two_plain xs _ (λ x y. ends_plain _)
inner_plain e Div xs i c = two_plain xs _ (λ x y. ends_plain _)
inner_plain e Mod xs i c = two_plain xs _ (λ x y. ends_plain _)
inner_plain e Min xs i c = one_plain xs _ (λ x. whole_plain (as_wholes x) (extreme_ends Least))
inner_plain e Max xs i c = one_plain xs _ (λ x. whole_plain (as_wholes x) (extreme_ends Greatest))
inner_plain e Abs xs i c = one_plain xs _ (λ x. ends_plain _)
inner_plain e ToInt xs i c = one_plain xs _ to_int_plain
inner_plain e Eq xs i c = two_plain xs _ comparison_plain
inner_plain e Ne xs i c = two_plain xs _ comparison_plain
inner_plain e Le xs i c = two_plain xs _ comparison_plain
inner_plain e Lt xs i c = two_plain xs _ comparison_plain
inner_plain e And xs i c = two_plain xs _ connective_plain
inner_plain e Or xs i c = two_plain xs _ connective_plain
inner_plain e Not xs i c = one_plain xs _ not_plain
inner_plain e Iff xs i c = two_plain xs _ connective_plain
inner_plain e If xs i c = three_plain xs _ if_plain
inner_plain e Access xs i c = two_plain xs _ access_plain
inner_plain e Guard xs i c = two_plain xs _ guard_plain
inner_plain e Member xs i c = two_plain xs _ member_plain
inner_plain e Union xs i c = two_plain xs _ (set_plain set_row.Union)
inner_plain e Intersect xs i c = two_plain xs _ (set_plain set_row.Intersect)
inner_plain e Diff xs i c = two_plain xs _ (set_plain set_row.Diff)
inner_plain e Symdiff xs i c = two_plain xs _ (set_plain set_row.Symdiff)
inner_plain e Card xs i c = one_plain xs _ (λ x. ends_plain _)
inner_plain e SetEq xs i c = two_plain xs _ set_comparison_plain
inner_plain e Subset xs i c = two_plain xs _ set_comparison_plain

pub plain_truth : (x : Known) → IsSome (as_truth x) → IsPlain x → x ≡ open_truth
plain_truth (Some (truth e)) s h = ap (λ f. Some (truth f)) h
plain_truth None s h = absurd (cc)
plain_truth (Some (whole e)) s h = absurd (cc)
plain_truth (Some (subset u)) s h = absurd (cc)
plain_truth (Some (wholes es)) s h = absurd (cc)
plain_truth (Some truths) s h = absurd (cc)
plain_truth (Some (subsets us)) s h = absurd (cc)
plain_truth (Some no_element) s h = absurd (cc)

pub connective_open : (e f : Ends) → connective_extent (Some (truth e)) (Some (truth f)) ≡ open_truth
unfolding connective_extent
connective_open e f = refl

pub not_open : (e : Ends) → not_extent (Some (truth e)) ≡ open_truth
unfolding not_extent
not_open e = refl

pub comparison_open : (e f : Ends) → comparison_extent (Some (whole e)) (Some (whole f)) ≡ open_truth
unfolding comparison_extent
comparison_open e f = refl

pub wholes_if : (c e f : Ends) → if_extent (Some (truth c)) (Some (whole e)) (Some (whole f)) ≡ Some (whole (hull_of e f))
unfolding if_extent
wholes_if c e f = refl

pub truths_if : (c e f : Ends) → if_extent (Some (truth c)) (Some (truth e)) (Some (truth f)) ≡ open_truth
unfolding if_extent
truths_if c e f = refl

both_open : {A B : Type 0} (o : Option A) (p : Option B) → IsSome (option_and_then (λ a. option_and_then (λ b. open_truth) p) o) → option_and_then (λ a. option_and_then (λ b. open_truth) p) o ≡ open_truth
both_open None p h = absurd (cc)
both_open (Some a) None h = absurd (cc)
both_open (Some a) (Some b) h = refl

-- a test's bounds
pub test_open : (e : Entry) (k : NodeKind) (x y : Known) → group_of k ≡ group.Test → IsSome (kind_extent e k (x ∷ y ∷ [])) → kind_extent e k (x ∷ y ∷ []) ≡ open_truth
unfolding comparison_extent member_extent set_comparison_extent
test_open e Eq x y g h = both_open (as_whole x) (as_whole y) h
test_open e Ne x y g h = both_open (as_whole x) (as_whole y) h
test_open e Le x y g h = both_open (as_whole x) (as_whole y) h
test_open e Lt x y g h = both_open (as_whole x) (as_whole y) h
test_open e Member x y g h = both_open (as_whole x) (as_subset y) h
test_open e SetEq x y g h = both_open (as_subset x) (as_subset y) h
test_open e Subset x y g h = both_open (as_subset x) (as_subset y) h
test_open e _ x y g h = absurd (cc)
