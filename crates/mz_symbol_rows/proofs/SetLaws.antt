-- Rows over sets: their nodes mean what the rows give.
use Rattle.std.proofs.Common.{◌≡◌, ◌∙◌, ℕ, ℤ, pos, negsuc, ◌+ℤ◌, ◌-ℤ◌, Bool, true, false, not, ◌&&◌, List, [], ◌∷◌, Option, Some, None, refl, sym, ap, arith, if◌then◌else◌}
use Rattle.std.proofs.lemmas.Int.{ints}
use Rattle.std.specs.Option.{option_map, option_or}
use Rattle.mz_value.specs.Ranges.{Range, cardinality}
use Rattle.mz_value.specs.Contents.{Content}
use Rattle.mz_value.specs.Contents as values
use Rattle.mz_core.specs.declared.types.Base.{Base}
use Rattle.mz_core.specs.declared.types.Base.TheVariants as base
use Rattle.mz_operations.specs.declared.row.SetOp.{SetOp}
use Rattle.mz_operations.specs.declared.row.Side.{Side}
use Rattle.mz_operations.specs.declared.row.Side.TheVariants.{Least, Greatest}
use Rattle.mz_operations.specs.declared.row.ScalarRow.TheVariants as row
use Rattle.mz_operations.specs.declared.row.MadeRow.TheVariants as made_row
use Rattle.mz_operations.specs.Views.{◌>>=◌, as_set, as_element, as_case, enum_of}
use Rattle.mz_operations.specs.Arguments.{at, set_at, element_at, case_at, enum_at}
use Rattle.mz_operations.specs.Numbers.{beside, computed}
use Rattle.mz_operations.specs.Sets.{contains, combined, is_subset, same_set}
use Rattle.mz_operations.specs.Values.{scalar_value, made_value}
use Rattle.mz_arena.specs.Values.{Term, number, set, as_number, bit, arith_term, and_term, not_term, guard_term, member_term, set_comparison_term, set_term, card_term}
use Rattle.mz_arena.specs.Values as terms
use Rattle.mz_meaning.specs.Cells.{Mode, Blank, Given, held}
use Rattle.mz_symbol.specs.declared.types.Symbol.{Symbol}
use Rattle.mz_symbol.specs.Symbols.{value_by}
use Rattle.mz_symbol.specs.Readings.{Reading, symbol_seen}
use Rattle.mz_symbol.specs.Arguments.{truth_of}
use Rattle.mz_symbol_rows.specs.RowValues.{argument, row_value}
use Rattle.mz_symbol_rows.specs.StepsNodes.{IsOf, symbol_of}
use Rattle.mz_symbol_rows.proofs.RowLaws.{argument_by, argument_is, truth_by, bit_true}
use Rattle.mz_symbol_rows.specs.OptionValues.{made_row_value}
use Rattle.mz_symbol_rows.proofs.AskingLaws.{same_number}
use Rattle.mz_symbol_rows.specs.StepsSets.{is_set, is_element, IsSetOf, IsElementOf, IsCaseOf, combined_base, is_there, unequal_term, step_of, next_term, beside_term}

-- ---- a row of one or two symbols of any sorts

one_held : (m : Mode) (f : Option Content → Option Content) (p v : Option Content) → f p ≡ v → held m (f (held m p)) ≡ held m v
one_held (Blank n) f p v e = refl
one_held (Given c) f p v e = e

two_held : (m : Mode) (f : Option Content → Option Content → Option Content) (p q v : Option Content) → f p q ≡ v → held m (f (held m p) (held m q)) ≡ held m v
two_held (Blank n) f p q v e = refl
two_held (Given c) f p q v e = e

of_one : (r : Reading) (f : Option Content → Option Content) (a : Symbol) (b : Base) (x : ℕ) (v : Option Content) → IsOf b x a → f (argument_by b (r.term x)) ≡ v → held r.mode (f (argument r a)) ≡ held r.mode v
of_one r f a b x v p e = ap (λ z. held r.mode (f z)) (argument_is r a b x p) ∙ one_held r.mode f (argument_by b (r.term x)) v e

of_two : (r : Reading) (f : Option Content → Option Content → Option Content) (a d : Symbol) (b c : Base) (x y : ℕ) (v : Option Content) → IsOf b x a → IsOf c y d → f (argument_by b (r.term x)) (argument_by c (r.term y)) ≡ v → held r.mode (f (argument r a) (argument r d)) ≡ held r.mode v
of_two r f a d b c x y v p q e =
    ap (λ z. held r.mode (f z (argument r d))) (argument_is r a b x p)
    ∙ ap (λ z. held r.mode (f (held r.mode (argument_by b (r.term x))) z)) (argument_is r d c y q)
    ∙ two_held r.mode f (argument_by b (r.term x)) (argument_by c (r.term y)) v e

-- ---- arguments

abbrev enum_in : Base → Option ℕ
enum_in (base.SetEnum e) = Some e
enum_in b = None

abbrev set_by : Base → Option (List Range) → Option Content
set_by b o = option_map (λ s. values.set (enum_in b) s) o

set_argument : (b : Base) (t : Term) → is_set b ≡ true → argument_by b t ≡ set_by b (terms.as_set t)
set_argument base.SetInt t h = refl
set_argument (base.SetEnum e) t h = refl
set_argument b t h = absurd (cc)

set_value : (b : Base) (t : Term) → is_set b ≡ true → value_by b t ≡ set_by b (terms.as_set t)
set_value base.SetInt t h = refl
set_value (base.SetEnum e) t h = refl
set_value b t h = absurd (cc)

abbrev element_of : Base → ℤ → Content
element_of (base.Enum e) n = values.case e n
element_of b n = values.int n

abbrev element_by : Base → Option ℤ → Option Content
element_by b o = option_map (λ n. element_of b n) o

element_argument : (b : Base) (t : Term) → is_element b ≡ true → argument_by b t ≡ element_by b (as_number t)
element_argument base.Int t h = refl
element_argument (base.Enum e) t h = refl
element_argument b t h = absurd (cc)

number_of : (b : Base) (n : ℤ) → as_element (element_of b n) ≡ Some n
unfolding as_element
number_of (base.Enum e) n = refl
number_of b n = refl

-- ---- membership

member_on : (b c : Base) (o : Option ℤ) (u : Option (List Range)) → truth_of (scalar_value row.In (element_by b o ∷ set_by c u ∷ [])) ≡ Some (values.bool (terms.is_member o u))
unfolding scalar_value element_at set_at at as_element as_set
member_on b c None u = refl
member_on (base.Enum e) c (Some n) None = refl
member_on (base.Enum e) c (Some n) (Some s) = refl
member_on b c (Some n) None = refl
member_on b c (Some n) (Some s) = refl

member_is : (x s : Term) → member_term x s ≡ bit (terms.is_member (as_number x) (terms.as_set s))
unfolding member_term
member_is x s = refl

member_same : (b c : Base) (x s : Term) → is_element b ≡ true → is_set c ≡ true → truth_of (scalar_value row.In (argument_by b x ∷ argument_by c s ∷ [])) ≡ value_by base.Bool (member_term x s)
member_same b c x s h k =
    ap (λ v. truth_of (scalar_value row.In (v ∷ argument_by c s ∷ []))) (element_argument b x h)
    ∙ ap (λ v. truth_of (scalar_value row.In (element_by b (as_number x) ∷ v ∷ []))) (set_argument c s k)
    ∙ member_on b c (as_number x) (terms.as_set s)
    ∙ sym (truth_by (terms.is_member (as_number x) (terms.as_set s)))
    ∙ ap (value_by base.Bool) (sym (member_is x s))

pub member_held : (r : Reading) (a d : Symbol) (x s id : ℕ) → IsElementOf x a → IsSetOf s d → member_term (r.term x) (r.term s) ≡ r.term id → held r.mode (truth_of (row_value r row.In (a ∷ d ∷ []))) ≡ symbol_seen r (symbol_of base.Bool id)
member_held r a d x s id p q e = of_two r (λ v w. truth_of (scalar_value row.In (v ∷ w ∷ []))) a d a.base d.base x s (value_by base.Bool (r.term id)) p.of q.of (member_same a.base d.base (r.term x) (r.term s) p.is q.is ∙ ap (value_by base.Bool) e)

-- ---- comparisons

abbrev both_hold : (List Range → List Range → Bool) → Option (List Range) → Option (List Range) → Bool
both_hold f o u = terms.holds o u f

compared_is : (f : List Range → List Range → Bool) (x y : Term) → set_comparison_term f x y ≡ bit (both_hold f (terms.as_set x) (terms.as_set y))
unfolding set_comparison_term
compared_is f x y = refl

equal_on : (b c : Base) (o u : Option (List Range)) → truth_of (scalar_value row.SetEqual (set_by b o ∷ set_by c u ∷ [])) ≡ Some (values.bool (both_hold same_set o u))
unfolding scalar_value set_at at as_set
equal_on b c None u = refl
equal_on b c (Some s) None = refl
equal_on b c (Some s) (Some t) = refl

subset_on : (b c : Base) (o u : Option (List Range)) → truth_of (made_value made_row.Subset (set_by b o ∷ set_by c u ∷ [])) ≡ Some (values.bool (both_hold is_subset o u))
unfolding made_value set_at at as_set
subset_on b c None u = refl
subset_on b c (Some s) None = refl
subset_on b c (Some s) (Some t) = refl

superset_on : (b c : Base) (o u : Option (List Range)) → truth_of (made_value made_row.Superset (set_by b o ∷ set_by c u ∷ [])) ≡ Some (values.bool (both_hold is_subset u o))
unfolding made_value set_at at as_set
superset_on b c None None = refl
superset_on b c None (Some t) = refl
superset_on b c (Some s) None = refl
superset_on b c (Some s) (Some t) = refl

-- a row of two sets, from what it gives of sets that are there or not
compared_same : (f : Option Content → Option Content → Option Content) (p : Bool) (b c : Base) (x y z : Term) → is_set b ≡ true → is_set c ≡ true → f (set_by b (terms.as_set x)) (set_by c (terms.as_set y)) ≡ Some (values.bool p) → z ≡ bit p → f (argument_by b x) (argument_by c y) ≡ value_by base.Bool z
compared_same f p b c x y z h k e w =
    ap (λ v. f v (argument_by c y)) (set_argument b x h)
    ∙ ap (λ v. f (set_by b (terms.as_set x)) v) (set_argument c y k)
    ∙ e
    ∙ sym (truth_by p)
    ∙ ap (value_by base.Bool) (sym w)

pub equal_held : (r : Reading) (a d : Symbol) (x y id : ℕ) → IsSetOf x a → IsSetOf y d → set_comparison_term same_set (r.term x) (r.term y) ≡ r.term id → held r.mode (truth_of (row_value r row.SetEqual (a ∷ d ∷ []))) ≡ symbol_seen r (symbol_of base.Bool id)
equal_held r a d x y id p q e =
    let f : Option Content → Option Content → Option Content = λ v w. truth_of (scalar_value row.SetEqual (v ∷ w ∷ [])) in
    of_two r f a d a.base d.base x y (value_by base.Bool (r.term id)) p.of q.of
    (compared_same f (both_hold same_set (terms.as_set (r.term x)) (terms.as_set (r.term y))) a.base d.base (r.term x) (r.term y) (r.term id) p.is q.is (equal_on a.base d.base (terms.as_set (r.term x)) (terms.as_set (r.term y))) (sym e ∙ compared_is same_set (r.term x) (r.term y)))

pub subset_held : (r : Reading) (a d : Symbol) (x y id : ℕ) → IsSetOf x a → IsSetOf y d → set_comparison_term is_subset (r.term x) (r.term y) ≡ r.term id → held r.mode (truth_of (made_row_value r made_row.Subset (a ∷ d ∷ []))) ≡ symbol_seen r (symbol_of base.Bool id)
subset_held r a d x y id p q e =
    let f : Option Content → Option Content → Option Content = λ v w. truth_of (made_value made_row.Subset (v ∷ w ∷ [])) in
    of_two r f a d a.base d.base x y (value_by base.Bool (r.term id)) p.of q.of
    (compared_same f (both_hold is_subset (terms.as_set (r.term x)) (terms.as_set (r.term y))) a.base d.base (r.term x) (r.term y) (r.term id) p.is q.is (subset_on a.base d.base (terms.as_set (r.term x)) (terms.as_set (r.term y))) (sym e ∙ compared_is is_subset (r.term x) (r.term y)))

pub superset_held : (r : Reading) (a d : Symbol) (x y id : ℕ) → IsSetOf x a → IsSetOf y d → set_comparison_term is_subset (r.term y) (r.term x) ≡ r.term id → held r.mode (truth_of (made_row_value r made_row.Superset (a ∷ d ∷ []))) ≡ symbol_seen r (symbol_of base.Bool id)
superset_held r a d x y id p q e =
    let f : Option Content → Option Content → Option Content = λ v w. truth_of (made_value made_row.Superset (v ∷ w ∷ [])) in
    of_two r f a d a.base d.base x y (value_by base.Bool (r.term id)) p.of q.of
    (compared_same f (both_hold is_subset (terms.as_set (r.term y)) (terms.as_set (r.term x))) a.base d.base (r.term x) (r.term y) (r.term id) p.is q.is (superset_on a.base d.base (terms.as_set (r.term x)) (terms.as_set (r.term y))) (sym e ∙ compared_is is_subset (r.term y) (r.term x)))

-- ---- sets that differ

set_same : (s : List Range) → same_set s s ≡ true
unfolding same_set
set_same [] = refl
set_same (r ∷ s) = rw (same_number r.0, same_number r.1, set_same s) refl

abbrev differs : Option (List Range) → Option (List Range) → Bool
differs None u = false
differs (Some s) None = false
differs (Some s) (Some t) = not (same_set s t)

unequal_on : (b c : Base) (o u : Option (List Range)) → truth_of (scalar_value row.SetUnequal (set_by b o ∷ set_by c u ∷ [])) ≡ Some (values.bool (differs o u))
unfolding scalar_value set_at at as_set
unequal_on b c None u = refl
unequal_on b c (Some s) None = refl
unequal_on b c (Some s) (Some t) = refl

differs_by : (o u : Option (List Range)) → ((both_hold same_set o o && both_hold same_set u u) && not (both_hold same_set o u)) ≡ differs o u
differs_by None u = refl
differs_by (Some s) None = ap (λ b. (b && false) && true) (set_same s)
differs_by (Some s) (Some t) = ap (λ b. (b && same_set t t) && not (same_set s t)) (set_same s) ∙ ap (λ b. (true && b) && not (same_set s t)) (set_same t)

and_bits : (p q : Bool) → and_term (bit p) (bit q) ≡ bit (p && q)
unfolding and_term
and_bits p q = ap (λ a. bit (a && terms.is_true (bit q))) (bit_true p) ∙ ap (λ b. bit (p && b)) (bit_true q)

not_bit : (p : Bool) → not_term (bit p) ≡ bit (not p)
unfolding not_term
not_bit p = ap (λ a. bit (not a)) (bit_true p)

unequal_is : (x y : Term) → unequal_term x y ≡ bit (differs (terms.as_set x) (terms.as_set y))
unequal_is x y =
    let p = both_hold same_set (terms.as_set x) (terms.as_set x) in
    let q = both_hold same_set (terms.as_set y) (terms.as_set y) in
    let s = both_hold same_set (terms.as_set x) (terms.as_set y) in
    ap (λ a. and_term (and_term a (is_there y)) (not_term (set_comparison_term same_set x y))) (compared_is same_set x x)
    ∙ ap (λ a. and_term (and_term (bit p) a) (not_term (set_comparison_term same_set x y))) (compared_is same_set y y)
    ∙ ap (λ a. and_term (and_term (bit p) (bit q)) (not_term a)) (compared_is same_set x y)
    ∙ ap (λ a. and_term a (not_term (bit s))) (and_bits p q)
    ∙ ap (λ a. and_term (bit (p && q)) a) (not_bit s)
    ∙ and_bits (p && q) (not s)
    ∙ ap bit (differs_by (terms.as_set x) (terms.as_set y))

pub unequal_held : (r : Reading) (a d : Symbol) (x y id : ℕ) → IsSetOf x a → IsSetOf y d → unequal_term (r.term x) (r.term y) ≡ r.term id → held r.mode (truth_of (row_value r row.SetUnequal (a ∷ d ∷ []))) ≡ symbol_seen r (symbol_of base.Bool id)
unequal_held r a d x y id p q e =
    let f : Option Content → Option Content → Option Content = λ v w. truth_of (scalar_value row.SetUnequal (v ∷ w ∷ [])) in
    of_two r f a d a.base d.base x y (value_by base.Bool (r.term id)) p.of q.of
    (compared_same f (differs (terms.as_set (r.term x)) (terms.as_set (r.term y))) a.base d.base (r.term x) (r.term y) (r.term id) p.is q.is (unequal_on a.base d.base (terms.as_set (r.term x)) (terms.as_set (r.term y))) (sym e ∙ unequal_is (r.term x) (r.term y)))

-- ---- operations

abbrev both_combined : SetOp → Option (List Range) → Option (List Range) → Option (List Range)
both_combined op None u = None
both_combined op (Some s) None = None
both_combined op (Some s) (Some t) = Some (combined op s t)

combined_on : (op : SetOp) (b c : Base) (o u : Option (List Range)) → is_set b ≡ true → made_value (made_row.SetOf op) (set_by b o ∷ set_by c u ∷ []) ≡ set_by (combined_base b c) (both_combined op o u)
unfolding made_value set_at enum_at at as_set enum_of
combined_on op b c None u h = refl
combined_on op b c (Some s) None h = refl
combined_on op base.SetInt c (Some s) (Some t) h = refl
combined_on op (base.SetEnum e) c (Some s) (Some t) h = refl
combined_on op b c (Some s) (Some t) h = absurd (cc)

combined_set : (op : SetOp) (x y : Term) → terms.as_set (set_term op x y) ≡ both_combined op (terms.as_set x) (terms.as_set y)
unfolding set_term
combined_set op x y = by (terms.as_set x) (terms.as_set y)
  where
    by : (o u : Option (List Range)) → terms.as_set (o >>= λ s. (u >>= λ t. Some (set (combined op s t)))) ≡ both_combined op o u
    by None u = refl
    by (Some s) None = refl
    by (Some s) (Some t) = refl

combined_is_set : (b c : Base) → is_set b ≡ true → is_set c ≡ true → is_set (combined_base b c) ≡ true
combined_is_set base.SetInt c h k = k
combined_is_set (base.SetEnum e) c h k = refl
combined_is_set b c h k = absurd (cc)

pub combined_held : (r : Reading) (op : SetOp) (a d : Symbol) (x y id : ℕ) → IsSetOf x a → IsSetOf y d → set_term op (r.term x) (r.term y) ≡ r.term id → held r.mode (made_row_value r (made_row.SetOf op) (a ∷ d ∷ [])) ≡ symbol_seen r (symbol_of (combined_base a.base d.base) id)
combined_held r op a d x y id p q e =
    of_two r (λ v w. made_value (made_row.SetOf op) (v ∷ w ∷ [])) a d a.base d.base x y (value_by (combined_base a.base d.base) (r.term id)) p.of q.of
    (ap (λ v. made_value (made_row.SetOf op) (v ∷ argument_by d.base (r.term y) ∷ [])) (set_argument a.base (r.term x) p.is)
    ∙ ap (λ v. made_value (made_row.SetOf op) (set_by a.base (terms.as_set (r.term x)) ∷ v ∷ [])) (set_argument d.base (r.term y) q.is)
    ∙ combined_on op a.base d.base (terms.as_set (r.term x)) (terms.as_set (r.term y)) p.is
    ∙ ap (set_by (combined_base a.base d.base)) (sym (combined_set op (r.term x) (r.term y)) ∙ ap terms.as_set e)
    ∙ sym (set_value (combined_base a.base d.base) (r.term id) (combined_is_set a.base d.base p.is q.is)))

-- ---- how many elements

card_on : (b : Base) (o : Option (List Range)) → scalar_value row.Card (set_by b o ∷ []) ≡ option_map (λ s. values.int (pos (cardinality s))) o
unfolding scalar_value set_at at as_set
card_on b None = refl
card_on b (Some s) = refl

card_is : (x : Term) → value_by base.Int (card_term x) ≡ option_map (λ s. values.int (pos (cardinality s))) (terms.as_set x)
unfolding card_term
card_is x = by (terms.as_set x)
  where
    by : (o : Option (List Range)) → value_by base.Int (o >>= λ s. Some (number (pos (cardinality s)))) ≡ option_map (λ s. values.int (pos (cardinality s))) o
    by None = refl
    by (Some s) = refl

pub card_held : (r : Reading) (a : Symbol) (x id : ℕ) → IsSetOf x a → card_term (r.term x) ≡ r.term id → held r.mode (row_value r row.Card (a ∷ [])) ≡ symbol_seen r (symbol_of base.Int id)
card_held r a x id p e = of_one r (λ v. scalar_value row.Card (v ∷ [])) a a.base x (value_by base.Int (r.term id)) p.of
    (ap (λ v. scalar_value row.Card (v ∷ [])) (set_argument a.base (r.term x) p.is) ∙ card_on a.base (terms.as_set (r.term x)) ∙ sym (card_is (r.term x)) ∙ ap (value_by base.Int) e)

-- ---- the case beside a case

abbrev beside_in : Side → Option (List Range) → Option ℤ → Option ℤ
beside_in side None o = None
beside_in side (Some s) None = None
beside_in side (Some s) (Some n) = if contains s (beside side n) then Some (beside side n) else None

beside_on : (side : Side) (b : Base) (e : ℕ) (u : Option (List Range)) (o : Option ℤ) → scalar_value (row.Beside side) (set_by b u ∷ element_by (base.Enum e) o ∷ []) ≡ option_map (λ n. values.case e n) (beside_in side u o)
unfolding scalar_value set_at case_at at as_set as_case
beside_on side b e None o = refl
beside_on side b e (Some s) None = refl
beside_on side b e (Some s) (Some n) = by (contains s (beside side n))
  where
    by : (p : Bool) → (if p then Some (values.case e (beside side n)) else None) ≡ option_map (λ n. values.case e n) (if p then Some (beside side n) else None)
    by true = refl
    by false = refl

stepped : (side : Side) (n : ℤ) → n +ℤ step_of side ≡ beside side n
stepped Least n = omega (arith, ints)
stepped Greatest n = refl

next_is : (side : Side) (x : Term) → as_number (next_term side x) ≡ option_map (beside side) (as_number x)
unfolding arith_term computed
next_is side x = by (as_number x)
  where
    by : (o : Option ℤ) → as_number (o >>= λ i. (Some (step_of side) >>= λ j. (Some (i +ℤ j) >>= λ n. Some (number n)))) ≡ option_map (beside side) o
    by None = refl
    by (Some n) = ap (λ m. Some m) (stepped side n)

guard_number : (p : Bool) (y : Term) → as_number (guard_term (bit p) y) ≡ (if p then as_number y else None)
unfolding guard_term
guard_number true y = refl
guard_number false y = refl

beside_by : (side : Side) (u : Option (List Range)) (o : Option ℤ) → (if terms.is_member (option_map (beside side) o) u then option_map (beside side) o else None) ≡ beside_in side u o
beside_by side None None = refl
beside_by side None (Some n) = refl
beside_by side (Some s) None = refl
beside_by side (Some s) (Some n) = refl

beside_is : (side : Side) (s x : Term) → as_number (beside_term side s x) ≡ beside_in side (terms.as_set s) (as_number x)
beside_is side s x =
    ap (λ m. as_number (guard_term m (next_term side x))) (member_is (next_term side x) s)
    ∙ guard_number (terms.is_member (as_number (next_term side x)) (terms.as_set s)) (next_term side x)
    ∙ ap (λ o. if terms.is_member o (terms.as_set s) then o else None) (next_is side x)
    ∙ beside_by side (terms.as_set s) (as_number x)

pub beside_held : (r : Reading) (side : Side) (d a : Symbol) (e s x id : ℕ) → IsSetOf s d → IsCaseOf e x a → beside_term side (r.term s) (r.term x) ≡ r.term id → held r.mode (row_value r (row.Beside side) (d ∷ a ∷ [])) ≡ symbol_seen r (symbol_of (base.Enum e) id)
beside_held r side d a e s x id p q h =
    of_two r (λ v w. scalar_value (row.Beside side) (v ∷ w ∷ [])) d a d.base (base.Enum e) s x (value_by (base.Enum e) (r.term id)) p.of q
    (ap (λ v. scalar_value (row.Beside side) (v ∷ argument_by (base.Enum e) (r.term x) ∷ [])) (set_argument d.base (r.term s) p.is)
    ∙ beside_on side d.base e (terms.as_set (r.term s)) (as_number (r.term x))
    ∙ ap (option_map (λ n. values.case e n)) (sym (beside_is side (r.term s) (r.term x)) ∙ ap as_number h))
