-- The linear row that gives the sum of two integers, and the one that gives a number times an integer.
use Rattle.std.proofs.Common.{◌≡◌, ℕ, ◌+◌, ◌*◌, ◌≤◌, ◌^◌, max, ℤ, pos, neg_ℤ, ◌+ℤ◌, ◌*ℤ◌, ◌-ℤ◌, ◌≤ℤ◌, int_le, unsigned_abs, nat_le, Bool, true, false, List, [], ◌∷◌, ◌++◌, length, map, slice_get, Option, Some, None, IsSome, unwrap_or, cond, ◌&&◌, refl, sym, ap, ap₂, subst, ◌∙◌, arith, mul-le-mul_left}
use Rattle.std.proofs.lemmas.Bool.{and_parts, and_from, le-leb}
use Rattle.std.proofs.lemmas.Bool.Decides.{nat_tests}
use Rattle.std.proofs.lemmas.Int.{ints, clamps, unsigned_abs-mul}
use Rattle.mz_value.specs.Ranges.{Range, range_of}
use Rattle.mz_interval.specs.Ends.{Ends, between, hull_of, is_number, least_number, greatest_number, if_in_limit, if_interval}
use Rattle.mz_interval.specs.Rows.{sum_of, product_of}
use Rattle.mz_interval.proofs.Limits.{if_interval-ordered}
use Rattle.mz_operations.specs.declared.row.Arith.TheVariants as arith_op
use Rattle.mz_operations.specs.declared.row.Side.TheVariants.{Least, Greatest}
use Rattle.mz_operations.specs.Sets.{end_of}
use Rattle.mz_operations.specs.Bounds.{nothing, arith_ends, hull_of_set}
use Rattle.mz_operations.specs.Numbers.{computed}
use Rattle.mz_arena.specs.declared.node.NodeKind.TheVariants.{Add, Mul}
use Rattle.mz_arena.specs.Values as terms
use Rattle.mz_arena.specs.Values.{arith_term}
use Rattle.mz_arena.specs.Terms.{kind_term}
use Rattle.mz_arena.specs.Extents.{Known}
use Rattle.fz_program.specs.declared.program.Domain.{Domain}
use Rattle.fz_program.specs.declared.program.Domain.TheVariants.{Bool as Truths, Ints as Integers, SetOf}
use Rattle.fz_program.specs.declared.row_name.RowName.TheVariants.{IntLinEq}
use Rattle.fz_program.specs.declared.row_name.Kind.TheVariants.{Int}
use Rattle.fz_program.specs.Arguments.{Plain, bool, int, set, var, nested, Argument, one}
use Rattle.fz_program.specs.Values as values
use Rattle.fz_program.specs.Values.{Value, Values, linear}
use Rattle.fz_program.specs.Table.{line}
use Rattle.fz_program.specs.Flat.{Variable, Program, AreInDomains, IsSome as HasSome, argument_value, is_constant, is_plain, same_kind, is_argument, are_arguments, end_magnitude, domain_magnitude, magnitude_at, magnitude, weight, most, is_within}
use Rattle.fz_build.specs.Inputs.{is_sum}
use Rattle.fz_build.specs.Results.{result_given}
use Rattle.fz_build.specs.Bounds.{AreInputs, result_domain, form_of, domain_by, ends_of, domain_ends, variable_ends, plus, times, sum_ends, negative, excess_ends}
use Rattle.fz_build.specs.Bounds as domains
use Rattle.fz_build.specs.Build.{args_with, defined_variable}
use Rattle.fz_build.specs.Growth.{AreKept, HasDomain}
use Rattle.fz_build.proofs.Lists.{get_more, get_last}
use Rattle.flat_reif_rows.specs.Standing.{seen, seen_maybe, LiesWithin, Suits, AllSuit, of_kind, extent_over, term_over}
use Rattle.flat_reif_rows.specs.NodeRows.{sum_inputs, multiple_inputs}
use Rattle.flat_reif_rows.specs.Making.{MayGive}
use Rattle.flat_reif_rows.proofs.Sorts.{of_integer, suit_sort, sort_value}
use Rattle.flat_reif_rows.proofs.Keeping.{ends_kept}
use Rattle.flat_reif_rows.proofs.Given.{RowFits, Always}
use Rattle.flat_reif_rows.proofs.OtherRows.{hull_of_range}
use Rattle.flat_reif_rows.proofs.NumberRows.{ordered, OfArith, of_arith, arith_narrow, arith_ordered, IsNarrow, number_out, on_two}

-- ---- bounds of sums of products

pub interval_limit : (e : Ends) → if_interval e ≡ Some e → if_in_limit e ≡ Some e
interval_limit e h = sym (if_interval-ordered e (ordered e h)) ∙ h

once : (x : ℤ) → pos 1 *ℤ x ≡ x
once x = omega (arith, ints)

product_of_one : (e : Ends) → e.0 ≤ℤ e.1 → product_of (pos 1, pos 1) e ≡ e
product_of_one e o =
    let a = once e.0 in
    let b = once e.1 in
    let lo : (product_of (pos 1, pos 1) e).0 ≡ e.0 = omega (arith, ints, clamps, a, b, o) in
    let hi : (product_of (pos 1, pos 1) e).1 ≡ e.1 = omega (arith, ints, clamps, a, b, o) in
    λ i. (lo i, hi i)

times_one : (e : Ends) → if_interval e ≡ Some e → times (if_interval (pos 1, pos 1)) (if_interval e) ≡ Some e
times_one e h = ap (times (Some (pos 1, pos 1))) h ∙ ap if_in_limit (product_of_one e (ordered e h)) ∙ interval_limit e h

sum_of_zero : (e : Ends) → sum_of nothing e ≡ e
sum_of_zero e =
    let lo : (sum_of nothing e).0 ≡ e.0 = omega (arith, ints) in
    let hi : (sum_of nothing e).1 ≡ e.1 = omega (arith, ints) in
    λ i. (lo i, hi i)

zero_sum_of : (e : Ends) → sum_of e nothing ≡ e
zero_sum_of e =
    let lo : (sum_of e nothing).0 ≡ e.0 = omega (arith, ints) in
    let hi : (sum_of e nothing).1 ≡ e.1 = omega (arith, ints) in
    λ i. (lo i, hi i)

zero_plus : (e : Ends) → if_in_limit e ≡ Some e → plus (Some nothing) (Some e) ≡ Some e
zero_plus e h = ap if_in_limit (sum_of_zero e) ∙ h

plus_zero : (e : Ends) → if_in_limit e ≡ Some e → plus (Some e) (negative (if_interval nothing)) ≡ Some e
plus_zero e h = ap if_in_limit (zero_sum_of e) ∙ h

-- ---- what the variables weigh

pub are_numbers : (e : Ends) → if_in_limit e ≡ Some e → (is_number e.0 ≡ true) × (is_number e.1 ≡ true)
are_numbers e h = by (is_number e.0 && is_number e.1) refl h
  where
    by : (t : Bool) → (is_number e.0 && is_number e.1) ≡ t → cond t (Some e) None ≡ Some e → (is_number e.0 ≡ true) × (is_number e.1 ≡ true)
    by true p k = and_parts (is_number e.0) (is_number e.1) p
    by false p k = absurd (cc)

pub above : (a b : ℤ) → int_le a b ≡ true → a ≤ℤ b
above a b h = grind (arith, ints)

small : (n : ℤ) → is_number n ≡ true → unsigned_abs n ≤ 2 ^ 61
small n h =
    let b = and_parts (int_le least_number n) (int_le n greatest_number) h in
    let low : neg_ℤ (pos (2 ^ 61)) ≤ℤ n = above least_number n b.0 in
    let high : n ≤ℤ pos (2 ^ 61) = above n greatest_number b.1 in
    omega (arith, ints, low, high)

end_is : (o : Option ℤ) → end_magnitude o ≡ unsigned_abs (unwrap_or o (pos 0))
end_is None = refl
end_is (Some n) = refl

-- the greater magnitude of the two ends
abbrev size : Ends → ℕ
size e = max (unsigned_abs e.0) (unsigned_abs e.1)

set_size : (s : List Range) → max (end_magnitude (end_of Least s)) (end_magnitude (end_of Greatest s)) ≡ size (hull_of_set s)
set_size s = ap₂ max (end_is (end_of Least s)) (end_is (end_of Greatest s))

domain_size : (d : Domain) → domain_magnitude d ≤ size (domain_ends d)
domain_size Truths = omega arith
domain_size (Integers s) = let h = set_size s in omega (arith, h)
domain_size (SetOf s) = omega arith

variable_size : (o : Option Variable) → magnitude_at o ≤ size (variable_ends o)
variable_size None = omega arith
variable_size (Some v) = domain_size v.domain

plain_size : (vs : List Variable) (p : Plain) → magnitude vs p ≤ size (ends_of vs p)
plain_size vs (var k) = variable_size (slice_get vs k)
plain_size vs (bool b) = omega arith
plain_size vs (int n) = omega arith
plain_size vs (set s) = omega arith
plain_size vs nested = omega arith

small_size : (e : Ends) → if_in_limit e ≡ Some e → size e ≤ 2 ^ 61
small_size e h =
    let n = are_numbers e h in
    let a = small e.0 n.0 in
    let b = small e.1 n.1 in
    omega (arith, a, b)

small_plain : (vs : List Variable) (p : Plain) (e : Ends) → ends_of vs p ≡ e → if_in_limit e ≡ Some e → magnitude vs p ≤ 2 ^ 61
small_plain vs p e is h =
    let a : magnitude vs p ≤ size e = subst (λ (z : Ends). magnitude vs p ≤ size z) is (plain_size vs p) in
    let b = small_size e h in
    omega (arith, a, b)

-- ---- the new variable beside the old ones

abbrev more : Program → Domain → List Variable
more p d = p.vars ++ defined_variable p d ∷ []

kept : (p : Program) (d : Domain) → AreKept p.vars (more p d)
kept p d = λ k v h. get_more p.vars (defined_variable p d ∷ []) k v h

old_ends : (p : Program) (d : Domain) (a : Plain) → is_plain p.vars Int a ≡ true → ends_of (more p d) a ≡ ends_of p.vars a
old_ends p d a h = ends_kept p.vars (more p d) (kept p d) Int a h

new_ends : (p : Program) (g : Ends) → if_interval g ≡ Some g → ends_of (more p (Integers (range_of g.0 g.1))) (var (length p.vars)) ≡ g
new_ends p g h = let d = Integers (range_of g.0 g.1) in ap variable_ends (get_last p.vars (defined_variable p d)) ∙ hull_of_range g h

-- ---- a sum of two

sum_weight : (x y z : ℕ) → x ≤ 2 ^ 61 → y ≤ 2 ^ 61 → z ≤ 2 ^ 61 → nat_le (0 + (1 * x + (1 * y + (1 * z + 0)))) most ≡ true
sum_weight x y z p q r = le-leb (0 + (1 * x + (1 * y + (1 * z + 0)))) most (omega (arith, p, q, r))

core_sum : (v : terms.Values) (m n : ℤ) → kind_term v (of_kind Add) Add (Some (terms.number m) ∷ Some (terms.number n) ∷ []) ≡ seen_maybe (result_given IntLinEq (values.many (values.number (pos 1) ∷ values.number (pos 1) ∷ []) ∷ values.many (values.number m ∷ values.number n ∷ []) ∷ values.one (values.number (pos 0)) ∷ []))
unfolding line is_sum arith_term computed linear
core_sum v m n = let e : m +ℤ n ≡ (pos 1 *ℤ m +ℤ (pos 1 *ℤ n +ℤ pos 0)) -ℤ pos 0 = omega (arith, ints) in ap (λ z. Some (terms.number z)) e

module _ (a b : Plain) where
  abbrev Given : List Argument
  Given = sum_inputs (one a) (one b)

  sum_are : (vs : List Variable) → is_plain vs Int a ≡ true → is_plain vs Int b ≡ true → AreInputs vs IntLinEq Given
  unfolding line is_sum are_arguments is_argument is_constant same_kind
  sum_are vs h l = and_from (is_plain vs Int a && (is_plain vs Int b && true)) true (and_from (is_plain vs Int a) (is_plain vs Int b && true) h (and_from (is_plain vs Int b) true l refl)) refl

  sum_excess : (vs : List Variable) (e f : Ends) → ends_of vs a ≡ e → ends_of vs b ≡ f → if_interval e ≡ Some e → if_interval f ≡ Some f → if_in_limit (sum_of e f) ≡ Some (sum_of e f) → excess_ends vs Given ≡ Some (sum_of e f)
  unfolding sum_ends
  sum_excess vs e f p q h l limit =
      ap₂ (λ (i j : Ends). plus (plus (plus (Some nothing) (times (if_interval (pos 1, pos 1)) (if_interval i))) (times (if_interval (pos 1, pos 1)) (if_interval j))) (negative (if_interval nothing))) p q
      ∙ ap₂ (λ i j. plus (plus (plus (Some nothing) i) j) (negative (if_interval nothing))) (times_one e h) (times_one f l)
      ∙ ap (λ i. plus (plus i (Some f)) (negative (if_interval nothing))) (zero_plus e (interval_limit e h))
      ∙ ap (λ i. plus i (negative (if_interval nothing))) limit
      ∙ plus_zero (sum_of e f) limit

  sum_narrow : (vs : List Variable) (x y : Known) (o : OfArith arith_op.Add x y) → Suits vs a x → Suits vs b y → IsNarrow vs IntLinEq Given (arith_ends arith_op.Add o.left.ends o.right.ends)
  unfolding form_of domain_by arith_ends
  sum_narrow vs x y o s t =
      let l : LiesWithin Int vs a o.left.ends = subst (Suits vs a) o.left.is s in
      let m : LiesWithin Int vs b o.right.ends = subst (Suits vs b) o.right.is t in
      let n = arith_narrow arith_op.Add vs a b o.left.ends o.right.ends l m o.limit tt in
      record {
        ends = sum_of (ends_of vs a) (ends_of vs b);
        is = ap domains.whole (sum_excess vs (ends_of vs a) (ends_of vs b) refl refl l.interval m.interval n.1);
        limit = n.1;
        within = n.0;
      }

  sum_light : (p : Program) (g : Ends) → is_plain p.vars Int a ≡ true → is_plain p.vars Int b ≡ true → if_in_limit (ends_of p.vars a) ≡ Some (ends_of p.vars a) → if_in_limit (ends_of p.vars b) ≡ Some (ends_of p.vars b) → if_interval g ≡ Some g → is_within (more p (Integers (range_of g.0 g.1))) (args_with IntLinEq Given (length p.vars)) ≡ true
  unfolding is_sum is_within weight
  sum_light p g h l i j k =
      let d = Integers (range_of g.0 g.1) in
      sum_weight (magnitude (more p d) a) (magnitude (more p d) b) (magnitude (more p d) (var (length p.vars)))
      (small_plain (more p d) a (ends_of p.vars a) (old_ends p d a h) i)
      (small_plain (more p d) b (ends_of p.vars b) (old_ends p d b l) j)
      (small_plain (more p d) (var (length p.vars)) g (new_ends p g k) (interval_limit g k))

  sum_may : (p : Program) (xs : List Known) → AllSuit p.vars (a ∷ b ∷ []) xs → IsSome (extent_over Add xs) → MayGive p IntLinEq Given
  unfolding sum_narrow
  sum_may p xs u = on_two p.vars a b (λ xs. IsSome (extent_over Add xs) → MayGive p IntLinEq Given) (λ x y s t h.
      let o = of_arith arith_op.Add x y h in
      let n = sum_narrow p.vars x y o s t in
      let l : LiesWithin Int p.vars a o.left.ends = subst (Suits p.vars a) o.left.is s in
      let m : LiesWithin Int p.vars b o.right.ends = subst (Suits p.vars b) o.right.is t in
      let rises : (sum_of (ends_of p.vars a) (ends_of p.vars b)).0 ≤ℤ (sum_of (ends_of p.vars a) (ends_of p.vars b)).1 = omega (arith, ints, ordered (ends_of p.vars a) l.interval, ordered (ends_of p.vars b) m.interval) in
      record {
        are = sum_are p.vars l.sort m.sort;
        domain = Integers (range_of n.ends.0 n.ends.1);
        is = n.is;
        within = λ row. sum_light p n.ends l.sort m.sort (interval_limit (ends_of p.vars a) l.interval) (interval_limit (ends_of p.vars b) m.interval) (if_interval-ordered n.ends rises ∙ n.limit);
      }) xs u

  sum_suits : (vs ws : List Variable) (xs : List Known) (d : Domain) (out : Plain) → AllSuit vs (a ∷ b ∷ []) xs → IsSome (extent_over Add xs) → result_domain vs IntLinEq Given ≡ Some d → HasSome d → HasDomain ws out d → Suits ws out (extent_over Add xs)
  sum_suits vs ws xs d out u h is some typed = on_two vs a b (λ xs. IsSome (extent_over Add xs) → Suits ws out (extent_over Add xs)) (λ x y s t h.
      let o = of_arith arith_op.Add x y h in
      subst (Suits ws out) (sym o.extent) (number_out vs ws IntLinEq Given (arith_ends arith_op.Add o.left.ends o.right.ends) (sum_narrow vs x y o s t) d out is some typed)) xs u h

  sum_same : (vs : List Variable) (xs : List Known) → AllSuit vs (a ∷ b ∷ []) xs → IsSome (extent_over Add xs) → (v : terms.Values) (f : Values) → AreInDomains vs f → term_over v Add (a ∷ b ∷ []) f ≡ seen_maybe (result_given IntLinEq (map (argument_value f) Given))
  sum_same vs xs u h v f d = on_two vs a b (λ xs. IsSome (extent_over Add xs) → term_over v Add (a ∷ b ∷ []) f ≡ seen_maybe (result_given IntLinEq (map (argument_value f) Given))) (λ x y s t h.
      let o = of_arith arith_op.Add x y h in
      let m = sort_value of_integer vs f a d (suit_sort of_integer vs a x o.left s) in
      let n = sort_value of_integer vs f b d (suit_sort of_integer vs b y o.right t) in
      ap₂ (λ i j. kind_term v (of_kind Add) Add (Some (seen i) ∷ Some (seen j) ∷ [])) m.is n.is
      ∙ core_sum v m.raw n.raw
      ∙ ap₂ (λ i j. seen_maybe (result_given IntLinEq (values.many (values.number (pos 1) ∷ values.number (pos 1) ∷ []) ∷ values.many (i ∷ j ∷ []) ∷ values.one (values.number (pos 0)) ∷ []))) (sym m.is) (sym n.is)) xs u h

  pub row_sum : RowFits Add IntLinEq (a ∷ b ∷ []) Given Always
  row_sum = record { may = λ p c. sum_may p; suits = λ vs ws c. sum_suits vs ws; same = sum_same }

-- ---- a number times an integer

zero_constant : is_constant Int (int (pos 0)) ≡ true
unfolding is_constant same_kind
zero_constant = refl

abbrev point : ℤ → Ends
point n = (n, n)

hull_small : (x y : ℤ) → neg_ℤ (pos (2 ^ 61)) ≤ℤ (hull_of (between x y) (between x y)).0 → (hull_of (between x y) (between x y)).1 ≤ℤ pos (2 ^ 61) → (unsigned_abs x ≤ 2 ^ 61) × (unsigned_abs y ≤ 2 ^ 61)
hull_small x y low high = (omega (arith, ints, clamps, low, high), omega (arith, ints, clamps, low, high))

-- a number's product with each end is in the limit, so that with the greater magnitude is
product_numbers : (n : ℤ) (e : Ends) → if_in_limit (product_of (point n) e) ≡ Some (product_of (point n) e) → (unsigned_abs (n *ℤ e.0) ≤ 2 ^ 61) × (unsigned_abs (n *ℤ e.1) ≤ 2 ^ 61)
product_numbers n e h =
    let s = are_numbers (product_of (point n) e) h in
    let lo = and_parts (int_le least_number (product_of (point n) e).0) (int_le (product_of (point n) e).0 greatest_number) s.0 in
    let hi = and_parts (int_le least_number (product_of (point n) e).1) (int_le (product_of (point n) e).1 greatest_number) s.1 in
    let low : neg_ℤ (pos (2 ^ 61)) ≤ℤ (product_of (point n) e).0 = above least_number (product_of (point n) e).0 lo.0 in
    let high : (product_of (point n) e).1 ≤ℤ pos (2 ^ 61) = above (product_of (point n) e).1 greatest_number hi.1 in
    hull_small (n *ℤ e.0) (n *ℤ e.1) low high

greater : (k x y m : ℕ) → k * x ≤ m → k * y ≤ m → k * max x y ≤ m
greater k x y m p q = by (nat_le x y) refl
  where
    by : (t : Bool) → nat_le x y ≡ t → k * max x y ≤ m
    by true h = let l : x ≤ y = grind (arith, nat_tests) in let e : max x y ≡ y = omega (arith, l) in subst (λ z. k * z ≤ m) (sym e) q
    by false h = let l : y ≤ x = grind (arith, nat_tests) in let e : max x y ≡ x = omega (arith, l) in subst (λ z. k * z ≤ m) (sym e) p

product_size : (n : ℤ) (e : Ends) → if_in_limit (product_of (point n) e) ≡ Some (product_of (point n) e) → unsigned_abs n * size e ≤ 2 ^ 61
product_size n e h =
    let s = product_numbers n e h in
    let a : unsigned_abs n * unsigned_abs e.0 ≤ 2 ^ 61 = subst (λ z. z ≤ 2 ^ 61) (unsigned_abs-mul n e.0) s.0 in
    let b : unsigned_abs n * unsigned_abs e.1 ≤ 2 ^ 61 = subst (λ z. z ≤ 2 ^ 61) (unsigned_abs-mul n e.1) s.1 in
    greater (unsigned_abs n) (unsigned_abs e.0) (unsigned_abs e.1) (2 ^ 61) a b

product_magnitude : (n : ℤ) (vs : List Variable) (p : Plain) (e : Ends) → ends_of vs p ≡ e → if_in_limit (product_of (point n) e) ≡ Some (product_of (point n) e) → unsigned_abs n * magnitude vs p ≤ 2 ^ 61
product_magnitude n vs p e is h =
    let a : magnitude vs p ≤ size e = subst (λ (z : Ends). magnitude vs p ≤ size z) is (plain_size vs p) in
    let b = product_size n e h in
    let c = mul-le-mul_left (unsigned_abs n) a in
    omega (arith, b, c)

multiple_weight : (x z : ℕ) → x ≤ 2 ^ 61 → z ≤ 2 ^ 61 → nat_le (0 + (x + (1 * z + 0))) most ≡ true
multiple_weight x z p q = le-leb (0 + (x + (1 * z + 0))) most (omega (arith, p, q))

less_nothing : (z : ℤ) → z ≡ (z +ℤ pos 0) -ℤ pos 0
less_nothing z = omega (arith, ints)

core_multiple : (v : terms.Values) (n m : ℤ) → kind_term v (of_kind Mul) Mul (Some (terms.number n) ∷ Some (terms.number m) ∷ []) ≡ seen_maybe (result_given IntLinEq (values.many (values.number n ∷ []) ∷ values.many (values.number m ∷ []) ∷ values.one (values.number (pos 0)) ∷ []))
unfolding line is_sum arith_term computed linear
core_multiple v n m = ap (λ z. Some (terms.number z)) (less_nothing (n *ℤ m))

module _ (n : ℤ) (b : Plain) where
  abbrev Multiple : List Argument
  Multiple = multiple_inputs n (one b)

  multiple_are : (vs : List Variable) → is_plain vs Int (int n) ≡ true → is_plain vs Int b ≡ true → AreInputs vs IntLinEq Multiple
  unfolding line is_sum are_arguments is_argument is_plain
  multiple_are vs h l =
      let last : is_constant Int (int (pos 0)) ≡ true = zero_constant in
      and_from (is_constant Int (int n) && true) _ (and_from (is_constant Int (int n)) true h refl) (and_from (is_plain vs Int b && true) _ (and_from (is_plain vs Int b) true l refl) (and_from (is_constant Int (int (pos 0))) true last refl))

  multiple_excess : (vs : List Variable) (f : Ends) → ends_of vs b ≡ f → if_interval (point n) ≡ Some (point n) → if_interval f ≡ Some f → if_in_limit (product_of (point n) f) ≡ Some (product_of (point n) f) → excess_ends vs Multiple ≡ Some (product_of (point n) f)
  unfolding sum_ends
  multiple_excess vs f q h l limit =
      ap (λ (j : Ends). plus (plus (Some nothing) (times (if_interval (point n)) (if_interval j))) (negative (if_interval nothing))) q
      ∙ ap₂ (λ i j. plus (plus (Some nothing) (times i j)) (negative (if_interval nothing))) h l
      ∙ ap (λ i. plus (plus (Some nothing) i) (negative (if_interval nothing))) limit
      ∙ ap (λ i. plus i (negative (if_interval nothing))) (zero_plus (product_of (point n) f) limit)
      ∙ plus_zero (product_of (point n) f) limit

  multiple_narrow : (vs : List Variable) (x y : Known) (o : OfArith arith_op.Mul x y) → Suits vs (int n) x → Suits vs b y → IsNarrow vs IntLinEq Multiple (arith_ends arith_op.Mul o.left.ends o.right.ends)
  unfolding form_of domain_by arith_ends
  multiple_narrow vs x y o s t =
      let l : LiesWithin Int vs (int n) o.left.ends = subst (Suits vs (int n)) o.left.is s in
      let m : LiesWithin Int vs b o.right.ends = subst (Suits vs b) o.right.is t in
      let i = arith_narrow arith_op.Mul vs (int n) b o.left.ends o.right.ends l m o.limit tt in
      record {
        ends = product_of (point n) (ends_of vs b);
        is = ap domains.whole (multiple_excess vs (ends_of vs b) refl l.interval m.interval i.1);
        limit = i.1;
        within = i.0;
      }

  multiple_light : (p : Program) (g : Ends) → is_plain p.vars Int b ≡ true → if_in_limit (product_of (point n) (ends_of p.vars b)) ≡ Some (product_of (point n) (ends_of p.vars b)) → if_interval g ≡ Some g → is_within (more p (Integers (range_of g.0 g.1))) (args_with IntLinEq Multiple (length p.vars)) ≡ true
  unfolding is_sum is_within weight
  multiple_light p g l j k =
      let d = Integers (range_of g.0 g.1) in
      multiple_weight (unsigned_abs n * magnitude (more p d) b) (magnitude (more p d) (var (length p.vars)))
      (product_magnitude n (more p d) b (ends_of p.vars b) (old_ends p d b l) j)
      (small_plain (more p d) (var (length p.vars)) g (new_ends p g k) (interval_limit g k))

  multiple_rises : (f : Ends) → f.0 ≤ℤ f.1 → (product_of (point n) f).0 ≤ℤ (product_of (point n) f).1
  unfolding arith_ends
  multiple_rises f o = arith_ordered arith_op.Mul (point n) f (omega (arith, ints)) o tt

  multiple_may : (p : Program) (xs : List Known) → AllSuit p.vars (int n ∷ b ∷ []) xs → IsSome (extent_over Mul xs) → MayGive p IntLinEq Multiple
  unfolding multiple_narrow
  multiple_may p xs u = on_two p.vars (int n) b (λ xs. IsSome (extent_over Mul xs) → MayGive p IntLinEq Multiple) (λ x y s t h.
      let o = of_arith arith_op.Mul x y h in
      let i = multiple_narrow p.vars x y o s t in
      let l : LiesWithin Int p.vars (int n) o.left.ends = subst (Suits p.vars (int n)) o.left.is s in
      let m : LiesWithin Int p.vars b o.right.ends = subst (Suits p.vars b) o.right.is t in
      let rises = multiple_rises (ends_of p.vars b) (ordered (ends_of p.vars b) m.interval) in
      record {
        are = multiple_are p.vars l.sort m.sort;
        domain = Integers (range_of i.ends.0 i.ends.1);
        is = i.is;
        within = λ row. multiple_light p i.ends m.sort i.limit (if_interval-ordered i.ends rises ∙ i.limit);
      }) xs u

  multiple_suits : (vs ws : List Variable) (xs : List Known) (d : Domain) (out : Plain) → AllSuit vs (int n ∷ b ∷ []) xs → IsSome (extent_over Mul xs) → result_domain vs IntLinEq Multiple ≡ Some d → HasSome d → HasDomain ws out d → Suits ws out (extent_over Mul xs)
  multiple_suits vs ws xs d out u h is some typed = on_two vs (int n) b (λ xs. IsSome (extent_over Mul xs) → Suits ws out (extent_over Mul xs)) (λ x y s t h.
      let o = of_arith arith_op.Mul x y h in
      subst (Suits ws out) (sym o.extent) (number_out vs ws IntLinEq Multiple (arith_ends arith_op.Mul o.left.ends o.right.ends) (multiple_narrow vs x y o s t) d out is some typed)) xs u h

  multiple_same : (vs : List Variable) (xs : List Known) → AllSuit vs (int n ∷ b ∷ []) xs → IsSome (extent_over Mul xs) → (v : terms.Values) (f : Values) → AreInDomains vs f → term_over v Mul (int n ∷ b ∷ []) f ≡ seen_maybe (result_given IntLinEq (map (argument_value f) Multiple))
  multiple_same vs xs u h v f d = on_two vs (int n) b (λ xs. IsSome (extent_over Mul xs) → term_over v Mul (int n ∷ b ∷ []) f ≡ seen_maybe (result_given IntLinEq (map (argument_value f) Multiple))) (λ x y s t h.
      let o = of_arith arith_op.Mul x y h in
      let m = sort_value of_integer vs f b d (suit_sort of_integer vs b y o.right t) in
      ap (λ j. kind_term v (of_kind Mul) Mul (Some (terms.number n) ∷ Some (seen j) ∷ [])) m.is
      ∙ core_multiple v n m.raw
      ∙ ap (λ j. seen_maybe (result_given IntLinEq (values.many (values.number n ∷ []) ∷ values.many (j ∷ []) ∷ values.one (values.number (pos 0)) ∷ []))) (sym m.is)) xs u h

  pub row_multiple : RowFits Mul IntLinEq (int n ∷ b ∷ []) Multiple Always
  row_multiple = record { may = λ p c. multiple_may p; suits = λ vs ws c. multiple_suits vs ws; same = multiple_same }
