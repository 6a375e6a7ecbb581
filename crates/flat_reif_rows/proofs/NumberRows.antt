-- The rows that give an integer, whose bounds lie in those of the node: of two integers, of one, and of a set.
use Rattle.std.proofs.Common.{◌≡◌, ◌≢◌, ℤ, pos, ◌≤ℤ◌, int_le, Bool, true, false, List, [], ◌∷◌, map, Option, Some, None, IsSome, option_map, cond, ◌&&◌, refl, sym, ap, ap₂, subst, ◌∙◌, arith}
use Rattle.std.specs.Ordering.{int_eq}
use Rattle.std.proofs.lemmas.Bool.{and_parts, and_from}
use Rattle.std.proofs.lemmas.Int.{ints, clamps}
use Rattle.mz_value.specs.Ranges.{Range, range_of, cardinality}
use Rattle.mz_value.proofs.Comparisons.{int_le_true}
use Rattle.mz_interval.specs.Ends.{Ends, Encloses, is_number, least_number, greatest_number, if_in_limit, if_interval}
use Rattle.mz_interval.proofs.Limits.{if_interval-ordered}
use Rattle.mz_interval.proofs.Products.{product_of-encloses}
use Rattle.mz_interval.proofs.Quotients.{quotient_of-encloses}
use Rattle.mz_interval.proofs.Remainders.{remainder_of-encloses}
use Rattle.mz_operations.specs.declared.row.Arith.{Arith}
use Rattle.mz_operations.specs.declared.row.Arith.TheVariants.{Add, Sub, Mul, Div, Mod, Min, Max}
use Rattle.mz_operations.specs.declared.row.Sign.TheVariants as sign_row
use Rattle.mz_operations.specs.Bounds.{arith_ends, sign_ends, toward_ends, card_ends}
use Rattle.mz_operations.specs.Numbers.{computed, toward}
use Rattle.mz_operations.specs.Views.{◌>>=◌}
use Rattle.mz_operations.specs.Monotone.{IsWithin, MayDivide}
use Rattle.mz_operations.proofs.Numbers.{arith_is_monotone, sign_is_monotone}
use Rattle.mz_operations.proofs.Sets.{card_is_monotone}
use Rattle.mz_arena.specs.declared.node.NodeKind.{NodeKind}
use Rattle.mz_arena.specs.declared.node.NodeKind.TheVariants as kinds
use Rattle.mz_arena.specs.Values as terms
use Rattle.mz_arena.specs.Values.{arith_term, sign_term, card_term}
use Rattle.mz_arena.specs.Terms.{kind_term}
use Rattle.mz_arena.specs.Extents.{Known, whole, as_whole, as_subset, arith_bounds, arith_extent, abs_bounds, abs_extent, card_bounds, card_extent}
use Rattle.fz_program.specs.declared.program.Domain.{Domain}
use Rattle.fz_program.specs.declared.program.Domain.TheVariants.{Ints as Integers}
use Rattle.fz_program.specs.declared.row_name.RowName.{RowName}
use Rattle.fz_program.specs.declared.row_name.RowName.TheVariants as rows
use Rattle.fz_program.specs.declared.row_name.Kind.{Kind}
use Rattle.fz_program.specs.declared.row_name.Kind.TheVariants.{Int, Set}
use Rattle.fz_program.specs.Arguments.{Plain, Argument, one}
use Rattle.fz_program.specs.Values as values
use Rattle.fz_program.specs.Values.{Value, Values}
use Rattle.fz_program.specs.Table.{line}
use Rattle.fz_program.specs.Flat.{Variable, Program, AreInDomains, IsSome as HasSome, argument_value, same_kind, kind_of_domain, is_plain, is_argument, are_arguments}
use Rattle.fz_build.specs.Inputs.{is_sum}
use Rattle.fz_build.specs.Results.{result_given}
use Rattle.fz_build.specs.Bounds.{AreInputs, result_domain, form_of, domain_by, ends_of, upper_of, domain_ends, arith_by, magnitude_by}
use Rattle.fz_build.specs.Bounds as domains
use Rattle.fz_build.specs.Asked.{is_linear_row}
use Rattle.fz_build.specs.Growth.{HasDomain}
use Rattle.flat_reif_rows.specs.Standing.{seen, seen_maybe, LiesWithin, IsPartOf, Suits, AllSuit, of_kind, extent_over, term_over}
use Rattle.flat_reif_rows.specs.Making.{MayGive}
use Rattle.flat_reif_rows.proofs.Sorts.{of_integer, of_set, OfWhole, OfSubset, whole_of, subset_of, first_there, both_there, suit_sort, sort_value}
use Rattle.flat_reif_rows.proofs.Given.{RowFits, Always}
use Rattle.flat_reif_rows.proofs.TruthRows.{domain_kind, ends_out, same_some, not_linear, two_inputs}
use Rattle.flat_reif_rows.proofs.OtherRows.{hull_of_range}

-- ---- ranges that lie in others

pub ordered : (e : Ends) → if_interval e ≡ Some e → e.0 ≤ℤ e.1
ordered e h = by (int_le e.0 e.1) refl h
  where
    by : (t : Bool) → int_le e.0 e.1 ≡ t → cond t (if_in_limit e) None ≡ Some e → e.0 ≤ℤ e.1
    by true p k = grind (arith, ints)
    by false p k = absurd (cc)

up_to : (a b c : ℤ) → int_le a b ≡ true → b ≤ℤ c → int_le a c ≡ true
up_to a b c p h = let l : a ≤ℤ b = grind (arith, ints) in int_le_true a c (omega (arith, ints, l, h))

down_to : (a b c : ℤ) → int_le b c ≡ true → a ≤ℤ b → int_le a c ≡ true
down_to a b c p h = let l : b ≤ℤ c = grind (arith, ints) in int_le_true a c (omega (arith, ints, l, h))

number_between : (lo x hi : ℤ) → is_number lo ≡ true → is_number hi ≡ true → lo ≤ℤ x → x ≤ℤ hi → is_number x ≡ true
number_between lo x hi p q l h =
    let a = and_parts (int_le least_number lo) (int_le lo greatest_number) p in
    let b = and_parts (int_le least_number hi) (int_le hi greatest_number) q in
    and_from (int_le least_number x) (int_le x greatest_number) (up_to least_number lo x a.0 l) (down_to x hi greatest_number b.1 h)

pub limit_there : (e : Ends) → IsSome (if_in_limit e) → if_in_limit e ≡ Some e
limit_there e h = by (is_number e.0 && is_number e.1) h
  where
    by : (t : Bool) → IsSome (cond t (Some e) None) → cond t (Some e) None ≡ Some e
    by true k = refl
    by false k = absurd (cc)

pub limit_inside : (e g : Ends) → if_in_limit g ≡ Some g → IsWithin e g → e.0 ≤ℤ e.1 → if_in_limit e ≡ Some e
limit_inside e g h w o = by (is_number g.0 && is_number g.1) refl h
  where
    low : g.0 ≤ℤ e.1
    low = omega (arith, ints, w.from)

    high : e.0 ≤ℤ g.1
    high = omega (arith, ints, w.to)

    by : (t : Bool) → (is_number g.0 && is_number g.1) ≡ t → cond t (Some g) None ≡ Some g → if_in_limit e ≡ Some e
    by true p k =
        let n = and_parts (is_number g.0) (is_number g.1) p in
        ap (λ t. cond t (Some e) None) (and_from (is_number e.0) (is_number e.1) (number_between g.0 e.0 g.1 n.0 n.1 w.from high) (number_between g.0 e.1 g.1 n.0 n.1 low w.to))
    by false p k = absurd (cc)

has_number : (f : Ends) → range_of f.0 f.1 ≢ [] → f.0 ≤ℤ f.1
has_number f h = by (int_le f.0 f.1) refl h
  where
    by : (t : Bool) → int_le f.0 f.1 ≡ t → cond {A = List Range} t ((f.0, f.1) ∷ []) [] ≢ [] → f.0 ≤ℤ f.1
    by true p k = grind (arith, ints)
    by false p k = absurd (k refl)

pub mapped : {A B : Type 0} (g : A → B) (o : Option A) → IsSome (option_map g o) → IsSome o
mapped g None h = absurd (cc)
mapped g (Some a) h = refl

-- ---- the children of a node

pub on_one : (vs : List Variable) (a : Plain) (P : List Known → Type 0) → ((x : Known) → Suits vs a x → P (x ∷ [])) → (xs : List Known) → AllSuit vs (a ∷ []) xs → P xs
on_one vs a P f [] u = absurd u
on_one vs a P f (x ∷ []) u = f x u.0
on_one vs a P f (x ∷ y ∷ xs) u = absurd (u.1)

pub on_two : (vs : List Variable) (a b : Plain) (P : List Known → Type 0) → ((x y : Known) → Suits vs a x → Suits vs b y → P (x ∷ y ∷ [])) → (xs : List Known) → AllSuit vs (a ∷ b ∷ []) xs → P xs
on_two vs a b P f [] u = absurd u
on_two vs a b P f (x ∷ []) u = absurd (u.1)
on_two vs a b P f (x ∷ y ∷ []) u = f x y u.0 u.1.0
on_two vs a b P f (x ∷ y ∷ z ∷ zs) u = absurd (u.1.1)

pub one_argument : (vs : List Variable) (j : Kind) (a : Plain) → is_argument vs j (one a) ≡ true → are_arguments vs (j ∷ []) (one a ∷ []) ≡ true
unfolding are_arguments
one_argument vs j a h = and_from (is_argument vs j (one a)) true h refl

-- ---- the domain of what a row gives lies in the bounds of the node

pub record IsNarrow (vs : List Variable) (name : RowName) (inputs : List Argument) (g : Ends) : Type 0 where
  pub ends : Ends
  pub is : result_domain vs name inputs ≡ Some (Integers (range_of ends.0 ends.1))
  pub limit : if_in_limit ends ≡ Some ends
  pub within : IsWithin ends g

pub number_out : (vs ws : List Variable) (name : RowName) (inputs : List Argument) (g : Ends) → IsNarrow vs name inputs g → (d : Domain) (out : Plain) → result_domain vs name inputs ≡ Some d → HasSome d → HasDomain ws out d → LiesWithin Int ws out g
unfolding same_kind kind_of_domain
number_out vs ws name inputs g n d out is some typed =
    let f : Ends = n.ends in
    let domain : d ≡ Integers (range_of f.0 f.1) = same_some d (Integers (range_of f.0 f.1)) (sym is ∙ n.is) in
    let o : f.0 ≤ℤ f.1 = has_number f (subst HasSome domain some) in
    let interval : if_interval f ≡ Some f = if_interval-ordered f o ∙ n.limit in
    let same : f ≡ ends_of ws out = sym (ends_out ws out d typed ∙ ap domain_ends domain ∙ hull_of_range f interval) in
    record {
      sort = domain_kind ws out (Integers (range_of f.0 f.1)) Int refl (subst (HasDomain ws out) domain typed);
      interval = subst (λ (z : Ends). if_interval z ≡ Some z) same interval;
      from = subst (λ (z : Ends). g.0 ≤ℤ z.0) same n.within.from;
      to = subst (λ (z : Ends). z.1 ≤ℤ g.1) same n.within.to;
    }

pub ends_within : (vs : List Variable) (p : Plain) (e : Ends) → LiesWithin Int vs p e → IsWithin (ends_of vs p) e
ends_within vs p e l = record { from = l.from; to = l.to }

-- ---- two integers

-- where the operation divides, a divisor in these bounds may be other than 0
abbrev pub Divides : Arith → Ends → Type 0
Divides Div f = MayDivide f
Divides Mod f = MayDivide f
Divides _ f = Unit {0}

record IsNonzeroIn (f : Ends) : Type 0 where
  divisor : ℤ
  inside : Encloses f divisor
  nonzero : divisor ≢ pos 0

is_zero : (x : ℤ) → int_eq x (pos 0) ≡ true → x ≡ pos 0
is_zero x h = grind (arith, ints)

not_zero : (x : ℤ) → int_eq x (pos 0) ≡ false → x ≢ pos 0
not_zero x h = λ e. let other : int_eq x (pos 0) ≡ true = ap (λ y. int_eq y (pos 0)) e in absurd (cc)

least_in : (f : Ends) → f.0 ≤ℤ f.1 → Encloses f f.0
least_in f o = record { from = omega (arith, ints); to = o }

greatest_in : (f : Ends) → f.0 ≤ℤ f.1 → Encloses f f.1
greatest_in f o = record { from = o; to = omega (arith, ints) }

divisor_in : (f : Ends) → f.0 ≤ℤ f.1 → MayDivide f → IsNonzeroIn f
divisor_in f o may = by (int_eq f.0 (pos 0)) refl
  where
    by : (t : Bool) → int_eq f.0 (pos 0) ≡ t → IsNonzeroIn f
    by true h = record { divisor = f.1; inside = greatest_in f o; nonzero = may (is_zero f.0 h) }
    by false h = record { divisor = f.0; inside = least_in f o; nonzero = not_zero f.0 h }

from_enclosed : (e : Ends) (x : ℤ) → Encloses e x → e.0 ≤ℤ e.1
from_enclosed e x i = omega (arith, ints, i.from, i.to)

pub arith_ordered : (op : Arith) (e f : Ends) → e.0 ≤ℤ e.1 → f.0 ≤ℤ f.1 → Divides op f → (arith_ends op e f).0 ≤ℤ (arith_ends op e f).1
unfolding arith_ends toward_ends toward
arith_ordered Add e f p q d = omega (arith, ints, p, q)
arith_ordered Sub e f p q d = omega (arith, ints, p, q)
arith_ordered Mul e f p q d = from_enclosed _ _ (product_of-encloses e f e.0 f.0 (least_in e p) (least_in f q))
arith_ordered Div e f p q d = let y = divisor_in f q d in from_enclosed _ _ (quotient_of-encloses e f e.0 y.divisor (least_in e p) y.inside y.nonzero)
arith_ordered Mod e f p q d = let y = divisor_in f q d in from_enclosed _ _ (remainder_of-encloses e f e.0 y.divisor (least_in e p) y.inside y.nonzero)
arith_ordered Min e f p q d = omega (arith, ints, clamps, p, q)
arith_ordered Max e f p q d = omega (arith, ints, clamps, p, q)

pub record OfArith (op : Arith) (x y : Known) : Type 0 where
  pub left : OfWhole x
  pub right : OfWhole y
  pub limit : if_in_limit (arith_ends op left.ends right.ends) ≡ Some (arith_ends op left.ends right.ends)
  pub extent : arith_extent op x y ≡ Some (whole (arith_ends op left.ends right.ends))

pub of_arith : (op : Arith) (x y : Known) → IsSome (arith_extent op x y) → OfArith op x y
of_arith op x y h =
    let m = mapped whole (arith_bounds op (as_whole x) (as_whole y)) h in
    let b = both_there (as_whole x) (as_whole y) (λ e f. if_in_limit (arith_ends op e f)) m in
    let p = whole_of x b.0 in
    let q = whole_of y b.1 in
    let known : arith_bounds op (as_whole x) (as_whole y) ≡ if_in_limit (arith_ends op p.ends q.ends) = ap₂ (λ i j. arith_bounds op (as_whole i) (as_whole j)) p.is q.is in
    let limit = limit_there (arith_ends op p.ends q.ends) (subst (λ (o : Option Ends). IsSome o) known m) in
    record { left = p; right = q; limit = limit; extent = ap (λ o. option_map whole o) (known ∙ limit) }

-- the bounds of an operation on two arguments
pub arith_narrow : (op : Arith) (vs : List Variable) (a b : Plain) (e f : Ends) → LiesWithin Int vs a e → LiesWithin Int vs b f → if_in_limit (arith_ends op e f) ≡ Some (arith_ends op e f) → Divides op (ends_of vs b) → IsWithin (arith_ends op (ends_of vs a) (ends_of vs b)) (arith_ends op e f) × (if_in_limit (arith_ends op (ends_of vs a) (ends_of vs b)) ≡ Some (arith_ends op (ends_of vs a) (ends_of vs b)))
arith_narrow op vs a b e f l m limit c =
    let i = ends_of vs a in
    let j = ends_of vs b in
    let p = ordered i l.interval in
    let q = ordered j m.interval in
    let within = arith_is_monotone op i j e f p q (ends_within vs a e l) (ends_within vs b f m) (λ h. subst (λ (z : Arith). Divides z j) h c) in
    (within, limit_inside (arith_ends op i j) (arith_ends op e f) limit within (arith_ordered op i j p q c))

pub record ArithRow (k : NodeKind) (name : RowName) (op : Arith) : Type 0 where
  pub extent : (x y : Known) → extent_over k (x ∷ y ∷ []) ≡ arith_extent op x y
  pub are : (vs : List Variable) (a b : Plain) → is_plain vs Int a ≡ true → is_plain vs Int b ≡ true → AreInputs vs name (one a ∷ one b ∷ [])
  pub domain : (vs : List Variable) (a b : Plain) → result_domain vs name (one a ∷ one b ∷ []) ≡ domains.whole (arith_by op (if_interval (ends_of vs a)) (if_interval (ends_of vs b)))
  pub other : is_linear_row name ≡ false
  pub core : (v : terms.Values) (m n : ℤ) → kind_term v (of_kind k) k (Some (terms.number m) ∷ Some (terms.number n) ∷ []) ≡ seen_maybe (result_given name (values.one (values.number m) ∷ values.one (values.number n) ∷ []))

module _ (k : NodeKind) (name : RowName) (op : Arith) (r : ArithRow k name op) (a b : Plain) where
  abbrev Given : List Argument
  Given = one a ∷ one b ∷ []

  abbrev Can : List Variable → Type 0
  Can vs = Divides op (ends_of vs b)

  opened : (x y : Known) → IsSome (extent_over k (x ∷ y ∷ [])) → OfArith op x y
  opened x y h = of_arith op x y (subst (λ (z : Known). IsSome z) (r.extent x y) h)

  narrow : (vs : List Variable) (x y : Known) (o : OfArith op x y) → Can vs → Suits vs a x → Suits vs b y → IsNarrow vs name Given (arith_ends op o.left.ends o.right.ends)
  narrow vs x y o c s t =
      let l : LiesWithin Int vs a o.left.ends = subst (Suits vs a) o.left.is s in
      let m : LiesWithin Int vs b o.right.ends = subst (Suits vs b) o.right.is t in
      let n = arith_narrow op vs a b o.left.ends o.right.ends l m o.limit c in
      record {
        ends = arith_ends op (ends_of vs a) (ends_of vs b);
        is = r.domain vs a b ∙ ap₂ (λ i j. domains.whole (arith_by op i j)) l.interval m.interval ∙ ap domains.whole n.1;
        limit = n.1;
        within = n.0;
      }

  arith_may : (p : Program) → Can p.vars → (xs : List Known) → AllSuit p.vars (a ∷ b ∷ []) xs → IsSome (extent_over k xs) → MayGive p name Given
  arith_may p c xs u = on_two p.vars a b (λ xs. IsSome (extent_over k xs) → MayGive p name Given) (λ x y s t h.
      let o = opened x y h in
      let n = narrow p.vars x y o c s t in
      record {
        are = r.are p.vars a b (suit_sort of_integer p.vars a x o.left s) (suit_sort of_integer p.vars b y o.right t);
        domain = Integers (range_of n.ends.0 n.ends.1);
        is = n.is;
        within = not_linear name r.other;
      }) xs u

  arith_suits : (vs ws : List Variable) → Can vs → (xs : List Known) (d : Domain) (out : Plain) → AllSuit vs (a ∷ b ∷ []) xs → IsSome (extent_over k xs) → result_domain vs name Given ≡ Some d → HasSome d → HasDomain ws out d → Suits ws out (extent_over k xs)
  arith_suits vs ws c xs d out u h is some typed = on_two vs a b (λ xs. IsSome (extent_over k xs) → Suits ws out (extent_over k xs)) (λ x y s t h.
      let o = opened x y h in
      subst (Suits ws out) (sym (r.extent x y ∙ o.extent)) (number_out vs ws name Given (arith_ends op o.left.ends o.right.ends) (narrow vs x y o c s t) d out is some typed)) xs u h

  arith_same : (vs : List Variable) (xs : List Known) → AllSuit vs (a ∷ b ∷ []) xs → IsSome (extent_over k xs) → (v : terms.Values) (f : Values) → AreInDomains vs f → term_over v k (a ∷ b ∷ []) f ≡ seen_maybe (result_given name (map (argument_value f) Given))
  arith_same vs xs u h v f d = on_two vs a b (λ xs. IsSome (extent_over k xs) → term_over v k (a ∷ b ∷ []) f ≡ seen_maybe (result_given name (map (argument_value f) Given))) (λ x y s t h.
      let o = opened x y h in
      let m = sort_value of_integer vs f a d (suit_sort of_integer vs a x o.left s) in
      let n = sort_value of_integer vs f b d (suit_sort of_integer vs b y o.right t) in
      ap₂ (λ i j. kind_term v (of_kind k) k (Some (seen i) ∷ Some (seen j) ∷ [])) m.is n.is
      ∙ r.core v m.raw n.raw
      ∙ ap₂ (λ i j. seen_maybe (result_given name (values.one i ∷ values.one j ∷ []))) (sym m.is) (sym n.is)) xs u h

  pub arith_row : RowFits k name (a ∷ b ∷ []) Given Can
  arith_row = record { may = arith_may; suits = arith_suits; same = arith_same }

same_result : (o : Option ℤ) → (o >>= λ n. Some (terms.number n)) ≡ seen_maybe (option_map values.number o)
same_result None = refl
same_result (Some n) = refl

pub row_Mul : ArithRow kinds.Mul rows.IntTimes Mul
unfolding line is_sum form_of domain_by is_argument arith_term
row_Mul = record {
  extent = λ x y. refl;
  are = λ vs a b h l. two_inputs vs Int Int a b h l;
  domain = λ vs a b. refl;
  other = refl;
  core = λ v m n. same_result (computed Mul m n);
}

pub row_Div : ArithRow kinds.Div rows.IntDiv Div
unfolding line is_sum form_of domain_by is_argument arith_term
row_Div = record {
  extent = λ x y. refl;
  are = λ vs a b h l. two_inputs vs Int Int a b h l;
  domain = λ vs a b. refl;
  other = refl;
  core = λ v m n. same_result (computed Div m n);
}

pub row_Mod : ArithRow kinds.Mod rows.IntMod Mod
unfolding line is_sum form_of domain_by is_argument arith_term
row_Mod = record {
  extent = λ x y. refl;
  are = λ vs a b h l. two_inputs vs Int Int a b h l;
  domain = λ vs a b. refl;
  other = refl;
  core = λ v m n. same_result (computed Mod m n);
}

-- ---- the magnitude of an integer

abs_ordered : (e : Ends) → e.0 ≤ℤ e.1 → (sign_ends sign_row.Abs e).0 ≤ℤ (sign_ends sign_row.Abs e).1
unfolding sign_ends
abs_ordered e o = omega (arith, ints, clamps, o)

record OfAbs (x : Known) : Type 0 where
  child : OfWhole x
  limit : if_in_limit (sign_ends sign_row.Abs child.ends) ≡ Some (sign_ends sign_row.Abs child.ends)
  extent : abs_extent x ≡ Some (whole (sign_ends sign_row.Abs child.ends))

of_abs : (x : Known) → IsSome (abs_extent x) → OfAbs x
of_abs x h =
    let m = mapped whole (abs_bounds (as_whole x)) h in
    let p = whole_of x (first_there (as_whole x) (λ e. if_in_limit (sign_ends sign_row.Abs e)) m) in
    let known : abs_bounds (as_whole x) ≡ if_in_limit (sign_ends sign_row.Abs p.ends) = ap (λ i. abs_bounds (as_whole i)) p.is in
    let limit = limit_there (sign_ends sign_row.Abs p.ends) (subst (λ (o : Option Ends). IsSome o) known m) in
    record { child = p; limit = limit; extent = ap (λ o. option_map whole o) (known ∙ limit) }

core_abs : (v : terms.Values) (m : ℤ) → kind_term v (of_kind kinds.Abs) kinds.Abs (Some (terms.number m) ∷ []) ≡ seen_maybe (result_given rows.IntAbs (values.one (values.number m) ∷ []))
unfolding line is_sum sign_term
core_abs v m = refl

module _ (a : Plain) where
  abs_narrow : (vs : List Variable) (x : Known) (o : OfAbs x) → Suits vs a x → IsNarrow vs rows.IntAbs (one a ∷ []) (sign_ends sign_row.Abs o.child.ends)
  unfolding form_of domain_by
  abs_narrow vs x o s =
      let l : LiesWithin Int vs a o.child.ends = subst (Suits vs a) o.child.is s in
      let e = ends_of vs a in
      let within = sign_is_monotone sign_row.Abs e o.child.ends (ends_within vs a o.child.ends l) in
      let limit = limit_inside (sign_ends sign_row.Abs e) (sign_ends sign_row.Abs o.child.ends) o.limit within (abs_ordered e (ordered e l.interval)) in
      record {
        ends = sign_ends sign_row.Abs e;
        is = ap (λ i. domains.whole (magnitude_by i)) l.interval ∙ ap domains.whole limit;
        limit = limit;
        within = within;
      }

  abs_may : (p : Program) (xs : List Known) → AllSuit p.vars (a ∷ []) xs → IsSome (extent_over kinds.Abs xs) → MayGive p rows.IntAbs (one a ∷ [])
  unfolding line is_sum is_argument
  abs_may p xs u = on_one p.vars a (λ xs. IsSome (extent_over kinds.Abs xs) → MayGive p rows.IntAbs (one a ∷ [])) (λ x s h.
      let o = of_abs x h in
      let n = abs_narrow p.vars x o s in
      record {
        are = one_argument p.vars Int a (suit_sort of_integer p.vars a x o.child s);
        domain = Integers (range_of n.ends.0 n.ends.1);
        is = n.is;
        within = not_linear rows.IntAbs refl;
      }) xs u

  abs_suits : (vs ws : List Variable) (xs : List Known) (d : Domain) (out : Plain) → AllSuit vs (a ∷ []) xs → IsSome (extent_over kinds.Abs xs) → result_domain vs rows.IntAbs (one a ∷ []) ≡ Some d → HasSome d → HasDomain ws out d → Suits ws out (extent_over kinds.Abs xs)
  abs_suits vs ws xs d out u h is some typed = on_one vs a (λ xs. IsSome (extent_over kinds.Abs xs) → Suits ws out (extent_over kinds.Abs xs)) (λ x s h.
      let o = of_abs x h in
      subst (Suits ws out) (sym o.extent) (number_out vs ws rows.IntAbs (one a ∷ []) (sign_ends sign_row.Abs o.child.ends) (abs_narrow vs x o s) d out is some typed)) xs u h

  abs_same : (vs : List Variable) (xs : List Known) → AllSuit vs (a ∷ []) xs → IsSome (extent_over kinds.Abs xs) → (v : terms.Values) (f : Values) → AreInDomains vs f → term_over v kinds.Abs (a ∷ []) f ≡ seen_maybe (result_given rows.IntAbs (map (argument_value f) (one a ∷ [])))
  abs_same vs xs u h v f d = on_one vs a (λ xs. IsSome (extent_over kinds.Abs xs) → term_over v kinds.Abs (a ∷ []) f ≡ seen_maybe (result_given rows.IntAbs (map (argument_value f) (one a ∷ [])))) (λ x s h.
      let m = sort_value of_integer vs f a d (suit_sort of_integer vs a x (of_abs x h).child s) in
      ap (λ i. kind_term v (of_kind kinds.Abs) kinds.Abs (Some (seen i) ∷ [])) m.is ∙ core_abs v m.raw ∙ ap (λ i. seen_maybe (result_given rows.IntAbs (values.one i ∷ []))) (sym m.is)) xs u h

  pub row_abs : RowFits kinds.Abs rows.IntAbs (a ∷ []) (one a ∷ []) Always
  row_abs = record { may = λ p c. abs_may p; suits = λ vs ws c. abs_suits vs ws; same = abs_same }

-- ---- how many elements a set has

record OfCard (x : Known) : Type 0 where
  child : OfSubset x
  limit : if_in_limit (card_ends child.upper) ≡ Some (card_ends child.upper)
  extent : card_extent x ≡ Some (whole (card_ends child.upper))

of_card : (x : Known) → IsSome (card_extent x) → OfCard x
of_card x h =
    let m = mapped whole (card_bounds (as_subset x)) h in
    let p = subset_of x (first_there (as_subset x) (λ u. if_in_limit (card_ends u)) m) in
    let known : card_bounds (as_subset x) ≡ if_in_limit (card_ends p.upper) = ap (λ i. card_bounds (as_subset i)) p.is in
    let limit = limit_there (card_ends p.upper) (subst (λ (o : Option Ends). IsSome o) known m) in
    record { child = p; limit = limit; extent = ap (λ o. option_map whole o) (known ∙ limit) }

core_card : (v : terms.Values) (s : List Range) → kind_term v (of_kind kinds.Card) kinds.Card (Some (terms.set s) ∷ []) ≡ seen_maybe (result_given rows.SetCard (values.one (values.set s) ∷ []))
unfolding line is_sum card_term
core_card v s = refl

module _ (a : Plain) where
  card_narrow : (vs : List Variable) (x : Known) (o : OfCard x) → Suits vs a x → IsNarrow vs rows.SetCard (one a ∷ []) (card_ends o.child.upper)
  unfolding form_of domain_by
  card_narrow vs x o s =
      let l : IsPartOf vs a o.child.upper = subst (Suits vs a) o.child.is s in
      let u = upper_of vs a in
      let within = card_is_monotone u o.child.upper l.own.0 l.upper.0 l.part in
      let rises : pos 0 ≤ℤ pos (cardinality u) = omega (arith, ints) in
      let limit = limit_inside (card_ends u) (card_ends o.child.upper) o.limit within rises in
      record {
        ends = card_ends u;
        is = ap domains.whole (if_interval-ordered (card_ends u) rises ∙ limit);
        limit = limit;
        within = within;
      }

  card_may : (p : Program) (xs : List Known) → AllSuit p.vars (a ∷ []) xs → IsSome (extent_over kinds.Card xs) → MayGive p rows.SetCard (one a ∷ [])
  unfolding line is_sum is_argument
  card_may p xs u = on_one p.vars a (λ xs. IsSome (extent_over kinds.Card xs) → MayGive p rows.SetCard (one a ∷ [])) (λ x s h.
      let o = of_card x h in
      let n = card_narrow p.vars x o s in
      record {
        are = one_argument p.vars Set a (suit_sort of_set p.vars a x o.child s);
        domain = Integers (range_of n.ends.0 n.ends.1);
        is = n.is;
        within = not_linear rows.SetCard refl;
      }) xs u

  card_suits : (vs ws : List Variable) (xs : List Known) (d : Domain) (out : Plain) → AllSuit vs (a ∷ []) xs → IsSome (extent_over kinds.Card xs) → result_domain vs rows.SetCard (one a ∷ []) ≡ Some d → HasSome d → HasDomain ws out d → Suits ws out (extent_over kinds.Card xs)
  card_suits vs ws xs d out u h is some typed = on_one vs a (λ xs. IsSome (extent_over kinds.Card xs) → Suits ws out (extent_over kinds.Card xs)) (λ x s h.
      let o = of_card x h in
      subst (Suits ws out) (sym o.extent) (number_out vs ws rows.SetCard (one a ∷ []) (card_ends o.child.upper) (card_narrow vs x o s) d out is some typed)) xs u h

  card_same : (vs : List Variable) (xs : List Known) → AllSuit vs (a ∷ []) xs → IsSome (extent_over kinds.Card xs) → (v : terms.Values) (f : Values) → AreInDomains vs f → term_over v kinds.Card (a ∷ []) f ≡ seen_maybe (result_given rows.SetCard (map (argument_value f) (one a ∷ [])))
  card_same vs xs u h v f d = on_one vs a (λ xs. IsSome (extent_over kinds.Card xs) → term_over v kinds.Card (a ∷ []) f ≡ seen_maybe (result_given rows.SetCard (map (argument_value f) (one a ∷ [])))) (λ x s h.
      let m = sort_value of_set vs f a d (suit_sort of_set vs a x (of_card x h).child s) in
      ap (λ i. kind_term v (of_kind kinds.Card) kinds.Card (Some (seen i) ∷ [])) m.is ∙ core_card v m.raw ∙ ap (λ i. seen_maybe (result_given rows.SetCard (values.one i ∷ []))) (sym m.is)) xs u h

  pub row_card : RowFits kinds.Card rows.SetCard (a ∷ []) (one a ∷ []) Always
  row_card = record { may = λ p c. card_may p; suits = λ vs ws c. card_suits vs ws; same = card_same }
