-- Integers, truth values and sets: what a node's bounds tell of its children, and the values of their arguments.
use Rattle.std.proofs.Common.{◌≡◌, ℕ, zero, suc, ℤ, pos, negsuc, ◌≤ℤ◌, Bool, true, false, List, [], ◌∷◌, Option, Some, None, IsSome, slice_get, slice_index_or, refl, subst, arith}
use Rattle.std.proofs.lemmas.Int.{ints}
use Rattle.mz_value.specs.Ranges.{Range}
use Rattle.mz_interval.specs.Ends.{Ends}
use Rattle.mz_operations.specs.Views.{◌>>=◌}
use Rattle.mz_arena.specs.Extents.{Known, whole, truth, subset, wholes, truths, subsets, empty, as_whole, as_truth, as_subset, open_truth}
use Rattle.fz_program.specs.declared.program.Domain.{Domain}
use Rattle.fz_program.specs.declared.program.Domain.TheVariants.{Bool as Truths, Ints as Integers, SetOf}
use Rattle.fz_program.specs.declared.row_name.Kind.{Kind}
use Rattle.fz_program.specs.declared.row_name.Kind.TheVariants.{Int, Bool as Truth, Set}
use Rattle.fz_program.specs.Arguments.{Plain, bool, int, set, var, nested}
use Rattle.fz_program.specs.Values as values
use Rattle.fz_program.specs.Values.{Value, Values}
use Rattle.fz_program.specs.Flat.{Variable, IsInDomain, AreInDomains, number_of_truth, plain_value, same_kind, kind_of_domain, is_kind, is_constant, is_plain}
use Rattle.flat_reif_rows.specs.Standing.{Suits}

pub data Sort : Type 0 where
  of_integer : Sort
  of_truth : Sort
  of_set : Sort

abbrev pub kind_of : Sort → Kind
kind_of of_integer = Int
kind_of of_truth = Truth
kind_of of_set = Set

-- what a value of a sort is made of
abbrev pub Raw : Sort → Type 0
Raw of_integer = ℤ
Raw of_truth = Bool
Raw of_set = List Range

abbrev pub flat : (s : Sort) → Raw s → Value
flat of_integer n = values.number n
flat of_truth b = values.number (number_of_truth b)
flat of_set s = values.set s

-- ---- the children's sorts, from a node's bounds

pub record OfWhole (x : Known) : Type 0 where
  pub ends : Ends
  pub is : x ≡ Some (whole ends)

pub record OfTruth (x : Known) : Type 0 where
  pub ends : Ends
  pub is : x ≡ Some (truth ends)

pub record OfSubset (x : Known) : Type 0 where
  pub upper : List Range
  pub is : x ≡ Some (subset upper)

abbrev pub HasSort : Sort → Known → Type 0
HasSort of_integer x = OfWhole x
HasSort of_truth x = OfTruth x
HasSort of_set x = OfSubset x

pub whole_of : (x : Known) → IsSome (as_whole x) → OfWhole x
whole_of None h = absurd (cc)
whole_of (Some (whole e)) h = record { ends = e; is = refl }
whole_of (Some (truth e)) h = absurd (cc)
whole_of (Some (subset u)) h = absurd (cc)
whole_of (Some (wholes es)) h = absurd (cc)
whole_of (Some truths) h = absurd (cc)
whole_of (Some (subsets us)) h = absurd (cc)
whole_of (Some empty) h = absurd (cc)

pub truth_of : (x : Known) → IsSome (as_truth x) → OfTruth x
truth_of None h = absurd (cc)
truth_of (Some (whole e)) h = absurd (cc)
truth_of (Some (truth e)) h = record { ends = e; is = refl }
truth_of (Some (subset u)) h = absurd (cc)
truth_of (Some (wholes es)) h = absurd (cc)
truth_of (Some truths) h = absurd (cc)
truth_of (Some (subsets us)) h = absurd (cc)
truth_of (Some empty) h = absurd (cc)

pub subset_of : (x : Known) → IsSome (as_subset x) → OfSubset x
subset_of None h = absurd (cc)
subset_of (Some (whole e)) h = absurd (cc)
subset_of (Some (truth e)) h = absurd (cc)
subset_of (Some (subset u)) h = record { upper = u; is = refl }
subset_of (Some (wholes es)) h = absurd (cc)
subset_of (Some truths) h = absurd (cc)
subset_of (Some (subsets us)) h = absurd (cc)
subset_of (Some empty) h = absurd (cc)

-- what is asked of two parts, and of one
pub first_there : {A B : Type 0} (o : Option A) (g : A → Option B) → IsSome (o >>= g) → IsSome o
first_there None g h = absurd (cc)
first_there (Some a) g h = refl

pub both_there : {A B C : Type 0} (o : Option A) (p : Option B) (g : A → B → Option C) → IsSome (o >>= λ a. p >>= λ b. g a b) → IsSome o × IsSome p
both_there None p g h = absurd (cc)
both_there (Some a) None g h = absurd (cc)
both_there (Some a) (Some b) g h = (refl, refl)

pub open_one : {A : Type 0} (o : Option A) → IsSome (o >>= λ a. open_truth) → (o >>= λ a. open_truth) ≡ open_truth
open_one None h = absurd (cc)
open_one (Some a) h = refl

pub open_both : {A B : Type 0} (o : Option A) (p : Option B) → IsSome (o >>= λ a. p >>= λ b. open_truth) → (o >>= λ a. p >>= λ b. open_truth) ≡ open_truth
open_both None p h = absurd (cc)
open_both (Some a) None h = absurd (cc)
open_both (Some a) (Some b) h = refl

-- an argument is of the sort of its node's bounds
pub suit_sort : (s : Sort) (vs : List Variable) (p : Plain) (x : Known) → HasSort s x → Suits vs p x → is_plain vs (kind_of s) p ≡ true
suit_sort of_integer vs p x o h = (subst (Suits vs p) o.is h).sort
suit_sort of_truth vs p x o h = (subst (Suits vs p) o.is h).sort
suit_sort of_set vs p x o h = (subst (Suits vs p) o.is h).sort

-- ---- the values of arguments

pub record IsFlat (s : Sort) (v : Value) : Type 0 where
  pub raw : Raw s
  pub is : v ≡ flat s raw

bit_of : (n : ℤ) → pos 0 ≤ℤ n → n ≤ℤ pos 1 → IsFlat of_truth (values.number n)
bit_of (pos zero) l h = record { raw = false; is = refl }
bit_of (pos (suc zero)) l h = record { raw = true; is = refl }
bit_of (pos (suc (suc k))) l h = absurd (omega (arith, ints))
bit_of (negsuc k) l h = absurd (omega (arith, ints))

in_domain : (s : Sort) (d : Domain) (x : Value) → same_kind (kind_of s) (kind_of_domain d) ≡ true → IsInDomain d x → IsFlat s x
unfolding same_kind kind_of_domain
in_domain of_integer Truths x k i = absurd (cc)
in_domain of_integer (Integers r) (values.number n) k i = record { raw = n; is = refl }
in_domain of_integer (Integers r) (values.set t) k i = absurd i
in_domain of_integer (SetOf r) x k i = absurd (cc)
in_domain of_truth Truths (values.number n) k i = bit_of n i.0 i.1
in_domain of_truth Truths (values.set t) k i = absurd i
in_domain of_truth (Integers r) x k i = absurd (cc)
in_domain of_truth (SetOf r) x k i = absurd (cc)
in_domain of_set Truths x k i = absurd (cc)
in_domain of_set (Integers r) x k i = absurd (cc)
in_domain of_set (SetOf r) (values.number n) k i = absurd i
in_domain of_set (SetOf r) (values.set t) k i = record { raw = t; is = refl }

variable_value : (s : Sort) (vs : List Variable) (f : Values) (k : ℕ) → is_kind (slice_get vs k) (kind_of s) ≡ true → AreInDomains vs f → IsFlat s (slice_index_or f k (values.number (pos 0)))
variable_value s [] f k h d = absurd (cc)
variable_value s (v ∷ vs) [] k h d = absurd d
variable_value s (v ∷ vs) (x ∷ f) zero h d = in_domain s v.domain x h d.0
variable_value s (v ∷ vs) (x ∷ f) (suc k) h d = variable_value s vs f k h d.1

bool_value : (s : Sort) (b : Bool) → is_constant (kind_of s) (bool b) ≡ true → IsFlat s (values.number (number_of_truth b))
unfolding is_constant same_kind
bool_value of_integer b h = absurd (cc)
bool_value of_truth b h = record { raw = b; is = refl }
bool_value of_set b h = absurd (cc)

int_value : (s : Sort) (n : ℤ) → is_constant (kind_of s) (int n) ≡ true → IsFlat s (values.number n)
unfolding is_constant same_kind
int_value of_integer n h = record { raw = n; is = refl }
int_value of_truth n h = absurd (cc)
int_value of_set n h = absurd (cc)

set_value : (s : Sort) (t : List Range) → is_constant (kind_of s) (set t) ≡ true → IsFlat s (values.set t)
unfolding is_constant same_kind
set_value of_integer t h = absurd (cc)
set_value of_truth t h = absurd (cc)
set_value of_set t h = record { raw = t; is = refl }

no_nested : {A : Type 0} (k : Kind) → is_constant k nested ≡ true → A
unfolding is_constant
no_nested k h = absurd (cc)

pub sort_value : (s : Sort) (vs : List Variable) (f : Values) (p : Plain) → AreInDomains vs f → is_plain vs (kind_of s) p ≡ true → IsFlat s (plain_value f p)
unfolding is_plain
sort_value s vs f (var k) d h = variable_value s vs f k h d
sort_value s vs f (bool b) d h = bool_value s b h
sort_value s vs f (int n) d h = int_value s n h
sort_value s vs f (set t) d h = set_value s t h
sort_value s vs f nested d h = no_nested (kind_of s) h

-- an argument of a sort is no array
pub no_array : (s : Sort) (vs : List Variable) → is_plain vs (kind_of s) nested ≡ true → ⊥
unfolding is_plain
no_array s vs h = no_nested (kind_of s) h
