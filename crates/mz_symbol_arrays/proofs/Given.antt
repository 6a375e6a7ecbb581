-- Rows under readings with values.
use Rattle.std.proofs.Common.{◌≡◌, ◌∙◌, ℕ, ℤ, ◌+ℤ◌, Bool, true, false, [], ◌∷◌, Option, Some, None, ◌⊎◌, inl, inr, refl, sym, ap, if◌then◌else◌}
use Rattle.std.specs.Option.{option_map}
use Rattle.mz_value.specs.Contents.{Content}
use Rattle.mz_value.specs.Contents as values
use Rattle.mz_core.specs.declared.types.Base.TheVariants as base
use Rattle.mz_operations.specs.declared.row.Arith.TheVariants as arith_row
use Rattle.mz_operations.specs.declared.row.Connective.{Connective}
use Rattle.mz_operations.specs.declared.row.ScalarRow.{ScalarRow}
use Rattle.mz_operations.specs.declared.row.ScalarRow.TheVariants as row
use Rattle.mz_operations.specs.declared.row.MadeRow.TheVariants as made_row
use Rattle.mz_operations.specs.Views.{as_bool, as_int, as_ordinal, as_option, is_single, number_of_bool}
use Rattle.mz_operations.specs.Arguments.{at, bool_at, int_at, ordinal_at, option_at}
use Rattle.mz_operations.specs.Arrays.{truth_or}
use Rattle.mz_operations.specs.Numbers.{connected, computed}
use Rattle.mz_operations.specs.Values.{scalar_value, made_value}
use Rattle.mz_arena.specs.Values.{Term, as_number, is_true}
use Rattle.mz_symbol.specs.Symbols.{content_by, is_one, value_by, value_at, symbol_value}
use Rattle.mz_meaning.specs.Runs.{State, Out}
use Rattle.mz_meaning.specs.Cells.{Mode, Blank, Given, held}
use Rattle.mz_symbol.specs.declared.types.Symbol.{Symbol}
use Rattle.mz_symbol.specs.Readings.{Reading, IsGiven, symbol_seen}
use Rattle.mz_symbol.proofs.ConstantLaws.{out_value}
use Rattle.mz_symbol.specs.Arguments.{truth_of}
use Rattle.mz_symbol_rows.specs.RowValues.{argument, row_value}
use Rattle.mz_symbol_rows.proofs.RowLaws.{argument_kept}

given_held : (m : Mode) (v w : Option Content) → IsGiven m → held m v ≡ held m w → v ≡ w
given_held (Blank n) v w g h = absurd g
given_held (Given f) v w g h = h

pub held_given : (m : Mode) (v : Option Content) → IsGiven m → held m v ≡ v
held_given (Blank n) v g = absurd g
held_given (Given f) v g = refl

-- what is held is equal, where it is in a mode with values
pub held_by : (m : Mode) (v w : Option Content) → (IsGiven m → v ≡ w) → held m v ≡ held m w
held_by (Blank n) v w h = refl
held_by (Given f) v w h = h tt

pub argument_given : (r : Reading) (s : Symbol) (x : Content) → IsGiven r.mode → symbol_value r.term s ≡ Some x → argument r s ≡ Some x
argument_given r s x g h = argument_kept r s x h ∙ held_given r.mode (symbol_value r.term s) g ∙ h

-- what a call gives
pub gives : (r : Reading) (v : Option Content) (s : Symbol) (p q : State) → IsGiven r.mode → Out (held r.mode v) p ≡ Out (symbol_seen r s) q → symbol_value r.term s ≡ v
gives r v s p q g h = sym (given_held r.mode v (symbol_value r.term s) g (out_value h))

one_given : (r : Reading) (w : ScalarRow) (a : Symbol) (x : Content) → IsGiven r.mode → symbol_value r.term a ≡ Some x → row_value r w (a ∷ []) ≡ scalar_value w (Some x ∷ [])
one_given r w a x g h = ap (λ v. scalar_value w (v ∷ [])) (argument_given r a x g h)

two_given : (r : Reading) (w : ScalarRow) (a b : Symbol) (x y : Content) → IsGiven r.mode → symbol_value r.term a ≡ Some x → symbol_value r.term b ≡ Some y → row_value r w (a ∷ b ∷ []) ≡ scalar_value w (Some x ∷ Some y ∷ [])
two_given r w a b x y g h k = ap (λ v. scalar_value w (v ∷ argument r b ∷ [])) (argument_given r a x g h) ∙ ap (λ v. scalar_value w (Some x ∷ v ∷ [])) (argument_given r b y g k)

-- ---- rows of values

logic_on : (op : Connective) (p q : Bool) → truth_of (scalar_value (row.Logic op) (Some (values.bool p) ∷ Some (values.bool q) ∷ [])) ≡ Some (values.bool (connected op p q))
unfolding scalar_value bool_at at as_bool
logic_on op p q = refl

pub logic_gives : (r : Reading) (op : Connective) (a b s : Symbol) (p q : Bool) (u v : State) → IsGiven r.mode → symbol_value r.term a ≡ Some (values.bool p) → symbol_value r.term b ≡ Some (values.bool q) → Out (held r.mode (truth_of (row_value r (row.Logic op) (a ∷ b ∷ [])))) u ≡ Out (symbol_seen r s) v → symbol_value r.term s ≡ Some (values.bool (connected op p q))
logic_gives r op a b s p q u v g h k e = gives r (truth_of (row_value r (row.Logic op) (a ∷ b ∷ []))) s u v g e ∙ ap truth_of (two_given r (row.Logic op) a b (values.bool p) (values.bool q) g h k) ∙ logic_on op p q

ordinal_on : (b : Bool) → scalar_value row.Ordinal (Some (values.bool b) ∷ []) ≡ Some (values.int (number_of_bool b))
unfolding scalar_value ordinal_at at as_ordinal
ordinal_on b = refl

pub ordinal_gives : (r : Reading) (a s : Symbol) (b : Bool) (u v : State) → IsGiven r.mode → symbol_value r.term a ≡ Some (values.bool b) → Out (held r.mode (row_value r row.Ordinal (a ∷ []))) u ≡ Out (symbol_seen r s) v → symbol_value r.term s ≡ Some (values.int (number_of_bool b))
ordinal_gives r a s b u v g h e = gives r (row_value r row.Ordinal (a ∷ [])) s u v g e ∙ one_given r row.Ordinal a (values.bool b) g h ∙ ordinal_on b

sum_on : (n m : ℤ) → scalar_value (row.Arith arith_row.Add) (Some (values.int n) ∷ Some (values.int m) ∷ []) ≡ Some (values.int (n +ℤ m))
unfolding scalar_value int_at at as_int computed
sum_on n m = refl

pub sum_gives : (r : Reading) (a b s : Symbol) (n m : ℤ) (u v : State) → IsGiven r.mode → symbol_value r.term a ≡ Some (values.int n) → symbol_value r.term b ≡ Some (values.int m) → Out (held r.mode (row_value r (row.Arith arith_row.Add) (a ∷ b ∷ []))) u ≡ Out (symbol_seen r s) v → symbol_value r.term s ≡ Some (values.int (n +ℤ m))
sum_gives r a b s n m u v g h k e = gives r (row_value r (row.Arith arith_row.Add) (a ∷ b ∷ [])) s u v g e ∙ two_given r (row.Arith arith_row.Add) a b (values.int n) (values.int m) g h k ∙ sum_on n m

-- ---- truth values and options of them

pub record HasTruth (x : Content) : Type 0 where
  pub truth : Bool
  pub is : x ≡ values.bool truth

truth_there : (t : Term) (x : Content) → value_by base.Bool t ≡ Some x → HasTruth x
truth_there t x h = by (as_number t) h
  where
    by : (o : Option ℤ) → option_map (λ n. content_by base.Bool n []) o ≡ Some x → HasTruth x
    by None q = absurd (cc)
    by (Some n) q = record { truth = is_one n; is = cc }

option_there : (p : Bool) (t : Term) (x : Content) → (if p then value_by base.Bool t else Some values.absent) ≡ Some x → (x ≡ values.absent) ⊎ HasTruth x
option_there true t x h = inr (truth_there t x h)
option_there false t x h = inl (cc)

pub plain_truth : (r : Reading) (s : Symbol) (x : Content) → s.base ≡ base.Bool → s.occurs ≡ None → symbol_value r.term s ≡ Some x → HasTruth x
plain_truth r s x e o h = truth_there (r.term s.term) x (ap (λ c. value_by c (r.term s.term)) (sym e) ∙ ap (λ q. value_at r.term s.base q s.term) (sym o) ∙ h)

pub either_truth : (r : Reading) (s : Symbol) (x : Content) → s.base ≡ base.Bool → symbol_value r.term s ≡ Some x → (x ≡ values.absent) ⊎ HasTruth x
either_truth r s x e h = by s.occurs (ap (λ c. value_at r.term c s.occurs s.term) (sym e) ∙ h)
  where
    by : (o : Option ℕ) → value_at r.term base.Bool o s.term ≡ Some x → (x ≡ values.absent) ⊎ HasTruth x
    by None q = inr (truth_there (r.term s.term) x q)
    by (Some o) q = option_there (is_true (r.term o)) (r.term s.term) x q

pub truth_as : (d b : Bool) → truth_or d (values.bool b) ≡ Some b
unfolding as_bool
truth_as d b = refl

pub deopt_absent : truth_of (made_value made_row.Deopt (Some values.absent ∷ [])) ≡ Some (values.bool false)
unfolding made_value option_at at as_option
deopt_absent = refl

pub deopt_truth : (b : Bool) → truth_of (made_value made_row.Deopt (Some (values.bool b) ∷ [])) ≡ Some (values.bool b)
unfolding made_value option_at at as_option is_single
deopt_truth b = refl

pub absent_absent : truth_of (scalar_value row.Absent (Some values.absent ∷ [])) ≡ Some (values.bool true)
unfolding scalar_value option_at at as_option
absent_absent = refl

pub absent_truth : (b : Bool) → truth_of (scalar_value row.Absent (Some (values.bool b) ∷ [])) ≡ Some (values.bool false)
unfolding scalar_value option_at at as_option is_single
absent_truth b = refl
