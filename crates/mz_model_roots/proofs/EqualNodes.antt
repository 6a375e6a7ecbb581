-- The node that tests two symbols.
use Rattle.std.proofs.Common.{◌≡◌, ◌∙◌, ℕ, ◌+◌, ◌≤◌, ℤ, Bool, true, false, List, [], ◌∷◌, Option, Some, None, IsSome, refl, sym, ap, subst, arith, if◌then◌else◌}
use Rattle.std.specs.Option.{option_map}
use Rattle.mz_value.specs.Ranges.{Range}
use Rattle.mz_value.specs.Contents.{Content}
use Rattle.mz_value.specs.Contents as values
use Rattle.mz_core.specs.declared.types.Base.{Base}
use Rattle.mz_core.specs.declared.types.Base.TheVariants as base
use Rattle.mz_operations.specs.Views.{as_option, is_single}
use Rattle.mz_operations.specs.Values.{scalar_value}
use Rattle.mz_arena.specs.Values.{Term, as_number, as_set}
use Rattle.mz_arena.specs.Values as terms
use Rattle.mz_meaning.specs.Cells.{Mode, Blank, Given, held, is_true}
use Rattle.mz_instance.specs.Contents.{content_by}
use Rattle.mz_instance.specs.Parts.{is_subset_sort, sort_of}
use Rattle.mz_model_meaning.specs.Decoded.{is_shape}
use Rattle.mz_symbol.specs.declared.types.Symbol.{Symbol}
use Rattle.mz_symbol.specs.Symbols.{value_by, value_at, symbol_value}
use Rattle.mz_symbol.specs.Runs.{Run}
use Rattle.mz_symbol.specs.Readings.{Reading, IsGiven, Reads, symbol_seen}
use Rattle.mz_symbol.specs.Makes.{GoesOnBy}
use Rattle.mz_symbol.specs.Arguments.{as_argument, truth_of}
use Rattle.mz_symbol_rows.specs.RowValues.{argument, row_value}
use Rattle.mz_symbol_rows.specs.StepsNodes.{IsOf}
use Rattle.mz_symbol_rows.proofs.RowLaws.{truth_is, argument_kept}
use Rattle.mz_symbol_rows.specs.OptionValues.{IsWholeOf}
use Rattle.mz_symbol_rows.proofs.WholeLaws.{whole_value}
use Rattle.mz_model_state.specs.Hands.{AreOne, Iff}
use Rattle.mz_model_state.specs.Roots.{TestsOne}
use Rattle.mz_model_roots.specs.Rooted.{own_argument, IsEqualNode}
use Rattle.mz_model_roots.specs.StepsEqual.{equal_row, AreOfOneBase}
use Rattle.mz_model_roots.proofs.EqualContents.{equal_by, sets_equal_by, IsOptional, singles_tested, sets_tested_by, options_of_sets}

pub none_goes : (n : ℕ) (s : Run) → GoesOnBy n s s
none_goes n s = record { back = λ r h. h; paid = omega arith }

pub given_held : (m : Mode) (v : Option Content) → IsGiven m → held m v ≡ v
given_held (Blank n) v g = absurd g
given_held (Given f) v g = refl

-- ---- values of symbols that are no sets

made_tested : (make : ℤ → Content) (o : Option ℤ) (w : Option Content) → ((n : ℤ) → IsOptional (make n)) → IsSome (option_map make o) → Iff (equal_by (option_map make o) w ≡ true) (AreOne (option_map make o) w)
made_tested make None w optional some = absurd (cc)
made_tested make (Some n) w optional some = singles_tested (make n) w (optional n)

bool_optional : (b : Bool) → IsOptional (values.bool b)
unfolding as_option is_single
bool_optional b = refl

int_optional : (n : ℤ) → IsOptional (values.int n)
unfolding as_option is_single
int_optional n = refl

case_optional : (e : ℕ) (n : ℤ) → IsOptional (values.case e n)
unfolding as_option is_single
case_optional e n = refl

absent_optional : IsOptional values.absent
unfolding as_option
absent_optional = refl

option_tested : (q : Bool) (v w : Option Content) → (IsSome v → Iff (equal_by v w ≡ true) (AreOne v w)) → IsSome (if q then v else Some values.absent) → Iff (equal_by (if q then v else Some values.absent) w ≡ true) (AreOne (if q then v else Some values.absent) w)
option_tested true v w tests some = tests some
option_tested false v w tests some = singles_tested values.absent w absent_optional

-- a value at a symbol's nodes, where that of its base is tested
at_tested : (t : ℕ → Term) (b : Base) (o : Option ℕ) (x : ℕ) (w : Option Content) → (IsSome (value_by b (t x)) → Iff (equal_by (value_by b (t x)) w ≡ true) (AreOne (value_by b (t x)) w)) → IsSome (value_at t b o x) → Iff (equal_by (value_at t b o x) w ≡ true) (AreOne (value_at t b o x) w)
at_tested t b None x w tests some = tests some
at_tested t b (Some p) x w tests some = option_tested (terms.is_true (t p)) (value_by b (t x)) w tests some

-- ---- sets

set_tested : (k : Option ℕ) (o : Option (List Range)) (w : Option Content) → ((s : List Range) → Iff (sets_equal_by (Some (values.set k s)) w ≡ true) (AreOne (Some (values.set k s)) w)) → IsSome (option_map (values.set k) o) → Iff (sets_equal_by (option_map (values.set k) o) w ≡ true) (AreOne (option_map (values.set k) o) w)
set_tested k None w tests some = absurd (cc)
set_tested k (Some s) w tests some = tests s

-- ---- symbols

abbrev RowTests : (ℕ → Term) → Base → Option ℕ → ℕ → Option Content → Type 0
RowTests t b o x w = Iff (is_true (scalar_value (equal_row b) (value_at t b o x ∷ w ∷ [])) ≡ true) (AreOne (value_at t b o x) w)

row_tests : (t : ℕ → Term) (b : Base) (o p : Option ℕ) (x y : ℕ) → is_shape b ≡ true → (is_subset_sort (sort_of b) ≡ true → o ≡ None) → IsSome (value_at t b o x) → RowTests t b o x (as_argument b p (value_at t b p y))
row_tests t base.Bool o p x y shape allowed some = at_tested t base.Bool o x (as_argument base.Bool p (value_at t base.Bool p y)) (λ some. made_tested (λ n. content_by base.Bool n []) (as_number (t x)) (as_argument base.Bool p (value_at t base.Bool p y)) (λ n. bool_optional _) some) some
row_tests t base.Int o p x y shape allowed some = at_tested t base.Int o x (value_at t base.Int p y) (λ some. made_tested values.int (as_number (t x)) (value_at t base.Int p y) int_optional some) some
row_tests t (base.Enum e) o p x y shape allowed some = at_tested t (base.Enum e) o x (value_at t (base.Enum e) p y) (λ some. made_tested (values.case e) (as_number (t x)) (value_at t (base.Enum e) p y) (case_optional e) some) some
row_tests t base.SetInt None None x y shape allowed some = set_tested None (as_set (t x)) (option_map (values.set None) (as_set (t y))) (λ s. sets_tested_by None s (as_set (t y))) some
row_tests t base.SetInt None (Some p) x y shape allowed some = set_tested None (as_set (t x)) (if terms.is_true (t p) then option_map (values.set None) (as_set (t y)) else Some values.absent) (λ s. options_of_sets None s (terms.is_true (t p)) (as_set (t y))) some
row_tests t base.SetInt (Some o) p x y shape allowed some = absurd (let e = allowed refl in cc)
row_tests t (base.SetEnum e) None None x y shape allowed some = set_tested (Some e) (as_set (t x)) (option_map (values.set (Some e)) (as_set (t y))) (λ s. sets_tested_by (Some e) s (as_set (t y))) some
row_tests t (base.SetEnum e) None (Some p) x y shape allowed some = set_tested (Some e) (as_set (t x)) (if terms.is_true (t p) then option_map (values.set (Some e)) (as_set (t y)) else Some values.absent) (λ s. options_of_sets (Some e) s (terms.is_true (t p)) (as_set (t y))) some
row_tests t (base.SetEnum e) (Some o) p x y shape allowed some = absurd (let e = allowed refl in cc)
row_tests t b o p x y shape allowed some = absurd (cc)

pub some_there : (v : Option Content) → IsSome v → (c : Content) × (v ≡ Some c)
some_there None some = absurd (cc)
some_there (Some c) some = (c, refl)

pub node_tests : (s : Run) (x y q : Symbol) (id : ℕ) → AreOfOneBase x y → IsOf base.Bool id q → ((r : Reading) → Reads r s → held r.mode (truth_of (row_value r (equal_row x.base) (x ∷ y ∷ []))) ≡ symbol_seen r q) → IsEqualNode s x y id
node_tests s x y q id one is seen = record {
  tests = λ r given reads some.
      let t : ℕ → Term = r.term in
      let row = equal_row x.base in
      let there = some_there (symbol_value t x) some in
      let first : argument r x ≡ symbol_value t x = argument_kept r x there.0 there.1 ∙ given_held r.mode (symbol_value t x) given in
      let second : argument r y ≡ own_argument r y = given_held r.mode (own_argument r y) given in
      let value : symbol_value t q ≡ truth_of (row_value r row (x ∷ y ∷ [])) = sym (given_held r.mode (symbol_value t q) given) ∙ sym (seen r reads) ∙ given_held r.mode (truth_of (row_value r row (x ∷ y ∷ []))) given in
      let node : symbol_value t q ≡ value_by base.Bool (t id) = ap (λ (b : Base). value_at t b q.occurs q.term) is.base ∙ ap (λ o. value_at t base.Bool o q.term) is.occurs ∙ ap (λ i. value_by base.Bool (t i)) is.term in
      let truth : terms.is_true (t id) ≡ is_true (scalar_value row (symbol_value t x ∷ own_argument r y ∷ [])) =
      sym (truth_is (t id)) ∙ ap is_true (sym node ∙ value)
      ∙ ap (λ v. is_true (scalar_value row (v ∷ argument r y ∷ []))) first
      ∙ ap (λ w. is_true (scalar_value row (symbol_value t x ∷ w ∷ []))) second in
      let tests : RowTests t x.base x.occurs x.term (own_argument r y) = subst (λ (b : Base). RowTests t x.base x.occurs x.term (as_argument b y.occurs (value_at t b y.occurs y.term))) (sym one.same) (row_tests t x.base x.occurs y.occurs x.term y.term one.shape one.allowed some) in
      record { to = λ h. tests.to (sym truth ∙ h); from = λ h. truth ∙ tests.from h };
}

-- what tests a symbol that stands for another tests that one
pub whole_tests : (mid new : Run) (x w y : Symbol) (id : ℕ) → ((r : Reading) → Reads r new → Reads r mid) → IsWholeOf mid x w → IsEqualNode new w y id → IsEqualNode new x y id
whole_tests mid new x w y id back h node = record {
  tests = λ r given reads some.
      let same = whole_value mid x w r h (back r reads) some in
      subst (λ (v : Option Content). TestsOne (r.term id) v (own_argument r y)) same (node.tests r given reads (subst (λ (v : Option Content). IsSome v) (sym same) some));
}
