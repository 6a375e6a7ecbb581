-- Each solution goes on to one in which a defined variable is what its row gives.
use Rattle.std.proofs.Common.{◌≡◌, ℕ, List, [], ◌∷◌, ◌++◌, length, map, take, slice_index_or, Bool, true, false, refl, sym, ap, ap₂, subst, ◌∙◌, arith, Some}
use Rattle.std.specs.Prelude.{◌-ℤ◌, ◌||◌, pos, negsuc}
use Rattle.std.specs.List.{AllByRecursion}
use Rattle.std.proofs.lemmas.List.{map_push, length_push}
use Rattle.fz_program.specs.declared.row_name.RowName.{RowName}
use Rattle.fz_program.specs.declared.row_name.Kind.TheVariants.{Int, ConstInt, Ints, ConstInts}
use Rattle.fz_program.specs.declared.program.Domain.{Domain}
use Rattle.fz_program.specs.Arguments.{Plain, int, var, Argument, one, array, plain_of}
use Rattle.fz_program.specs.Values as values
use Rattle.fz_program.specs.Values.{Value, Values, ArgumentValue, number_in, linear}
use Rattle.fz_program.specs.Table.{Line, line, Holds, result_of, sum_equals, sum_at}
use Rattle.fz_program.specs.Flat.{Variable, Row, Program, plain_value, argument_value, RowHolds, IsInDomain, FlatSolves, is_variable_of, same_kind, kind_of_domain, are_arguments, is_within, IsWellFormedRow}
use Rattle.fz_build.specs.Inputs.{argument_at, elements_at, is_sum}
use Rattle.fz_build.specs.Results.{is_giving, has_result, result_by, result_given}
use Rattle.fz_build.proofs.InputValues.{value_is, values_are}
use Rattle.fz_build.specs.Build.{sum_with, args_by, args_with, defining, defined_variable, with_variable, with_defined}
use Rattle.fz_build.specs.Asked.{MayDefine}
use Rattle.fz_build.specs.Growth.{GoesOn, HasResult, Declares, Posts, Defines}
use Rattle.fz_build.proofs.Lists.{at_last}
use Rattle.fz_build.proofs.Values.{all_given_over, domains_length, gives_last, last_given}
use Rattle.fz_build.proofs.Declared.{IsWithLast, with_last, prefix_is, declared, posted}
use Rattle.fz_build.proofs.Sums.{IsSum, sum_of_inputs, sum_line, number_of, sum_holds, holds_sum}

-- a row that is no sum, over the values of all variables
module _ (name : RowName) (inputs : List Argument) (n : ℕ) (none : is_sum name ≡ false) where
  args_last : args_with name inputs n ≡ inputs ++ one (var n) ∷ []
  args_last = ap (λ b. args_by b inputs n) none

  given_last : (f : Values) → map (argument_value f) (args_with name inputs n) ≡ map (argument_value f) inputs ++ values.one (plain_value f (var n)) ∷ []
  given_last f = ap (map (argument_value f)) args_last ∙ map_push (argument_value f) inputs (one (var n))

  result_plain : (xs : List ArgumentValue) → result_given name xs ≡ result_of (line name).meaning xs
  result_plain xs = ap (λ b. result_by b (line name).meaning xs) none

  giving : has_result name ≡ true → is_giving (line name).meaning ≡ true
  giving h = ap (λ b. b || is_giving (line name).meaning) (sym none) ∙ h

  plain_holds : (f : Values) → has_result name ≡ true → RowHolds f (defining name inputs n) → result_given name (map (argument_value f) inputs) ≡ Some (plain_value f (var n))
  plain_holds f r h = result_plain (map (argument_value f) inputs) ∙ gives_last (line name).meaning (map (argument_value f) inputs) (plain_value f (var n)) (giving r) (subst (Holds (line name).meaning) (given_last f) h)

  holds_plain : (f : Values) → has_result name ≡ true → result_given name (map (argument_value f) inputs) ≡ Some (plain_value f (var n)) → RowHolds f (defining name inputs n)
  holds_plain f r h = subst (Holds (line name).meaning) (sym (given_last f)) (last_given (line name).meaning (map (argument_value f) inputs) (plain_value f (var n)) (giving r) (sym (result_plain (map (argument_value f) inputs)) ∙ h))

-- the sum
args_sum : (name : RowName) (inputs : List Argument) (n : ℕ) → is_sum name ≡ true → args_with name inputs n ≡ sum_with inputs n
args_sum name inputs n is = ap (λ b. args_by b inputs n) is

sum_in : (name : RowName) (inputs : List Argument) (n : ℕ) (vs : List Variable) → is_sum name ≡ true → IsWellFormedRow vs (defining name inputs n) → IsSum vs inputs n
unfolding line
sum_in name inputs n vs is w =
    let args = args_sum name inputs n is in
    let kinds : are_arguments vs (ConstInts ∷ Ints ∷ ConstInt ∷ []) (args_with name inputs n) ≡ true = subst (λ (l : Line). are_arguments vs l.kinds (args_with name inputs n) ≡ true) (sum_line name is) w.args in
    sum_of_inputs vs inputs n
    (subst (λ xs. are_arguments vs (ConstInts ∷ Ints ∷ ConstInt ∷ []) xs ≡ true) args kinds)
    (subst (λ xs. is_within vs xs ≡ true) args w.within)

module _ (name : RowName) (inputs : List Argument) (n : ℕ) (is : is_sum name ≡ true) (vs : List Variable) (s : IsSum vs inputs n) where
  abbrev Constant : Plain
  Constant = plain_of (argument_at inputs 2)

  abbrev Terms : List Argument
  Terms = array (elements_at inputs 0) ∷ array (elements_at inputs 1) ∷ one Constant ∷ []

  args_are : args_with name inputs n ≡ sum_with Terms n
  args_are = args_sum name inputs n is ∙ ap (λ a. array (elements_at inputs 0 ++ int (negsuc 0) ∷ []) ∷ array (elements_at inputs 1 ++ var n ∷ []) ∷ a ∷ []) s.constant

  to_sum : (f : Values) → RowHolds f (defining name inputs n) → sum_equals (map (argument_value f) (sum_with Terms n)) ≡ true
  unfolding line
  to_sum f h = subst (λ xs. sum_equals (map (argument_value f) xs) ≡ true) args_are (subst (λ (l : Line). Holds l.meaning (map (argument_value f) (args_with name inputs n))) (sum_line name is) h)

  from_sum : (f : Values) → sum_equals (map (argument_value f) (sum_with Terms n)) ≡ true → RowHolds f (defining name inputs n)
  unfolding line
  from_sum f h = subst (λ (l : Line). Holds l.meaning (map (argument_value f) (args_with name inputs n))) (sym (sum_line name is)) (subst (λ xs. sum_equals (map (argument_value f) xs) ≡ true) (sym args_are) h)

  given_sum : (f : Values) → result_given name (map (argument_value f) inputs) ≡ Some (values.number (sum_at (map (argument_value f) Terms) -ℤ number_in (plain_value f Constant)))
  given_sum f =
      let sum : sum_at (map (argument_value f) inputs) ≡ sum_at (map (argument_value f) Terms) = ap₂ (λ cs xs. linear (map number_in cs) (map number_in xs)) (values_are f inputs 0) (values_are f inputs 1) in
      ap (λ b. result_by b (line name).meaning (map (argument_value f) inputs)) is ∙ ap₂ (λ t c. Some (values.number (t -ℤ c))) sum (ap number_in (value_is f inputs 2))

  total_holds : (f : Values) → plain_value f (var n) ≡ values.number (number_in (plain_value f (var n))) → RowHolds f (defining name inputs n) → result_given name (map (argument_value f) inputs) ≡ Some (plain_value f (var n))
  total_holds f e h = given_sum f ∙ sum_holds f (elements_at inputs 0) (elements_at inputs 1) Constant n s.as_many e (to_sum f h)

  holds_total : (f : Values) → result_given name (map (argument_value f) inputs) ≡ Some (plain_value f (var n)) → RowHolds f (defining name inputs n)
  holds_total f h = from_sum f (holds_sum f (elements_at inputs 0) (elements_at inputs 1) Constant n s.as_many (sym (given_sum f) ∙ h))

-- the new variable of a sum is an integer
new_kind : (vs : List Variable) (v : Variable) → is_variable_of (vs ++ v ∷ []) Int (length vs) ≡ true → same_kind Int (kind_of_domain v.domain) ≡ true
new_kind [] v h = h
new_kind (w ∷ vs) v h = new_kind vs v h

last_is : (n : ℕ) (f : Values) (x : Value) → length f ≡ n → plain_value (f ++ x ∷ []) (var n) ≡ x
last_is n f x l = ap (λ k. slice_index_or (f ++ x ∷ []) k (values.number (pos 0))) (sym l) ∙ at_last f x (values.number (pos 0))

-- ---- a row with a result holds where its variable is the result
module _ (p : Program) (name : RowName) (inputs : List Argument) (domain : Domain) (m : MayDefine p name inputs domain) where
  abbrev n : ℕ
  n = length p.vars

  abbrev Wide : List Variable
  Wide = p.vars ++ defined_variable p domain ∷ []

  integer_last : is_sum name ≡ true → (x : Value) → IsInDomain domain x → x ≡ values.number (number_in x)
  integer_last is x i = let s = sum_in name inputs n Wide is m.row in number_of domain x (new_kind p.vars (defined_variable p domain) s.integer) i

  holds_by : (b : Bool) → is_sum name ≡ b → (f : Values) (x : Value) → length f ≡ n → IsInDomain domain x → RowHolds (f ++ x ∷ []) (defining name inputs n) → result_given name (map (argument_value (f ++ x ∷ [])) inputs) ≡ Some (plain_value (f ++ x ∷ []) (var n))
  holds_by true is f x l i h =
      let here : plain_value (f ++ x ∷ []) (var n) ≡ x = last_is n f x l in
      total_holds name inputs n is Wide (sum_in name inputs n Wide is m.row) (f ++ x ∷ []) (here ∙ integer_last is x i ∙ ap (λ y. values.number (number_in y)) (sym here)) h
  holds_by false none f x l i h = plain_holds name inputs n none (f ++ x ∷ []) m.result h

  gives_by : (b : Bool) → is_sum name ≡ b → (f : Values) → result_given name (map (argument_value f) inputs) ≡ Some (plain_value f (var n)) → RowHolds f (defining name inputs n)
  gives_by true is f h = holds_total name inputs n is Wide (sum_in name inputs n Wide is m.row) f h
  gives_by false none f h = holds_plain name inputs n none f m.result h

  result_holds : (f : Values) (x : Value) → length f ≡ n → result_given name (map (argument_value f) inputs) ≡ Some x → RowHolds (f ++ x ∷ []) (defining name inputs n)
  result_holds f x l h =
      gives_by (is_sum name) refl (f ++ x ∷ []) (ap (result_given name) (all_given_over f (x ∷ []) n l inputs m.over) ∙ h ∙ ap (λ v. Some v) (sym (last_is n f x l)))

-- ---- solutions

module _ (p : Program) (name : RowName) (inputs : List Argument) (domain : Domain) (m : MayDefine p name inputs domain) (w : AllByRecursion (IsWellFormedRow p.vars) p.rows) where
  abbrev New : Variable
  New = defined_variable p domain

  abbrev Wider : Program
  Wider = with_variable p New

  abbrev Definition : Row
  Definition = defining name inputs (length p.vars)

  abbrev Grown : Program
  Grown = with_defined p name inputs domain

  abbrev variable_more : Declares p Wider domain (one (var (length p.vars)))
  variable_more = declared p New w

  abbrev row_more : Posts Wider Grown Definition
  row_more = posted Wider Definition

  -- a solution begins with one of the old program
  ends : (f : Values) → FlatSolves Grown f → IsWithLast p New f
  ends f s = with_last p New w f (row_more.down f s)

  value : (f : Values) → FlatSolves Grown f → result_given name (map (argument_value f) inputs) ≡ Some (plain_value f (var (length p.vars)))
  value f s =
      let q = ends f s in
      let row : RowHolds (q.prefix ++ q.last ∷ []) Definition = subst (λ g. RowHolds g Definition) (sym q.is) (row_more.holds f s) in
      subst (λ g. result_given name (map (argument_value g) inputs) ≡ Some (plain_value g (var (length p.vars)))) q.is (holds_by p name inputs domain m (is_sum name) refl q.prefix q.last q.as_many q.inside row)

  up : (f : Values) → FlatSolves p f → HasResult name inputs domain f → GoesOn Grown f
  up f s h = record {
    rest = h.result ∷ [];
    solves = row_more.up (f ++ h.result ∷ []) (variable_more.up f h.result s h.inside) (result_holds p name inputs domain m f h.result (domains_length p.vars f s.domains) h.is);
  }

  -- the inputs' values are those of the first variables
  inputs_first : (f : Values) → FlatSolves Grown f → map (argument_value f) inputs ≡ map (argument_value (take (length p.vars) f)) inputs
  inputs_first f s =
      let q = ends f s in
      let at : (g h : Values) → g ≡ h → map (argument_value g) inputs ≡ map (argument_value h) inputs = λ g h e. ap (λ g. map (argument_value g) inputs) e in
      at f (q.prefix ++ q.last ∷ []) (sym q.is) ∙ all_given_over q.prefix (q.last ∷ []) (length p.vars) q.as_many inputs m.over ∙ at q.prefix (take (length p.vars) f) (sym (prefix_is p New w f q))

  same_some : (x y : Value) → Some x ≡ Some y → x ≡ y
  same_some x y e = cc

  only : (f g : Values) → FlatSolves Grown f → FlatSolves Grown g → take (length p.vars) f ≡ take (length p.vars) g → f ≡ g
  only f g s t e =
      let inputs_same : map (argument_value f) inputs ≡ map (argument_value g) inputs = inputs_first f s ∙ ap (λ h. map (argument_value h) inputs) e ∙ sym (inputs_first g t) in
      variable_more.one f g (row_more.down f s) (row_more.down g t) e (same_some _ _ (sym (value f s) ∙ ap (result_given name) inputs_same ∙ value g t))

  pub defined : Defines p Grown name inputs domain (one (var (length p.vars)))
  defined = record {
    grows = record {
      longer = let l = length_push p.vars New in omega (arith, l);
      kept = variable_more.kept;
      down = λ f s. variable_more.down f (row_more.down f s);
      up = up;
      one = only;
    };
    typed = variable_more.typed;
    place = let l = length_push p.vars New in omega (arith, l);
    value = value;
  }
