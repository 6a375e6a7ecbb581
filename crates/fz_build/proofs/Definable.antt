-- Inputs of a row's kinds, whose result has a domain, define a variable of that domain.
use Rattle.std.proofs.Common.{◌≡◌, ℕ, List, [], ◌∷◌, ◌++◌, length, Bool, true, false, Some, refl, sym, ap, subst, ◌∙◌, arith}
use Rattle.std.specs.Prelude.{◌||◌, ◌&&◌, not, nat_eq, negsuc}
use Rattle.std.specs.List.{list_any, list_all}
use Rattle.std.proofs.lemmas.Bool.{and_parts, and_from}
use Rattle.std.proofs.lemmas.Bool.Decides.{nat_tests}
use Rattle.fz_program.specs.declared.program.Domain.{Domain}
use Rattle.fz_program.specs.declared.program.Domain.TheVariants.{Bool as Truths, Ints as Integers, SetOf}
use Rattle.fz_program.specs.declared.row_name.RowName.{RowName}
use Rattle.fz_program.specs.declared.row_name.RowName.TheVariants.{IntLinEq}
use Rattle.fz_program.specs.declared.row_name.Kind.{Kind}
use Rattle.fz_program.specs.declared.row_name.Kind.TheVariants.{Int, Bool as Truth, Set, ConstInt, Ints, Bools, Sets, ConstInts, ConstBools, ConstSets}
use Rattle.fz_program.specs.Arguments.{Plain, var, int, Argument, one, array}
use Rattle.fz_program.specs.Table.{line}
use Rattle.fz_program.specs.Flat.{Variable, Program, IsSome, is_kind, same_kind, kind_of_domain, is_constant, is_plain, is_one_of, is_argument, are_arguments, is_variable, has_variable, is_definition, is_within}
use Rattle.fz_build.specs.Inputs.{is_sum, argument_at, elements_at}
use Rattle.fz_build.specs.Bounds.{AreInputs, input_kinds, result_domain}
use Rattle.fz_build.proofs.ResultKinds.{giving, last_kind, sum_kind}
use Rattle.fz_build.specs.Build.{args_by, args_with, coefficients_with, sum_with, defined_variable}
use Rattle.fz_build.specs.Asked.{MayDefine, is_array_kind, begin_linear, is_linear_row}
use Rattle.fz_build.proofs.Lists.{get_last, all_from, all_append}
use Rattle.fz_build.proofs.Wider.{argument_wider, arguments_over, or_left, or_right, plain_wider}

-- ---- a sum's kinds

sum_kinds : (name : RowName) → is_sum name ≡ true → (input_kinds name ≡ ConstInts ∷ Ints ∷ ConstInt ∷ []) × ((line name).kinds ≡ ConstInts ∷ Ints ∷ ConstInt ∷ [])
unfolding line is_sum
sum_kinds IntLinEq is = (refl, refl)
sum_kinds _ is = absurd (cc)

-- ---- the new variable is of its domain's kind

module _ (p : Program) (d : Domain) where
  abbrev Wide : List Variable
  Wide = p.vars ++ defined_variable p d ∷ []

  new_plain : (k : Kind) → kind_of_domain d ≡ k → is_plain Wide k (var (length p.vars)) ≡ true
  unfolding is_plain same_kind kind_of_domain
  new_plain k e = ap (λ o. is_kind o k) (get_last p.vars (defined_variable p d)) ∙ sym (ap (λ j. same_kind j (kind_of_domain d)) e) ∙ own d
    where
      own : (g : Domain) → same_kind (kind_of_domain g) (kind_of_domain g) ≡ true
      own Truths = refl
      own (Integers s) = refl
      own (SetOf s) = refl

  new_argument : (g : Domain) → d ≡ g → is_argument Wide (kind_of_domain g) (one (var (length p.vars))) ≡ true
  unfolding is_argument kind_of_domain
  new_argument Truths e = new_plain Truth (ap kind_of_domain e)
  new_argument (Integers s) e = new_plain Int (ap kind_of_domain e)
  new_argument (SetOf s) e = new_plain Set (ap kind_of_domain e)

-- ---- the arguments with the new variable

arguments_with : (vs ws : List Variable) (kinds : List Kind) (args : List Argument) (k : Kind) (a : Argument) → are_arguments vs kinds args ≡ true → is_argument (vs ++ ws) k a ≡ true → are_arguments (vs ++ ws) (kinds ++ k ∷ []) (args ++ a ∷ []) ≡ true
unfolding are_arguments
arguments_with vs ws [] [] k a h l = and_from (is_argument (vs ++ ws) k a) true l refl
arguments_with vs ws [] (b ∷ args) k a h l = absurd (cc)
arguments_with vs ws (j ∷ kinds) [] k a h l = absurd (cc)
arguments_with vs ws (j ∷ kinds) (b ∷ args) k a h l =
    let both = and_parts (is_argument vs j b) (are_arguments vs kinds args) h in
    and_from (is_argument (vs ++ ws) j b) (are_arguments (vs ++ ws) (kinds ++ k ∷ []) (args ++ a ∷ [])) (argument_wider vs ws j b both.0) (arguments_with vs ws kinds args k a both.1 l)

any_push : {X : Type 0} (p : X → Bool) (xs : List X) (x : X) → p x ≡ true → list_any p (xs ++ x ∷ []) ≡ true
any_push p [] x h = or_left (p x) false h
any_push p (y ∷ xs) x h = or_right (p y) (list_any p (xs ++ x ∷ [])) (any_push p xs x h)

own_number : (n : ℕ) → nat_eq n n ≡ true
own_number n = grind (arith, nat_tests)

minus_one : list_all (is_constant Int) (int (negsuc 0) ∷ []) ≡ true
unfolding is_constant same_kind
minus_one = refl

-- ---- rows other than linear ones stay within any limit

array_kind : (vs : List Variable) (k : Kind) (ps : List Plain) → is_argument vs k (array ps) ≡ true → is_array_kind k ≡ true
unfolding is_argument
array_kind vs Int ps h = absurd (cc)
array_kind vs Truth ps h = absurd (cc)
array_kind vs Set ps h = absurd (cc)
array_kind vs ConstInt ps h = absurd (cc)
array_kind vs Ints ps h = refl
array_kind vs Bools ps h = refl
array_kind vs Sets ps h = refl
array_kind vs ConstInts ps h = refl
array_kind vs ConstBools ps h = refl
array_kind vs ConstSets ps h = refl

single_kind : (vs : List Variable) (k : Kind) (q : Plain) → is_argument vs k (one q) ≡ true → is_array_kind k ≡ false
unfolding is_argument
single_kind vs Int q h = refl
single_kind vs Truth q h = refl
single_kind vs Set q h = refl
single_kind vs ConstInt q h = refl
single_kind vs Ints q h = absurd (cc)
single_kind vs Bools q h = absurd (cc)
single_kind vs Sets q h = absurd (cc)
single_kind vs ConstInts q h = absurd (cc)
single_kind vs ConstBools q h = absurd (cc)
single_kind vs ConstSets q h = absurd (cc)

linear_kinds : (vs : List Variable) (kinds : List Kind) (cs xs : List Plain) (c : Plain) (more : List Argument) → are_arguments vs kinds (array cs ∷ array xs ∷ one c ∷ more) ≡ true → begin_linear kinds ≡ true
unfolding are_arguments
linear_kinds vs [] cs xs c more h = absurd (cc)
linear_kinds vs (i ∷ []) cs xs c more h = absurd (let b = and_parts (is_argument vs i (array cs)) false h in cc)
linear_kinds vs (i ∷ j ∷ []) cs xs c more h =
    absurd (let a = and_parts (is_argument vs i (array cs)) (is_argument vs j (array xs) && false) h in let b = and_parts (is_argument vs j (array xs)) false a.1 in cc)
linear_kinds vs (i ∷ j ∷ k ∷ kinds) cs xs c more h =
    let a = and_parts (is_argument vs i (array cs)) (is_argument vs j (array xs) && (is_argument vs k (one c) && are_arguments vs kinds more)) h in
    let b = and_parts (is_argument vs j (array xs)) (is_argument vs k (one c) && are_arguments vs kinds more) a.1 in
    let d = and_parts (is_argument vs k (one c)) (are_arguments vs kinds more) b.1 in
    and_from (is_array_kind i) (is_array_kind j && not (is_array_kind k)) (array_kind vs i cs a.0)
    (and_from (is_array_kind j) (not (is_array_kind k)) (array_kind vs j xs b.0) (ap not (single_kind vs k c d.0)))

others_within : (vs : List Variable) (kinds : List Kind) (args : List Argument) → are_arguments vs kinds args ≡ true → begin_linear kinds ≡ false → is_within vs args ≡ true
unfolding is_within
others_within vs kinds (array cs ∷ array xs ∷ one c ∷ more) h o = absurd (let l = linear_kinds vs kinds cs xs c more h in cc)
others_within vs kinds (array cs ∷ array xs ∷ array ds ∷ more) h o = refl
others_within vs kinds (array cs ∷ array xs ∷ []) h o = refl
others_within vs kinds (array cs ∷ one x ∷ more) h o = refl
others_within vs kinds (array cs ∷ []) h o = refl
others_within vs kinds (one c ∷ more) h o = refl
others_within vs kinds [] h o = refl

-- ---- the row

module _ (p : Program) (name : RowName) (inputs : List Argument) (d : Domain) (are : AreInputs p.vars name inputs) (gives : result_domain p.vars name inputs ≡ Some d) where
  abbrev New : ℕ
  New = length p.vars

  -- all but the last are the inputs
  plain_args : is_sum name ≡ false → are_arguments (Wide p d) (line name).kinds (inputs ++ one (var New) ∷ []) ≡ true
  plain_args none =
      subst (λ ks. are_arguments (Wide p d) ks (inputs ++ one (var New) ∷ []) ≡ true) (sym (last_kind name p.vars inputs d gives none))
      (arguments_with p.vars (defined_variable p d ∷ []) (input_kinds name) inputs (kind_of_domain d) (one (var New)) are (new_argument p d d refl))

  -- the variable stands last among the integers
  sum_args : (xs : List Argument) → kind_of_domain d ≡ Int → are_arguments p.vars (ConstInts ∷ Ints ∷ ConstInt ∷ []) xs ≡ true → are_arguments (Wide p d) (ConstInts ∷ Ints ∷ ConstInt ∷ []) (sum_with xs New) ≡ true
  unfolding are_arguments is_argument
  sum_args [] k h = absurd (cc)
  sum_args (one c ∷ more) k h = absurd (cc)
  sum_args (array cs ∷ []) k h = absurd (let a = and_parts (list_all (is_constant Int) cs) false h in cc)
  sum_args (array cs ∷ one x ∷ []) k h = absurd (let a = and_parts (list_all (is_constant Int) cs) false h in cc)
  sum_args (array cs ∷ one x ∷ c ∷ more) k h = absurd (let a = and_parts (list_all (is_constant Int) cs) false h in cc)
  sum_args (array cs ∷ array xs ∷ []) k h =
      absurd (let a = and_parts (list_all (is_constant Int) cs) (list_all (is_plain p.vars Int) xs && false) h in let b = and_parts (list_all (is_plain p.vars Int) xs) false a.1 in cc)
  sum_args (array cs ∷ array xs ∷ c ∷ []) k h =
      let a = and_parts (list_all (is_constant Int) cs) (list_all (is_plain p.vars Int) xs && (is_one_of (is_constant Int) c && true)) h in
      let b = and_parts (list_all (is_plain p.vars Int) xs) (is_one_of (is_constant Int) c && true) a.1 in
      let integers = all_append (is_plain (Wide p d) Int) xs (var New ∷ []) (all_from (is_plain p.vars Int) (is_plain (Wide p d) Int) xs (plain_wider p.vars (defined_variable p d ∷ []) Int) b.0) (and_from (is_plain (Wide p d) Int (var New)) true (new_plain p d Int k) refl) in
      and_from (list_all (is_constant Int) (cs ++ int (negsuc 0) ∷ [])) (list_all (is_plain (Wide p d) Int) (xs ++ var New ∷ []) && (is_one_of (is_constant Int) c && true))
      (all_append (is_constant Int) cs (int (negsuc 0) ∷ []) a.0 minus_one)
      (and_from (list_all (is_plain (Wide p d) Int) (xs ++ var New ∷ [])) (is_one_of (is_constant Int) c && true) integers b.1)
  sum_args (array cs ∷ array xs ∷ c ∷ e ∷ more) k h =
      absurd (
      let a = and_parts (list_all (is_constant Int) cs) (list_all (is_plain p.vars Int) xs && (is_one_of (is_constant Int) c && false)) h in
      let b = and_parts (list_all (is_plain p.vars Int) xs) (is_one_of (is_constant Int) c && false) a.1 in
      let f = and_parts (is_one_of (is_constant Int) c) false b.1 in
      cc)

  args_by_sum : (b : Bool) → is_sum name ≡ b → are_arguments (Wide p d) (line name).kinds (args_by b inputs New) ≡ true
  args_by_sum true is =
      let kinds = sum_kinds name is in
      subst (λ ks. are_arguments (Wide p d) ks (sum_with inputs New) ≡ true) (sym kinds.1) (sum_args inputs (sum_kind name p.vars inputs d gives is) (subst (λ ks. are_arguments p.vars ks inputs ≡ true) kinds.0 are))
  args_by_sum false none = plain_args none

  defines_by_sum : (b : Bool) → is_definition (args_by b inputs New) (Some New) ≡ true
  defines_by_sum true = or_right (has_variable New (coefficients_with inputs)) (list_any (is_variable New) (elements_at inputs 1 ++ var New ∷ []) || (has_variable New (argument_at inputs 2) || false)) (or_left (list_any (is_variable New) (elements_at inputs 1 ++ var New ∷ [])) (has_variable New (argument_at inputs 2) || false) (any_push (is_variable New) (elements_at inputs 1) (var New) (own_number New)))
  defines_by_sum false = any_push (has_variable New) inputs (one (var New)) (own_number New)

  within : (b : Bool) → is_linear_row name ≡ b → (is_linear_row name ≡ true → is_within (Wide p d) (args_with name inputs New) ≡ true) → is_within (Wide p d) (args_with name inputs New) ≡ true
  within true is h = h is
  within false other h = others_within (Wide p d) (line name).kinds (args_with name inputs New) (args_by_sum (is_sum name) refl) other

pub may_define : (p : Program) (name : RowName) (inputs : List Argument) (d : Domain) → AreInputs p.vars name inputs → result_domain p.vars name inputs ≡ Some d → IsSome d → (is_linear_row name ≡ true → is_within (p.vars ++ defined_variable p d ∷ []) (args_with name inputs (length p.vars)) ≡ true) → MayDefine p name inputs d
may_define p name inputs d are gives some limit = record {
  result = giving name p.vars inputs d gives;
  over = arguments_over p.vars (input_kinds name) inputs are;
  some = some;
  row = record {
    args = args_by_sum p name inputs d are gives (is_sum name) refl;
    defines = defines_by_sum p name inputs d are gives (is_sum name);
    within = within p name inputs d are gives (is_linear_row name) refl limit;
  };
}
