-- The kind of a row's result is that of the result's domain, and stands last among the row's kinds.
use Rattle.std.proofs.Common.{◌≡◌, List, [], ◌∷◌, ◌++◌, length, Bool, true, false, Option, Some, None, refl, sym, ap, ◌∙◌, ℤ}
use Rattle.std.specs.Prelude.{◌||◌}
use Rattle.fz_program.specs.declared.program.Domain.{Domain}
use Rattle.fz_program.specs.declared.row_name.RowName.{RowName}
use Rattle.fz_program.specs.declared.row_name.RowName.TheVariants.{IntLinEq, IntEq, IntNe, IntLe, IntLt, IntLinNe, IntLinLe, BoolEq, BoolClause, SetIn, SetEq, SetNe, SetSubset}
use Rattle.fz_program.specs.declared.row_name.Kind.{Kind}
use Rattle.fz_program.specs.declared.row_name.Kind.TheVariants.{Int, Bool as Truth, Set}
use Rattle.fz_program.specs.Arguments.{Argument}
use Rattle.fz_program.specs.Table.{line}
use Rattle.fz_program.specs.Flat.{Variable, kind_of_domain}
use Rattle.fz_build.specs.declared.form.Form.{Form}
use Rattle.fz_build.specs.declared.form.Form.TheVariants as forms
use Rattle.fz_build.specs.Inputs.{is_sum}
use Rattle.fz_build.specs.Results.{has_result}
use Rattle.fz_build.specs.Bounds.{input_kinds, form_of, domain_by, whole, result_domain}

-- the kind of what rows of a form give
abbrev kind_of_form : Form → Kind
kind_of_form forms.Test = Truth
kind_of_form forms.Truth = Truth
kind_of_form forms.TruthElement = Truth
kind_of_form (forms.Arithmetic op) = Int
kind_of_form forms.Magnitude = Int
kind_of_form forms.Flag = Int
kind_of_form forms.Element = Int
kind_of_form forms.Size = Int
kind_of_form forms.Sum = Int
kind_of_form (forms.Combined op) = Set
kind_of_form forms.SetElement = Set

some_same : (d e : Domain) → Some d ≡ Some e → d ≡ e
some_same d e h = cc

whole_kind : (o : Option (ℤ × ℤ)) (d : Domain) → whole o ≡ Some d → kind_of_domain d ≡ Int
unfolding kind_of_domain
whole_kind None d h = absurd (cc)
whole_kind (Some e) d h = ap kind_of_domain (sym (some_same _ d h))

kind_by : (form : Form) (vs : List Variable) (inputs : List Argument) (d : Domain) → domain_by form vs inputs ≡ Some d → kind_of_domain d ≡ kind_of_form form
unfolding domain_by kind_of_domain
kind_by forms.Test vs inputs d h = absurd (cc)
kind_by forms.Truth vs inputs d h = ap kind_of_domain (sym (some_same _ d h))
kind_by forms.TruthElement vs inputs d h = ap kind_of_domain (sym (some_same _ d h))
kind_by (forms.Arithmetic op) vs inputs d h = whole_kind _ d h
kind_by forms.Magnitude vs inputs d h = whole_kind _ d h
kind_by forms.Flag vs inputs d h = whole_kind _ d h
kind_by forms.Element vs inputs d h = whole_kind _ d h
kind_by forms.Size vs inputs d h = whole_kind _ d h
kind_by forms.Sum vs inputs d h = whole_kind _ d h
kind_by (forms.Combined op) vs inputs d h = ap kind_of_domain (sym (some_same _ d h))
kind_by forms.SetElement vs inputs d h = ap kind_of_domain (sym (some_same _ d h))

-- a row whose result has a domain has a result
pub giving : (name : RowName) (vs : List Variable) (inputs : List Argument) (d : Domain) → result_domain vs name inputs ≡ Some d → has_result name ≡ true
unfolding form_of domain_by line is_sum
giving IntEq vs inputs d h = absurd (cc)
giving IntNe vs inputs d h = absurd (cc)
giving IntLe vs inputs d h = absurd (cc)
giving IntLt vs inputs d h = absurd (cc)
giving IntLinNe vs inputs d h = absurd (cc)
giving IntLinLe vs inputs d h = absurd (cc)
giving BoolEq vs inputs d h = absurd (cc)
giving BoolClause vs inputs d h = absurd (cc)
giving SetIn vs inputs d h = absurd (cc)
giving SetEq vs inputs d h = absurd (cc)
giving SetNe vs inputs d h = absurd (cc)
giving SetSubset vs inputs d h = absurd (cc)
giving _ vs inputs d h = refl

last_of_form : (name : RowName) (vs : List Variable) (inputs : List Argument) (d : Domain) → result_domain vs name inputs ≡ Some d → is_sum name ≡ false → (line name).kinds ≡ input_kinds name ++ kind_of_form (form_of name) ∷ []
unfolding form_of domain_by line is_sum
last_of_form IntEq vs inputs d h none = absurd (cc)
last_of_form IntNe vs inputs d h none = absurd (cc)
last_of_form IntLe vs inputs d h none = absurd (cc)
last_of_form IntLt vs inputs d h none = absurd (cc)
last_of_form IntLinNe vs inputs d h none = absurd (cc)
last_of_form IntLinLe vs inputs d h none = absurd (cc)
last_of_form BoolEq vs inputs d h none = absurd (cc)
last_of_form BoolClause vs inputs d h none = absurd (cc)
last_of_form SetIn vs inputs d h none = absurd (cc)
last_of_form SetEq vs inputs d h none = absurd (cc)
last_of_form SetNe vs inputs d h none = absurd (cc)
last_of_form SetSubset vs inputs d h none = absurd (cc)
last_of_form IntLinEq vs inputs d h none = absurd (cc)
last_of_form _ vs inputs d h none = refl

-- the last of its kinds is that of the result
pub last_kind : (name : RowName) (vs : List Variable) (inputs : List Argument) (d : Domain) → result_domain vs name inputs ≡ Some d → is_sum name ≡ false → (line name).kinds ≡ input_kinds name ++ kind_of_domain d ∷ []
last_kind name vs inputs d h none = last_of_form name vs inputs d h none ∙ ap (λ k. input_kinds name ++ k ∷ []) (sym (kind_by (form_of name) vs inputs d h))

sum_form : (name : RowName) → is_sum name ≡ true → kind_of_form (form_of name) ≡ Int
unfolding form_of is_sum
sum_form IntLinEq is = refl
sum_form _ is = absurd (cc)

pub sum_kind : (name : RowName) (vs : List Variable) (inputs : List Argument) (d : Domain) → result_domain vs name inputs ≡ Some d → is_sum name ≡ true → kind_of_domain d ≡ Int
sum_kind name vs inputs d h is = kind_by (form_of name) vs inputs d h ∙ sum_form name is
