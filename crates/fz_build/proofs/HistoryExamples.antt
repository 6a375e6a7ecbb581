-- Worked examples of histories: a variable of the model, one that a row defines, and a choice.
use Rattle.std.proofs.Common.{◌≡◌, List, [], ◌∷◌, length, true, false, refl, codes, pos}
use Rattle.fz_program.specs.declared.program.Domain.TheVariants.{Bool as Truths}
use Rattle.fz_program.specs.declared.row_name.RowName.TheVariants as rows
use Rattle.fz_program.specs.Arguments.{var, one}
use Rattle.fz_program.specs.Values.{Values, number}
use Rattle.fz_program.specs.Table.{line}
use Rattle.fz_program.specs.Flat.{Variable, Row}
use Rattle.fz_build.specs.Naming.{introduced_name}
use Rattle.fz_build.specs.Build.{constraint, defining}
use Rattle.fz_build.specs.Asked.{is_linear_row}
use Rattle.fz_build.specs.History.{choices_in, definitions_of, free_values}

abbrev model : Variable
model = record { label = codes "x"; domain = Truths; introduced = false; defined = false; output = true }

abbrev defined : Variable
defined = record { label = introduced_name 0; domain = Truths; introduced = true; defined = true; output = false }

abbrev choice : Variable
choice = record { label = introduced_name 1; domain = Truths; introduced = true; defined = false; output = false }

abbrev vars : List Variable
vars = model ∷ defined ∷ choice ∷ []

-- the row that defines the second, and a row that both stand in
abbrev negation : Row
negation = defining rows.BoolNot (one (var 0) ∷ []) 1

abbrev equality : Row
equality = constraint rows.BoolEq (one (var 1) ∷ one (var 0) ∷ [])

abbrev some : Values
some = number (pos 1) ∷ number (pos 0) ∷ number (pos 1) ∷ []

record Examples : Type 0 where
  pub free : free_values vars some ≡ number (pos 1) ∷ number (pos 1) ∷ []
  pub choices : choices_in (defined ∷ choice ∷ []) ≡ choice ∷ []
  pub own : definitions_of 1 (equality ∷ negation ∷ equality ∷ []) ≡ negation ∷ []
  pub none : definitions_of 0 (equality ∷ negation ∷ []) ≡ []
  pub twice : length (definitions_of 1 (negation ∷ negation ∷ [])) ≡ 2

examples : Examples
examples = record { free = refl; choices = refl; own = refl; none = refl; twice = refl }

record Linear : Type 0 where
  pub sum : is_linear_row rows.IntLinEq ≡ true
  pub reified : is_linear_row rows.IntLinLeReif ≡ true
  pub product : is_linear_row rows.IntTimes ≡ false
  pub element : is_linear_row rows.ArrayIntElement ≡ false
  pub conjunction : is_linear_row rows.ArrayBoolAnd ≡ false
  pub clause : is_linear_row rows.BoolClause ≡ false

linear : Linear
unfolding line
linear = record { sum = refl; reified = refl; product = refl; element = refl; conjunction = refl; clause = refl }
