-- What holds of each program that is made step by step, and of each row that has a result.
use Rattle.std.specs.Prelude.{◌≡◌, ℕ, List, ◌++◌, ◌∷◌, [], length, true, Some}
use Rattle.fz_program.specs.declared.program.Domain.{Domain}
use Rattle.fz_program.specs.declared.row_name.RowName.{RowName}
use Rattle.fz_program.specs.Arguments.{Argument}
use Rattle.fz_program.specs.Values.{Values}
use Rattle.fz_program.specs.Flat.{Program, FlatSolves, IsSome, is_within}
use Rattle.fz_build.specs.Bounds.{AreInputs, result_domain}
use Rattle.fz_build.specs.Build.{args_with, defined_variable}
use Rattle.fz_build.specs.Asked.{MayDefine, is_linear_row}
use Rattle.fz_build.specs.History.{IsFront, Made, IsMadeOf, free_values}

-- each introduced variable has one definition, but for the choices
abbrev pub AreDefinedOnce : Type 0
AreDefinedOnce = (front p : Program) (n : ℕ) → IsFront front → Made front p n → IsMadeOf front p n

-- the model's values and those of the choices go on to one solution at most
abbrev pub FreeValuesDetermine : Type 0
FreeValuesDetermine = (front p : Program) (n : ℕ) → IsFront front → Made front p n → (f g : Values) → FlatSolves p f → FlatSolves p g → free_values p.vars f ≡ free_values p.vars g → f ≡ g

-- inputs of a row's kinds define a variable of the result's domain; a linear row must be shown to stay within 64 bits
abbrev pub ResultsMayDefine : Type 0
ResultsMayDefine = (p : Program) (name : RowName) (inputs : List Argument) (domain : Domain) → AreInputs p.vars name inputs → result_domain p.vars name inputs ≡ Some domain → IsSome domain → (is_linear_row name ≡ true → is_within (p.vars ++ defined_variable p domain ∷ []) (args_with name inputs (length p.vars)) ≡ true) → MayDefine p name inputs domain
