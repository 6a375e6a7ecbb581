-- How a program is made of a model's variables and arrays, item by item, and what that tells of the program.
use Rattle.std.specs.Prelude.{◌≡◌, ℕ, suc, nat_eq, List, [], ◌∷◌, ◌++◌, length, filter, Bool, true, false, not, Option, Some, None, if◌then◌else◌}
use Rattle.std.specs.List.{AllByRecursion}
use Rattle.fz_program.specs.declared.program.Domain.{Domain}
use Rattle.fz_program.specs.declared.row_name.RowName.{RowName}
use Rattle.fz_program.specs.Arguments.{Argument}
use Rattle.fz_program.specs.Values.{Values}
use Rattle.fz_program.specs.Flat.{Variable, Row, Program, IsWellFormedRow}
use Rattle.fz_build.specs.Naming.{introduced_name}
use Rattle.fz_build.specs.Build.{AreOver, constraint, defining, introduced_variable, with_row, with_variable, with_defined}
use Rattle.fz_build.specs.Asked.{MayDefine}

-- ---- the steps

-- a variable that is neither introduced nor defined
pub record IsOfModel (v : Variable) : Type 0 where
  pub introduced : v.introduced ≡ false
  pub defined : v.defined ≡ false

-- a program with the variables and arrays of a model, before any row
pub record IsFront (p : Program) : Type 0 where
  pub variables : AllByRecursion IsOfModel p.vars
  pub rows : p.rows ≡ []

-- The program is made of the front by rows that define nothing, by defined variables with their rows, and by as many introduced variables that no row defines.
pub data Made (front : Program) : Program → ℕ → Type 0 where
  begins : Made front front 0
  adds_row : (p : Program) (n : ℕ) (name : RowName) (args : List Argument) → Made front p n → IsWellFormedRow p.vars (constraint name args) → Made front (with_row p (constraint name args)) n
  adds_defined : (p : Program) (n : ℕ) (name : RowName) (inputs : List Argument) (domain : Domain) → Made front p n → MayDefine p name inputs domain → Made front (with_defined p name inputs domain) n
  adds_choice : (p : Program) (n : ℕ) (domain : Domain) → Made front p n → Made front (with_variable p (introduced_variable p domain)) (suc n)

-- ---- rows that define a variable

abbrev pub is_place : ℕ → Option ℕ → Bool
is_place k None = false
is_place k (Some j) = nat_eq j k

-- the rows that define the variable at a place
abbrev pub definitions_of : ℕ → List Row → List Row
definitions_of k rows = filter (λ r. is_place k r.defines) rows

-- one row alone defines the variable at place k: from inputs, which speak of variables before it
pub record IsDefinedOnce (rows : List Row) (k : ℕ) : Type 0 where
  pub name : RowName
  pub inputs : List Argument
  pub before : AreOver k inputs
  pub only : definitions_of k rows ≡ defining name inputs k ∷ []

-- a variable that is marked as defined has one definition, and another has none
abbrev pub HasDefinition : Bool → List Row → ℕ → Type 0
HasDefinition true rows k = IsDefinedOnce rows k
HasDefinition false rows k = definitions_of k rows ≡ []

-- variables, of which the first stands at place k
abbrev pub HaveDefinitions : List Row → ℕ → List Variable → Type 0
HaveDefinitions rows k [] = Unit {0}
HaveDefinitions rows k (v ∷ vs) = HasDefinition v.defined rows k × HaveDefinitions rows (suc k) vs

-- ---- introduced variables

pub record IsIntroduced (k : ℕ) (v : Variable) : Type 0 where
  pub label : v.label ≡ introduced_name k
  pub introduced : v.introduced ≡ true
  pub output : v.output ≡ false

-- their names are numbered from k on
abbrev pub AreIntroduced : ℕ → List Variable → Type 0
AreIntroduced k [] = Unit {0}
AreIntroduced k (v ∷ vs) = IsIntroduced k v × AreIntroduced (suc k) vs

-- those that no row defines
abbrev pub choices_in : List Variable → List Variable
choices_in vs = filter (λ v. not v.defined) vs

-- The program has the front's variables and then introduced ones, and the front's arrays. Each introduced variable has one definition, but for n choices, which have none.
pub record IsMadeOf (front p : Program) (n : ℕ) : Type 0 where
  pub introduced : List Variable
  pub vars : p.vars ≡ front.vars ++ introduced
  pub are : AreIntroduced 0 introduced
  pub arrays : p.arrays ≡ front.arrays
  pub choices : length (choices_in introduced) ≡ n
  pub once : HaveDefinitions p.rows (length front.vars) introduced

-- ---- the values that determine a solution

-- the values of the variables that no row defines: those of the front and of choices
abbrev pub free_values : List Variable → Values → Values
free_values [] f = []
free_values (v ∷ vs) [] = []
free_values (v ∷ vs) (x ∷ f) = if v.defined then free_values vs f else x ∷ free_values vs f
