-- A program that is being built, and what each call adds to it.
use Rattle.std.specs.Prelude.{ℕ, ◌<◌, negsuc, List, [], ◌∷◌, ◌++◌, length, map, Bool, true, false, Some, None}
use Rattle.std.specs.List.{AllByRecursion, Contains}
use Rattle.fz_program.specs.declared.program.FzGoal.{FzGoal}
use Rattle.fz_program.specs.declared.program.FzGoal.TheVariants.{Satisfy}
use Rattle.fz_program.specs.declared.program.Domain.{Domain}
use Rattle.fz_program.specs.declared.program.FzVar.{FzVar}
use Rattle.fz_program.specs.declared.program.FzArray.{FzArray}
use Rattle.fz_program.specs.declared.program.FzRow.{FzRow}
use Rattle.fz_program.specs.declared.row_name.RowName.{RowName}
use Rattle.fz_program.specs.Arguments.{Plain, bool, int, set, var, nested, Argument, one, array}
use Rattle.fz_program.specs.Flat.{Variable, ArrayItem, Row, Program, labels, IsWellFormedVariable, IsWellFormedArray, WellFormed, variable, array_item, row}
use Rattle.fz_build.specs.Inputs.{is_sum, argument_at, elements_at}
use Rattle.fz_build.specs.Naming.{introduced_name, IsNamed, AreNamed, next_number}

-- ---- programs with one item more

abbrev pub empty : Program
empty = record { vars = []; arrays = []; rows = []; goal = Satisfy }

abbrev pub with_variable : Program → Variable → Program
with_variable p v = record { vars = p.vars ++ v ∷ []; arrays = p.arrays; rows = p.rows; goal = p.goal }

abbrev pub with_array : Program → ArrayItem → Program
with_array p a = record { vars = p.vars; arrays = p.arrays ++ a ∷ []; rows = p.rows; goal = p.goal }

abbrev pub with_row : Program → Row → Program
with_row p r = record { vars = p.vars; arrays = p.arrays; rows = p.rows ++ r ∷ []; goal = p.goal }

abbrev pub with_goal : Program → FzGoal → Program
with_goal p g = record { vars = p.vars; arrays = p.arrays; rows = p.rows; goal = g }

-- ---- what a builder promises of its program, and asks of what is added

pub record IsBuilt (p : Program) : Type 0 where
  pub well_formed : WellFormed p
  pub variables : AreNamed 0 p.vars
  pub arrays : AllByRecursion (λ a. IsNamed false 0 a.label) p.arrays

-- a well-formed variable with a new name, which is the next introduced name where it is introduced
pub record MayDeclare (p : Program) (v : Variable) : Type 0 where
  pub variable : IsWellFormedVariable v
  pub new : Contains (labels p) v.label → ⊥
  pub named : IsNamed v.introduced (next_number p.vars) v.label

pub record MayAdd (p : Program) (a : ArrayItem) : Type 0 where
  pub array : IsWellFormedArray p.vars a
  pub new : Contains (labels p) a.label → ⊥
  pub named : IsNamed false 0 a.label

-- a row that defines nothing
abbrev pub constraint : RowName → List Argument → Row
constraint name args = record { name = name; args = args; defines = None }

-- ---- introduced variables

-- the variable that `introduce` adds: no row defines it
abbrev pub introduced_variable : Program → Domain → Variable
introduced_variable p domain = record { label = introduced_name (next_number p.vars); domain = domain; introduced = true; defined = false; output = false }

-- the variable that `define` adds
abbrev pub defined_variable : Program → Domain → Variable
defined_variable p domain = record { label = introduced_name (next_number p.vars); domain = domain; introduced = true; defined = true; output = false }

-- the coefficients, with -1 for one variable more
abbrev pub coefficients_with : List Argument → Argument
coefficients_with inputs = array (elements_at inputs 0 ++ int (negsuc 0) ∷ [])

-- the coefficients, the integers and the constant, with -1 times the variable k
abbrev pub sum_with : List Argument → ℕ → List Argument
sum_with inputs k = coefficients_with inputs ∷ array (elements_at inputs 1 ++ var k ∷ []) ∷ argument_at inputs 2 ∷ []

abbrev pub args_by : Bool → List Argument → ℕ → List Argument
args_by true inputs k = sum_with inputs k
args_by false inputs k = inputs ++ one (var k) ∷ []

-- the inputs, and the variable k as their result
abbrev pub args_with : RowName → List Argument → ℕ → List Argument
args_with name inputs k = args_by (is_sum name) inputs k

-- the row that defines the variable k by the inputs
abbrev pub defining : RowName → List Argument → ℕ → Row
defining name inputs k = record { name = name; args = args_with name inputs k; defines = Some k }

-- the program with one defined variable more, and its row
abbrev pub with_defined : Program → RowName → List Argument → Domain → Program
with_defined p name inputs domain = with_row (with_variable p (defined_variable p domain)) (defining name inputs (length p.vars))

-- inputs speak of the first n variables alone
abbrev pub IsOver : ℕ → Plain → Type 0
IsOver n (var k) = k < n
IsOver n (bool b) = Unit {0}
IsOver n (int i) = Unit {0}
IsOver n (set s) = Unit {0}
IsOver n nested = Unit {0}

abbrev pub IsArgumentOver : ℕ → Argument → Type 0
IsArgumentOver n (one p) = IsOver n p
IsArgumentOver n (array ps) = AllByRecursion (IsOver n) ps

abbrev pub AreOver : ℕ → List Argument → Type 0
AreOver n args = AllByRecursion (IsArgumentOver n) args

-- the items of the code, with the solve item `satisfy`
abbrev pub items : List FzVar → List FzArray → List FzRow → Program
items vars arrays rows = record { vars = map variable vars; arrays = map array_item arrays; rows = map row rows; goal = Satisfy }
