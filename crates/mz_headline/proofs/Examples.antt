-- WRONG PROGRAMS, each of which keeps no solutions: one that minimizes where the model maximizes, one without a declared variable, one with a name of another kind, and one whose variable isn't marked for output.
-- var 1..3: x; solve maximize x;
use Rattle.std.proofs.Common.{◌≡◌, ℕ, pos, Bool, true, false, List, [], ◌∷◌, Some, None, codes}
use Rattle.mz_core.specs.Program.{PlainProgram, maximize}
use Rattle.mz_core.specs.Types.{PlainType}
use Rattle.mz_core.specs.Tree.{Decl}
use Rattle.mz_meaning.specs.Walk.{Limits}
use Rattle.mz_meaning.specs.Written.{list_of, var_int, var_opt_int, var_ints, slot, range, within, indexed, decl}
use Rattle.fz_program.specs.Names.{Name}
use Rattle.fz_program.specs.declared.program.Domain.{Domain}
use Rattle.fz_program.specs.declared.program.Domain.TheVariants.{Bool as Truths, Ints, SetOf}
use Rattle.fz_program.specs.declared.program.FzGoal.{FzGoal}
use Rattle.fz_program.specs.declared.program.FzGoal.TheVariants.{Satisfy, Minimize, Maximize}
use Rattle.fz_program.specs.Flat.{Variable, Row, Program}
use Rattle.mz_headline.specs.Keeping.{KeepsSolutions}

abbrev table : List Name
table = codes "x" ∷ []

abbrev model : Decl → PlainProgram
model d = record { cases = []; texts = []; decls = d ∷ []; order = 0 ∷ []; functions = []; constraints = []; goal = maximize (slot 30 var_int 0); outputs = [] }

-- var 1..3: x, var opt 1..3: x, var set of 1..3: x, array[1..3] of var 1..3: x
abbrev x : PlainType → Decl
x t = decl 11 0 (within t (range 5 (pos 1) (pos 3))) None

abbrev xs : Decl
xs = decl 11 0 (indexed (list_of var_int) (Some (range 5 (pos 1) (pos 3)) ∷ []) (Some (range 9 (pos 1) (pos 3)))) None

abbrev variable : Name → Domain → Bool → Variable
variable name d output = record { label = name; domain = d; introduced = false; defined = false; output = output }

abbrev three : Domain
three = Ints ((pos 1, pos 3) ∷ [])

abbrev flat : List Variable → List Row → FzGoal → Program
flat vs rows goal = record { vars = vs; arrays = []; rows = rows; goal = goal }

not_true : false ≡ true → ⊥
not_true e = cc

minimum_for_maximum : (l : Limits) (vs : List Variable) (rows : List Row) (k : ℕ) → KeepsSolutions l table (model (x var_int)) (flat vs rows (Minimize k)) → ⊥
minimum_for_maximum l vs rows k keeps = let e = keeps.goal.1 in cc

no_goal : (l : Limits) (vs : List Variable) (rows : List Row) → KeepsSolutions l table (model (x var_int)) (flat vs rows Satisfy) → ⊥
no_goal l vs rows keeps = let e = keeps.goal.1 in cc

no_variable : (l : Limits) (rows : List Row) → KeepsSolutions l table (model (x var_int)) (flat (variable (codes "y") three true ∷ []) rows (Maximize 0)) → ⊥
no_variable l rows keeps = not_true keeps.names.0

truth_for_number : (l : Limits) (rows : List Row) → KeepsSolutions l table (model (x var_int)) (flat (variable (codes "x") Truths true ∷ []) rows (Maximize 0)) → ⊥
truth_for_number l rows keeps = not_true keeps.names.0

set_for_number : (l : Limits) (rows : List Row) → KeepsSolutions l table (model (x var_int)) (flat (variable (codes "x") (SetOf ((pos 1, pos 3) ∷ [])) true ∷ []) rows (Maximize 0)) → ⊥
set_for_number l rows keeps = not_true keeps.names.0

number_for_set : (l : Limits) (rows : List Row) → KeepsSolutions l table (model (x var_ints)) (flat (variable (codes "x") three true ∷ []) rows (Maximize 0)) → ⊥
number_for_set l rows keeps = not_true keeps.names.0

no_mark : (l : Limits) (rows : List Row) → KeepsSolutions l table (model (x var_int)) (flat (variable (codes "x") three false ∷ []) rows (Maximize 0)) → ⊥
no_mark l rows keeps = not_true keeps.names.0

no_occurrence : (l : Limits) (rows : List Row) → KeepsSolutions l table (model (x var_opt_int)) (flat (variable (codes "X_VAL_x") three true ∷ []) rows (Maximize 0)) → ⊥
no_occurrence l rows keeps = not_true keeps.names.0

no_array : (l : Limits) (rows : List Row) → KeepsSolutions l table (model xs) (flat (variable (codes "X_ELT_1_x") three false ∷ []) rows (Maximize 0)) → ⊥
no_array l rows keeps = not_true keeps.names.0
