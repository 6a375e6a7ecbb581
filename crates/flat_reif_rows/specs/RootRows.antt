-- The rows that hold where a node is true, and what posting one leaves of the solutions.
use Rattle.std.specs.Prelude.{◌≡◌, pos, List, [], ◌∷◌, Bool, true, false, Option, Some, None}
use Rattle.mz_arena.specs.declared.node.NodeKind.{NodeKind}
use Rattle.mz_arena.specs.declared.node.NodeKind.TheVariants as kinds
use Rattle.mz_arena.specs.Values as terms
use Rattle.mz_arena.specs.Values.{is_true}
use Rattle.fz_program.specs.declared.row_name.RowName.{RowName}
use Rattle.fz_program.specs.declared.row_name.RowName.TheVariants as rows
use Rattle.fz_program.specs.Arguments.{Plain, bool, Argument, one, array, plain_of}
use Rattle.fz_program.specs.Values.{Values, number}
use Rattle.fz_program.specs.Flat.{Program, Row, FlatSolves, plain_value}
use Rattle.fz_build.specs.Build.{constraint}
use Rattle.flat_reif_rows.specs.Standing.{term_over}
use Rattle.flat_reif_rows.specs.Making.{GoesOnMade}

-- the row that holds where a node of a kind with two children is true
abbrev pub test_of : NodeKind → Option RowName
test_of kinds.Eq = Some rows.IntEq
test_of kinds.Ne = Some rows.IntNe
test_of kinds.Le = Some rows.IntLe
test_of kinds.Lt = Some rows.IntLt
test_of kinds.Or = Some rows.BoolClause
test_of kinds.Iff = Some rows.BoolEq
test_of kinds.Member = Some rows.SetIn
test_of kinds.SetEq = Some rows.SetEq
test_of kinds.Subset = Some rows.SetSubset
test_of _ = None

-- the row takes both children in one array, and an empty array of those that are negated
abbrev pub is_clause_kind : NodeKind → Bool
is_clause_kind kinds.Or = true
is_clause_kind _ = false

abbrev pub test_inputs_by : Bool → Argument → Argument → List Argument
test_inputs_by true x y = array (plain_of x ∷ plain_of y ∷ []) ∷ array [] ∷ []
test_inputs_by false x y = x ∷ y ∷ []

abbrev pub test_inputs : NodeKind → Argument → Argument → List Argument
test_inputs k x y = test_inputs_by (is_clause_kind k) x y

-- The same variables, and the solutions of the old program in which the node over these arguments is true.
pub record Tests (old new : Program) (k : NodeKind) (ps : List Plain) : Type 0 where
  pub same : new.vars ≡ old.vars
  pub down : (f : Values) → FlatSolves new f → FlatSolves old f
  pub holds : (v : terms.Values) (f : Values) → FlatSolves new f → is_true (term_over v k ps f) ≡ true
  pub up : (v : terms.Values) (f : Values) → FlatSolves old f → is_true (term_over v k ps f) ≡ true → FlatSolves new f
  pub made : GoesOnMade old new

-- the row of a truth value that must be true
abbrev pub truth_row : Argument → Row
truth_row x = constraint rows.BoolEq (x ∷ one (bool true) ∷ [])

-- the same variables, and the solutions of the old program in which a truth value is true
pub record IsForced (old new : Program) (p : Plain) : Type 0 where
  pub same : new.vars ≡ old.vars
  pub down : (f : Values) → FlatSolves new f → FlatSolves old f
  pub holds : (f : Values) → FlatSolves new f → plain_value f p ≡ number (pos 1)
  pub up : (f : Values) → FlatSolves old f → plain_value f p ≡ number (pos 1) → FlatSolves new f
  pub made : GoesOnMade old new

-- the row of what can't be true
abbrev pub false_row : Row
false_row = truth_row (one (bool false))

-- the same variables, and no solution
pub record IsEmptied (old new : Program) : Type 0 where
  pub same : new.vars ≡ old.vars
  pub none : (f : Values) → FlatSolves new f → ⊥
  pub made : GoesOnMade old new
