-- Mirror of src/branches.rt; private clauses only.
use Rattle.std.specs.Prelude.{◌≡◌, ℕ, List, Option, if◌then◌else◌}
use Rattle.mz_value.specs.Contents.{Content}
use Rattle.mz_arena.specs.Values.{is_true}
use Rattle.mz_meaning.specs.Arrays.{chosen_value}
use Rattle.mz_meaning.specs.Cells as cells
use Rattle.mz_meaning.specs.Cells.{Cell, Par, Unshaped, Var, held, value_of}
use Rattle.mz_symbol.specs.declared.types.Symbol.{Symbol}
use Rattle.mz_symbol.specs.Runs.{Run}
use Rattle.mz_symbol.specs.Readings.{IsGiven, Reading, state_of}
use Rattle.mz_symbol_rows.specs.RowValues.{argument}
use Rattle.mz_eval_cells.specs.declared.types.Known.{Known}
use Rattle.mz_eval_cells.specs.Views.{seen}
use Rattle.mz_eval_arrays.specs.Gathered.{pairs_by}

-- a node is true where a symbol, as an argument, is
abbrev pub IsTruthOf : Symbol → ℕ → Type 0
IsTruthOf s id = (r : Reading) → IsGiven r.mode → is_true (r.term id) ≡ cells.is_true (argument r s)

-- a node is true where a condition is
pub record IsCondition (r : Reading) (old new : Run) (k : Known) (id : ℕ) : Type 0 where
  pub same : state_of r old ≡ state_of r new
  pub holds : IsGiven r.mode → is_true (r.term id) ≡ cells.is_true (value_of (seen r k))

-- the first of two values where a node is true, else the second
abbrev pub one_value : Reading → ℕ → Option Content → Option Content → Option Content
one_value r id x y = held r.mode (if is_true (r.term id) then x else y)

-- the value of a branch where its condition is true, else another
abbrev pub branch_value : Reading → Known × Known → Option Content → Option Content
branch_value r p v = held r.mode (if cells.is_true (value_of (seen r p.0)) then value_of (seen r p.1) else v)

abbrev pub branches_value : Reading → List (Known × Known) → Known → Option Content
branches_value r ps last = held r.mode (chosen_value (pairs_by (seen r) ps) (seen r last))

-- a var cell with this value; other cells have none
abbrev pub with_value : Option Content → Cell → Cell
with_value v (Par w) = Par w
with_value v (Var b w) = Var b v
with_value v (Unshaped d) = Unshaped d
