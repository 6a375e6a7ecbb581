-- What the term of a global is asked to give.
use Rattle.std.specs.Prelude.{◌≡◌, ℕ, List}
use Rattle.mz_core.specs.declared.types.Base.{Base}
use Rattle.mz_operations.specs.Arguments.{Arguments}
use Rattle.mz_globals.specs.declared.global.Global.{Global}
use Rattle.mz_globals.specs.Table.{line_of, full_cost}
use Rattle.mz_symbol.specs.Symbols.{value_by}
use Rattle.mz_symbol.specs.Runs.{Run}
use Rattle.mz_symbol.specs.Readings.{Reading, Reads, state_of}

-- THE TERM OF A GLOBAL: under each reading of the new run it stands for the value that the global's line gives of the arguments, and nothing but nodes was made
pub record IsRow (b : Base) (old new : Run) (g : Global) (args : Reading → Arguments) (id : ℕ) : Type 0 where
  pub same : (r : Reading) → Reads r new → state_of r old ≡ state_of r new
  pub value : (r : Reading) → Reads r new → value_by b (r.term id) ≡ (line_of g).value (args r)

-- what a call costs, from the sizes of its arguments
abbrev pub row_cost : Global → List ℕ → ℕ
row_cost g sizes = full_cost (line_of g).checks.cost sizes
