-- What arrays that are written row by row are asked to be, under a reading.
use Rattle.std.specs.Prelude.{◌≡◌, Bool, not, List, Vec, map, None}
use Rattle.std.specs.Global.{Global}
use Rattle.mz_operations.specs.Bounds as bounds
use Rattle.mz_meaning.specs.Arrays.{joined, table_ranges}
use Rattle.mz_meaning.specs.Cells.{Cell, Var}
use Rattle.mz_symbol.specs.Readings.{Reading, blank}
use Rattle.mz_eval_cells.specs.declared.types.Known.{Known}
use Rattle.mz_eval_cells.specs.Views.{all_seen}
use Rattle.mz_eval_arrays.specs.ArrayCells.{array_over, bound_in}
use Rattle.mz_eval_branches.specs.BranchLines.{has_no_value}

-- rows of cells
abbrev pub rows_seen : Reading → List (Vec Known Global) → List (List Cell)
rows_seen r rs = map (λ v. all_seen r v.items) rs

-- ---- private clauses only

-- a list of the cells of all rows
pub record AreJoined (rs : List (Vec Known Global)) (ks : List Known) : Type 0 where
  pub seen_so : (r : Reading) → all_seen r ks ≡ joined (rows_seen r rs)

-- the array of rows of which some cell is var, without a value
pub record IsVarTable (rs : List (Vec Known Global)) (c : Cell) : Type 0 where
  pub is : c ≡ Var (bounds.many (table_ranges (rows_seen blank rs)) (map bound_in (joined (rows_seen blank rs)))) None

-- the var array of rows
abbrev pub table_over : Reading → List (Vec Known Global) → Cell
table_over r rs = array_over r.mode (table_ranges (rows_seen r rs)) (joined (rows_seen r rs))

-- something may tell a cell's value
abbrev pub has_value : Known → Bool
has_value k = not (has_no_value k)
