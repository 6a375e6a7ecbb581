-- Mirror of src/; private clauses only.
use Rattle.std.specs.Prelude.{◌≡◌, List, [], ◌∷◌, ◌++◌, map, Option}
use Rattle.mz_value.specs.Contents.{Content}
use Rattle.mz_symbol.specs.declared.types.Symbol.{Symbol}
use Rattle.mz_symbol.specs.Runs.{Run}
use Rattle.mz_symbol.specs.Readings.{Reading, state_of}
use Rattle.mz_eval_cells.specs.declared.types.Known.{Known}
use Rattle.mz_eval_symbols.specs.Taken.{cell_value}

-- symbols of these cells, in order, whose values are seen so
pub record AreSymbols (see : Reading → Symbol → Option Content) (r : Reading) (old new : Run) (ks : List Known) (ss : List Symbol) : Type 0 where
  pub same : state_of r old ≡ state_of r new
  pub values : map (cell_value r) ks ≡ map (see r) ss

-- the symbol of one cell more
pub record OneSymbol (see : Reading → Symbol → Option Content) (r : Reading) (old new : Run) (k : Known) (ss ts : List Symbol) : Type 0 where
  pub same : state_of r old ≡ state_of r new
  pub values : map (see r) ts ≡ map (see r) ss ++ cell_value r k ∷ []
