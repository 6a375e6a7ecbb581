-- What is made of charges that were drawn.
use Rattle.std.specs.Prelude.{◌≡◌, ℕ, List, Option, slice_get}
use Rattle.std.specs.Option.{option_and_then}
use Rattle.mz_value.specs.Contents.{Content}
use Rattle.mz_meaning.specs.Cells.{Cell, Sure, held}
use Rattle.mz_symbol.specs.Runs.{Run}
use Rattle.mz_symbol.specs.Readings.{Reading, Reads, state_of}
use Rattle.mz_eval_cells.specs.declared.types.Known.{Known}
use Rattle.mz_eval_cells.specs.declared.types.VarItems.{VarItems}
use Rattle.mz_eval_cells.specs.Views.{origins_value, seen}
use Rattle.mz_eval_symbols.specs.Steps.{elements_cast}
use Rattle.mz_eval_guards.specs.declared.types.Guard.{Guard}
use Rattle.mz_eval_guards.specs.Guards.{guard_seen}

-- A CELL THAT IS THIS, under each reading of the new run; nothing but nodes was made
pub record IsSeen (old new : Run) (f : Reading → Cell) (k : Known) : Type 0 where
  pub same : (r : Reading) → Reads r new → state_of r old ≡ state_of r new
  pub is : (r : Reading) → Reads r new → seen r k ≡ f r

-- A GUARD THAT SAYS THIS, under each reading of the new run; nothing but nodes was made
pub record IsSure (old new : Run) (f : Reading → Sure) (g : Guard) : Type 0 where
  pub same : (r : Reading) → Reads r new → state_of r old ≡ state_of r new
  pub is : (r : Reading) → Reads r new → guard_seen r g ≡ f r

-- the elements of a var array, where it is defined
abbrev pub row_items : Reading → VarItems → Option (List Content)
row_items r xs = elements_cast xs.cast (origins_value r.line xs.origins)

-- the element at a place, from 0
abbrev pub row_item : Reading → VarItems → ℕ → Option Content
row_item r xs n = held r.mode (option_and_then (λ ys. slice_get ys n) (row_items r xs))
