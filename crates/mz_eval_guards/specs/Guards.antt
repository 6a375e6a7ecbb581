-- What guards say.
use Rattle.std.specs.Prelude.{◌≡◌, ℕ, Bool, true, false}
use Rattle.mz_arena.specs.Values.{Term, is_true}
use Rattle.mz_meaning.specs.Cells.{Cell, Mode, Blank, Given, Sure}
use Rattle.mz_symbol.specs.Runs.{Run}
use Rattle.mz_symbol.specs.Readings.{Reading, Reads, blank, state_of}
use Rattle.mz_eval_cells.specs.declared.types.Known.{Known}
use Rattle.mz_eval_cells.specs.Views.{cell_of, seen}
use Rattle.mz_eval_guards.specs.declared.types.Guard.{Guard}
use Rattle.mz_eval_guards.specs.declared.types.Guard.TheVariants as guard
pub use Rattle.mz_eval_symbols.specs.Taken.{count_in}

-- a truth value of var cells; nothing holds in a run without values
abbrev pub held_truth : Mode → Bool → Bool
held_truth (Blank n) b = false
held_truth (Given f) b = b

-- what a var cell tells
abbrev pub open_sure : Mode → Bool → Sure
open_sure m b = record { par = false; is = held_truth m b }

abbrev pub guard_by : Mode → (ℕ → Term) → Guard → Sure
guard_by m t (guard.Par b) = record { par = true; is = b }
guard_by m t (guard.Open d) = open_sure m (is_true (t d))

-- under a reading
abbrev pub guard_seen : Reading → Guard → Sure
guard_seen r g = guard_by r.mode r.term g

-- A GUARD THAT SAYS THIS, under each reading of the new run and in a run without values; nothing but nodes was made
pub record IsGuard (old new : Run) (f : Reading → Sure) (g : Guard) : Type 0 where
  pub same : (r : Reading) → Reads r new → state_of r old ≡ state_of r new
  pub is : (r : Reading) → Reads r new → guard_seen r g ≡ f r
  pub bare : guard_seen blank g ≡ f blank

-- A CELL THAT IS THIS, under each reading of the new run and in a run without values; nothing but nodes was made
pub record IsCell (old new : Run) (f : Reading → Cell) (k : Known) : Type 0 where
  pub same : (r : Reading) → Reads r new → state_of r old ≡ state_of r new
  pub is : (r : Reading) → Reads r new → seen r k ≡ f r
  pub bare : cell_of k ≡ f blank
