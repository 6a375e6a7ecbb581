-- Mirror of src/; private clauses only.
use Rattle.std.specs.Prelude.{◌≡◌, ℕ, Bool, true, Option}
use Rattle.mz_core.specs.declared.types.Base.{Base}
use Rattle.mz_operations.specs.Bounds as bounds
use Rattle.mz_arena.specs.Values.{is_true}
use Rattle.mz_meaning.specs.Cells.{Cell, Var, held}
use Rattle.mz_meaning.specs.Comprehensions as comps
use Rattle.mz_symbol.specs.declared.types.Symbol.{Symbol}
use Rattle.mz_symbol.specs.Runs.{Run}
use Rattle.mz_symbol.specs.Readings.{Reading, Reads, state_of}
use Rattle.mz_eval_cells.specs.Views.{cast_by}
use Rattle.mz_eval_symbols.specs.Steps.{argued}
use Rattle.mz_eval_comprehensions.specs.declared.presences.types.Presence.{Presence}
use Rattle.mz_eval_comprehensions.specs.Presences.{presence_seen}

-- a node that is surely true, if the test says so
pub record IsAlways (old new : Run) (d : ℕ) (b : Bool) : Type 0 where
  pub same : (r : Reading) → Reads r new → state_of r old ≡ state_of r new
  pub yes : b ≡ true → (r : Reading) → Reads r new → is_true (r.term d) ≡ true

-- a symbol's value, recast where a base is told
abbrev pub symbol_cell : bounds.Bound → Option Base → Symbol → Reading → Cell
symbol_cell b c s r = Var (bounds.one b) (held r.mode (cast_by c (argued r.term s)))

-- a presence that is this, under each reading of the new run
pub record IsWhere (old new : Run) (f : Reading → comps.Presence) (p : Presence) : Type 0 where
  pub same : (r : Reading) → Reads r new → state_of r old ≡ state_of r new
  pub is : (r : Reading) → Reads r new → presence_seen r p ≡ f r
