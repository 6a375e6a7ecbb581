-- THE NODE OF A ROW over cells: its work, its cell, and the node's type.
use Rattle.std.specs.Prelude.{◌≡◌, false, List, Option}
use Rattle.mz_base.specs.declared.fault.Span.{Span}
use Rattle.mz_core.specs.Types.{PlainType}
use Rattle.mz_operations.specs.declared.row.Row.{Row}
use Rattle.mz_meaning.specs.Runs.{Run, ◌>>=◌, give}
use Rattle.mz_meaning.specs.Cells.{Cell, typed, undefined}
use Rattle.mz_meaning.specs.Forms.{World, done, operated_by}
use Rattle.mz_symbol.specs.Runs as symbol_runs
use Rattle.mz_symbol.specs.Readings.{Reading, bare, blank}

abbrev pub node_by : World → Span → PlainType → List Cell → Option Row → Run Cell
node_by w at t cells row = operated_by w at t cells row >>= λ c. give (typed w.mode false t c)

-- where there is no row
abbrev pub nothing_by : World → Span → PlainType → Run Cell
nothing_by w at t = done w at undefined >>= λ c. give (typed w.mode false t c)

-- a cell under each reading is told without values by every run alike
abbrev pub IsBlind : (Reading → Cell) → Type 0
IsBlind x = (s : symbol_runs.Run) → x (bare s) ≡ x blank
