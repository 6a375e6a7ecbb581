-- What a local with its guard stands for under a reading.
use Rattle.std.specs.Prelude.{◌≡◌, ℕ, length, replicate, Some}
use Rattle.mz_meaning.specs.Cells as cells
use Rattle.mz_meaning.specs.Cells.{Cell}
use Rattle.mz_meaning.specs.Domains.{Domain}
use Rattle.mz_meaning.specs.Lets.{choices_from}
use Rattle.mz_meaning.specs.Runs as runs
use Rattle.mz_symbol.specs.Runs.{Run}
use Rattle.mz_symbol.specs.Readings.{Reading, IsGiven, Reads, state_of}
use Rattle.mz_eval_cells.specs.declared.types.Known.{Known}
use Rattle.mz_eval_cells.specs.Views.{seen}
use Rattle.mz_eval_guards.specs.declared.types.Guard.{Guard}
use Rattle.mz_eval_guards.specs.Guards.{guard_seen}

-- a value, and whether what is declared of it holds
abbrev pub local_in : Reading → Known × Guard → Cell × cells.Sure
local_in r p = (seen r p.0, guard_seen r p.1)

-- under each reading of the new run this is what is evaluated
abbrev pub IsLocal : Run → Run → (Reading → runs.Run (Cell × cells.Sure)) → Known × Guard → Type 0
IsLocal old new m p = (r : Reading) → Reads r new → m r (state_of r old) ≡ runs.Out (local_in r p) (state_of r new)

-- the line of so many choices from a domain that were taken; the values of its elements are theirs
pub record IsChosenLine (n : ℕ) (d : Domain) (old new : Run) (l : ℕ) : Type 0 where
  pub taken : (r : Reading) → Reads r new → runs.noted r.mode (replicate n d) 0 (state_of r old) ≡ state_of r new
  pub values : (r : Reading) → IsGiven r.mode → Reads r new → r.line l ≡ Some (choices_from r.mode (length (state_of r old).taken) n)
