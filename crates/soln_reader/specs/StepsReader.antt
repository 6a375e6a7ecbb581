-- Mirror of src/reader.rt; private clauses only.
use Rattle.std.specs.Prelude.{ℕ, ◌+◌, ◌^◌, ◌<◌, ◌≤◌, List, length, drop, Option, Some, None}
use Rattle.mz_value.specs.declared.value.Shape.{Shape}
use Rattle.fz_items.specs.Forms.{forms, outputs_from}
use Rattle.fz_items.specs.Tables.{Table, Finds}
use Rattle.soln_reader.specs.Stream.{line_len}

-- a table that is there finds the output names
abbrev pub FitsShapes : List Shape → Option Table → Type 0
FitsShapes ss None = Unit {0}
FitsShapes ss (Some table) = Finds table (outputs_from 0 (forms ss))

pub record IsSound (ss : List Shape) (table : Option Table) (bytes : List ℕ) (start seen lines : ℕ) : Type 0 where
  pub table_fits : FitsShapes ss table
  pub within : start ≤ length bytes
  pub no_newline : seen ≤ line_len (drop start bytes)
  pub few : lines + length (drop start bytes) < 2 ^ 32
