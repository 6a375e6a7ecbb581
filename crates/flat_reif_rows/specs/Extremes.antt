-- A variable that stands for the least or the greatest of a list of integers.
use Rattle.std.specs.Prelude.{◌≡◌, ◌≢◌, List, [], length, Some}
use Rattle.mz_interval.specs.Ends.{Ends}
use Rattle.mz_operations.specs.declared.row.Side.{Side}
use Rattle.mz_operations.specs.declared.row.Side.TheVariants.{Least, Greatest}
use Rattle.mz_operations.specs.Bounds.{extreme_ends}
use Rattle.mz_arena.specs.Values.{extreme_term}
use Rattle.fz_program.specs.declared.row_name.RowName.{RowName}
use Rattle.fz_program.specs.declared.row_name.RowName.TheVariants as rows
use Rattle.fz_program.specs.declared.row_name.Kind.TheVariants.{Int}
use Rattle.fz_program.specs.Arguments.{Plain}
use Rattle.fz_program.specs.Values.{Values}
use Rattle.fz_program.specs.Flat.{Program, FlatSolves, plain_value}
use Rattle.fz_build.specs.Build.{IsOver}
use Rattle.fz_build.specs.Growth.{Grows}
use Rattle.flat_reif_rows.specs.Standing.{seen, LiesWithin}
use Rattle.flat_reif_rows.specs.Elements.{AllWhole, list_term}
use Rattle.flat_reif_rows.specs.Making.{GoesOnMade}

-- the row of one step
abbrev pub side_row : Side → RowName
side_row Least = rows.IntMin
side_row Greatest = rows.IntMax

-- each solution goes on
abbrev pub Ever : Values → Type 0
Ever f = Unit {0}

-- `out` stands for the extreme of these arguments, in a program that grew from the old one: it equals the term in each solution, and lies within its bounds
pub record IsExtreme (old new : Program) (side : Side) (ps : List Plain) (out : Plain) : Type 0 where
  pub grows : Grows old new Ever
  pub place : IsOver (length new.vars) out
  pub suits : (es : List Ends) → AllWhole old.vars ps es → LiesWithin Int new.vars out (extreme_ends side es)
  pub value : (f : Values) → FlatSolves new f → extreme_term side (list_term f ps) ≡ Some (seen (plain_value f out))
  pub made : GoesOnMade old new

-- integers, of which there is one
pub record AreCompared (old : Program) (ps : List Plain) : Type 0 where
  pub bounds : List Ends
  pub elements : AllWhole old.vars ps bounds
  pub some : ps ≢ []
