-- Mirror of src/built.rt; private clauses only. A program as the calls of a builder make it.
use Rattle.std.specs.Prelude.{pos, List, [], ◌∷◌, true, false, codes}
use Rattle.fz_program.specs.declared.program.Domain.TheVariants.{Ints as Integers}
use Rattle.fz_program.specs.declared.row_name.RowName.TheVariants.{IntLe}
use Rattle.fz_program.specs.Arguments.{int, var, Argument, one}
use Rattle.fz_program.specs.Flat.{Variable, ArrayItem, Program}
use Rattle.fz_build.specs.Build.{constraint, empty, with_array, with_row, with_variable}

abbrev pub x : Variable
x = record { label = codes "x"; domain = Integers ((pos 1, pos 3) ∷ []); introduced = false; defined = false; output = true }

abbrev pub xs : ArrayItem
xs = record { label = codes "xs"; index = (pos 1, pos 1) ∷ []; items = 0 ∷ [] }

abbrev pub operands : List Argument
operands = one (var 0) ∷ one (int (pos 2)) ∷ []

abbrev pub factors : List Argument
factors = one (var 0) ∷ one (var 0) ∷ []

abbrev pub with_x : Program
with_x = with_variable empty x

abbrev pub with_xs : Program
with_xs = with_array with_x xs

abbrev pub with_order : Program
with_order = with_row with_xs (constraint IntLe operands)
