use Rattle.std.proofs.Common.{◌≡◌, [], ◌∷◌, refl}
use Rattle.fz_program.specs.declared.row_name.Kind.TheVariants.{Int, Ints}
use Rattle.fz_program.specs.declared.row_name.RowName.TheVariants.{ArrayVarIntElement}
use Rattle.fz_program.specs.Table.{line}
use Rattle.fz_program.proofs.table.kinds_of.Goals as goal

kinds_of_elements : Int ∷ Ints ∷ Int ∷ [] ≡ (line ArrayVarIntElement).kinds
unfolding line
kinds_of_elements = refl

pub returns-in-ArrayVarIntElement : goal.returns-in-ArrayVarIntElement
returns-in-ArrayVarIntElement c = rw c.in-ArrayVarIntElement.is kinds_of_elements
