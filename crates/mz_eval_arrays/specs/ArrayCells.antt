-- What arrays of cells are asked to be, under a reading, and what counts as false.
use Rattle.std.specs.Prelude.{Bool, true, false, List, map, Option}
use Rattle.std.specs.Option.{option_map}
use Rattle.mz_value.specs.Ranges.{Range}
use Rattle.mz_value.specs.Contents.{Content, contents}
use Rattle.mz_value.specs.Contents as values
use Rattle.mz_core.specs.declared.types.Base.{Base}
use Rattle.mz_core.specs.declared.types.Base.TheVariants as base
use Rattle.mz_operations.specs.Bounds as bounds
use Rattle.mz_meaning.specs.Arrays.{all_there}
use Rattle.mz_meaning.specs.Cells.{Cell, Var, Mode, bounds_in, held, scalar_bound, value_of}
use Rattle.mz_symbol.specs.Arguments.{truth_of}

-- ---- var arrays

abbrev pub bound_in : Cell → bounds.Bound
bound_in c = scalar_bound (bounds_in c)

abbrev pub array_in : List Range → List Content → Content
array_in ix xs = values.array ix (contents xs)

-- the var array of these cells, with these index ranges
abbrev pub array_over : Mode → List Range → List Cell → Cell
array_over m ix cs = Var (bounds.many ix (map bound_in cs)) (held m (option_map (array_in ix) (all_there (map value_of cs))))

-- ---- what counts as false

-- a Boolean that is no option counts as false where it is undefined
abbrev pub is_counted : Base → Bool → Bool
is_counted base.Bool false = true
is_counted b o = false

abbrev pub counted : Bool → Option Content → Option Content
counted true v = truth_of v
counted false v = v
