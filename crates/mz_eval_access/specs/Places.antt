-- The elements of an array, and those that indices reach.
use Rattle.std.specs.Prelude.{◌≡◌, ◌∷◌, [], ℕ, ℤ, List, map, min, Option, Some}
use Rattle.std.specs.Option.{option_and_then, option_map}
use Rattle.mz_value.specs.Contents.{Content, array, content, contents}
use Rattle.mz_value.specs.Ranges.{Range}
use Rattle.mz_core.specs.Types.{PlainType}
use Rattle.mz_interval.specs.Ends.{Ends}
use Rattle.mz_index.specs.Places.{most, place_of}
use Rattle.mz_operations.specs.Views.{as_element}
use Rattle.mz_operations.specs.Bounds.{Bound, bound_of, reached}
use Rattle.mz_meaning.specs.Arrays.{element_at, elements_reached, ends_in, hull_over, indices_in}
use Rattle.mz_meaning.specs.Cells.{Cell, bounds_in, scalar_bound, value_of}
use Rattle.mz_eval_cells.specs.declared.types.Known.{Known}
use Rattle.mz_eval_cells.specs.declared.types.Known.TheVariants as known
use Rattle.mz_eval_cells.specs.Views.{known_bound}
use Rattle.mz_eval_access.specs.declared.placing.Places.{Places}
use Rattle.mz_eval_access.specs.declared.placing.Places.TheVariants as placing

abbrev pub places_of : Places → List Bound
places_of (placing.Items xs) = map bound_of (map content xs.now)
places_of (placing.Bounds bs) = map known_bound bs.now

-- the element of an array of values at these indices, if they are known and lie in their ranges
abbrev pub element_in : List Range → List Content → List Cell → Option Content
element_in ix xs at = option_and_then (element_at (array ix (contents xs))) (indices_in (map value_of at))

-- the bounds of all elements of an array that these indices reach
abbrev pub reached_bound : PlainType → Cell → List Cell → Bound
reached_bound t a at = hull_over t (elements_reached (bounds_in a) (map (λ c. ends_in (scalar_bound (bounds_in c))) at))

-- the one element that an index reaches has these ends
abbrev pub ReachesOne : Cell → Cell → Ends → Type 0
ReachesOne a i e = map ends_in (elements_reached (bounds_in a) (ends_in (scalar_bound (bounds_in i)) ∷ [])) ≡ e ∷ []

-- the index that a cell is
abbrev pub cell_index : Cell → Option ℤ
cell_index c = option_and_then as_element (value_of c)

-- the place of indices, where each is one and lies in its range, told as at most the greatest number
abbrev pub placed : List Range → List Cell → Option ℕ
placed rs cs = option_map (min most) (option_and_then (place_of rs) (indices_in (map value_of cs)))

-- the same in a list of bounds under these index ranges
abbrev pub ReachesIn : List Range → List Bound → Cell → Ends → Type 0
ReachesIn rs bs i e = map ends_in (reached rs (ends_in (scalar_bound (bounds_in i)) ∷ []) bs) ≡ e ∷ []

-- an index is one that lies in the ranges, at this place
abbrev pub IsPlaceOf : List Range → Cell → ℕ → Type 0
IsPlaceOf rs i n = option_and_then (place_of rs) (indices_in (value_of i ∷ [])) ≡ Some n

-- the index ranges of a var array; none of another cell
abbrev pub list_ranges : Known → List Range
list_ranges (known.Row ix xs) = ix.value.items
list_ranges k = []
