-- Mirror of src/joining.rt and src/numbering.rt; private clauses only.
use Rattle.std.specs.Prelude.{ℤ, List, [], ◌∷◌, ◌++◌, map, Option, Some, None}
use Rattle.std.specs.Option.{option_and_then}
use Rattle.mz_value.specs.Ranges.{Range, range_of}
use Rattle.mz_operations.specs.Sets.{union}
use Rattle.mz_meaning.specs.Arrays.{number_in}
use Rattle.mz_meaning.specs.Cells.{Cell, par_value_of}

-- what is there so far and all further ones, where each is there
unfoldable pub values_from : {A : Type 0} → List A → List (Option A) → Option (List A)
values_from acc [] = Some acc
values_from acc (None ∷ vs) = None
values_from acc (Some x ∷ vs) = values_from (acc ++ x ∷ []) vs

-- the number that each cell is, as an element of a set
abbrev pub numbers_in : List Cell → List (Option ℤ)
numbers_in cs = map (λ c. option_and_then number_in (par_value_of c)) cs

-- the union of a set and of the sets of one number each
unfoldable pub unions : List Range → List ℤ → List Range
unions s [] = s
unions s (n ∷ ns) = unions (union s (range_of n n)) ns
