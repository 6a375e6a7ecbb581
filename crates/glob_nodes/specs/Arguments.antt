-- The arguments of globals as nodes, and their values.
use Rattle.std.specs.Prelude.{◌≡◌, ℕ, ℤ, List, [], ◌∷◌, map, true, Option, Some, None, IsSome}
use Rattle.std.specs.Option.{option_map}
use Rattle.mz_value.specs.Ranges.{Range}
use Rattle.mz_value.specs.Contents.{Content, contents}
use Rattle.mz_value.specs.Contents as values
use Rattle.mz_core.specs.declared.types.Base.TheVariants as base
use Rattle.mz_arena.specs.Values.{is_true}
use Rattle.mz_symbol.specs.declared.types.Symbol.{Symbol}
use Rattle.mz_symbol.specs.Lines.{only_if}
use Rattle.mz_symbol.specs.Runs.{Run}
use Rattle.mz_symbol.specs.Readings.{Reading, Reads}
use Rattle.glob_nodes.specs.declared.arguments.Numbers.{Numbers}
use Rattle.glob_nodes.specs.Says.{num}

-- the numbers, where each is there
abbrev pub all_numbers : List (Option ℤ) → Option (List ℤ)
all_numbers [] = Some []
all_numbers (None ∷ xs) = None
all_numbers (Some n ∷ xs) = option_map (λ ns. n ∷ ns) (all_numbers xs)

abbrev pub elements : Reading → Numbers → List (Option ℤ)
elements r a = map (num r) a.items.items

-- the elements of an array, none where it is undefined
abbrev pub numbers_in : Reading → Numbers → Option (List ℤ)
numbers_in r a = only_if (is_true (r.term a.defined)) (all_numbers (elements r a))

abbrev pub array_of : Range → Option (List ℤ) → Option Content
array_of x o = option_map (λ ns. values.array (x ∷ []) (contents (map values.int ns))) o

-- the array itself, as an argument
abbrev pub array_value : Reading → Numbers → Option Content
array_value r a = array_of (a.first, a.last) (numbers_in r a)

-- an integer as an argument
abbrev pub number_value : Reading → ℕ → Option Content
number_value r id = option_map values.int (num r id)

-- WHERE AN ARRAY IS DEFINED, EACH ELEMENT IS THERE
abbrev pub IsWhole : Run → Numbers → Type 0
IsWhole s a = (r : Reading) → Reads r s → is_true (r.term a.defined) ≡ true → IsSome (all_numbers (elements r a))

-- the symbol of an integer that is no option
abbrev pub int_symbol : ℕ → Symbol
int_symbol id = record { base = base.Int; occurs = None; term = id }
