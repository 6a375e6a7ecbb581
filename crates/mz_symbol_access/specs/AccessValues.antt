-- What an access to a var array is asked to give.
use Rattle.std.specs.Prelude.{ℕ, ◌+◌, ◌*◌, nat_eq, Bool, true, false, List, map, Option, if◌then◌else◌}
use Rattle.mz_value.specs.Ranges.{Range}
use Rattle.mz_value.specs.Contents.{Content}
use Rattle.mz_core.specs.declared.types.Base.{Base}
use Rattle.mz_core.specs.declared.types.Base.TheVariants as base
use Rattle.mz_meaning.specs.Arrays.{accessed}
use Rattle.mz_symbol.specs.declared.types.Symbol.{Symbol}
use Rattle.mz_symbol.specs.Readings.{Reading, symbol_seen}
use Rattle.mz_symbol.specs.Arguments.{truth_of}
use Rattle.mz_symbol_arrays.specs.LineValues.{array_argument}

-- the element of the var array with this number under these index ranges: undefined where the array is, or where an index is or lies outside
abbrev pub access_value : Reading → List Range → ℕ → List Symbol → Option Content
access_value r ix k is = accessed (array_argument r ix k) (map (symbol_seen r) is)

-- at a node of a base, an option or not: a Boolean is false where it is undefined
abbrev pub at_node : Base → Bool → Option Content → Option Content
at_node base.Bool false v = truth_of v
at_node b o v = v

-- what the place of this many indices may cost
abbrev pub place_charge : ℕ → ℕ
place_charge n = if nat_eq n 1 then 32 else 90 * n

-- what the element at a place may cost, an option or not
abbrev pub item_charge : Bool → ℕ
item_charge true = 74
item_charge false = 32

-- what an access may cost: with one index, of what is no option, at most 64
abbrev pub access_charge : ℕ → Bool → ℕ
access_charge n opt = place_charge n + item_charge opt
