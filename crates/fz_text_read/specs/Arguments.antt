-- The arguments of rows, where variables have these names.
use Rattle.std.specs.Prelude.{ℕ, ℤ, List, map, true, false, Option, Some, codes, position, if◌then◌else◌}
use Rattle.std.specs.Option.{option_map}
use Rattle.std.specs.Str.{bytes_eq}
use Rattle.fz_items.specs.Bytes.{is_letter, first_byte}
use Rattle.fz_items.specs.Items.{◌>>=◌, Read, choose}
use Rattle.fz_program.specs.Names.{Name}
use Rattle.fz_program.specs.Arguments.{bool, int, set, var, Argument, one, array, plain_of}
use Rattle.fz_text_read.specs.Tokens.{behind, number_at, name_at, interval_from}
use Rattle.fz_text_read.specs.Lists.{closed_at, braces_at}

-- the place of the first variable with a name
abbrev pub place_of : List Name → Name → Option ℕ
place_of names w = position (bytes_eq w) names

abbrev pub variable_at_place : ℕ → Argument
variable_at_place k = one (var k)

-- a truth value, or a variable
unfoldable pub word_of : List Name → Name → Option Argument
word_of names w =
    if bytes_eq w (codes "true") then Some (one (bool true)) else
    if bytes_eq w (codes "false") then Some (one (bool false)) else option_map variable_at_place (place_of names w)

unfoldable pub word_at : List Name → List ℕ → Read Argument
word_at names bs = do
  w ← name_at bs
  a ← word_of names w.0
  Some (a, w.1)

-- what follows `l..`
unfoldable pub interval_set_at : ℤ → List ℕ → Read Argument
interval_set_at low bs = do
  s ← interval_from low bs
  Some (one (set s.0), s.1)

-- a number, or the set `l..u`
unfoldable pub number_or_interval_at : List ℕ → Read Argument
number_or_interval_at bs = do
  n ← number_at bs
  choose (behind (codes "..") n.1) (interval_set_at n.0) (Some (one (int n.0), n.1))

-- what follows an opening brace
unfoldable pub braces_set_at : List ℕ → Read Argument
braces_set_at bs = do
  s ← braces_at bs
  Some (one (set s.0), s.1)

unfoldable pub number_or_set_at : List ℕ → Read Argument
number_or_set_at bs = choose (behind (codes "{") bs) braces_set_at (number_or_interval_at bs)

-- an argument that is no array, or an element of one
unfoldable pub plain_at : List Name → List ℕ → Read Argument
plain_at names bs = if is_letter (first_byte bs) then word_at names bs else number_or_set_at bs

-- what follows an opening bracket
unfoldable pub array_at : List Name → List ℕ → Read Argument
array_at names bs = do
  xs ← closed_at (codes "]") (plain_at names) bs
  Some (array (map plain_of xs.0), xs.1)

unfoldable pub argument_at : List Name → List ℕ → Read Argument
argument_at names bs = choose (behind (codes "[") bs) (array_at names) (plain_at names bs)

-- the place of the variable whose name stands first
unfoldable pub place_at : List Name → List ℕ → Read ℕ
place_at names bs = do
  w ← name_at bs
  k ← place_of names w.0
  Some (k, w.1)
