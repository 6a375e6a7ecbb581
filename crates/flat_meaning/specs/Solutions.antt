-- The values of a FlatZinc program's variables, read off by names.
use Rattle.std.specs.Prelude.{◌≡◌, pos, List, [], ◌∷◌, length, map, if◌then◌else◌}
use Rattle.std.specs.Str.{bytes_eq}
use Rattle.fz_program.specs.Names.{Name}
use Rattle.fz_program.specs.Values.{Value, Values, number}
use Rattle.fz_program.specs.Flat.{AreDistinct}

-- a value for each name
abbrev pub Assignment : Type 0
Assignment = Name → Value

-- the assignment that gives each of these names the value at its place, and any other name the number 0
abbrev pub read_off : List Name → Values → Assignment
read_off [] f x = number (pos 0)
read_off (y ∷ ys) [] x = number (pos 0)
read_off (y ∷ ys) (n ∷ f) x = if bytes_eq x y then n else read_off ys f x

-- distinct names read their own values back
abbrev pub ReadsItself : Type 0
ReadsItself = (names : List Name) (f : Values) → AreDistinct names → length f ≡ length names → map (read_off names f) names ≡ f
