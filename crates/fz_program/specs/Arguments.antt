-- The arguments of rows, without where they lie in memory.
use Rattle.std.specs.Prelude.{ℕ, ℤ, List, map, Bool}
use Rattle.mz_value.specs.Ranges.{Range}
use Rattle.fz_program.specs.declared.program.Arg.{Arg, Arg-F, fold-Arg}
use Rattle.fz_program.specs.declared.program.Arg.TheOpen.{Bool as Truth, Int, Set, Var, Array}

-- an argument that is no array, or an array that is an element of another: no row takes one
pub data Plain : Type 0 where
  bool : Bool → Plain
  int : ℤ → Plain
  set : List Range → Plain
  -- a variable, by its place
  var : ℕ → Plain
  nested : Plain

pub data Argument : Type 0 where
  one : Plain → Argument
  array : List Plain → Argument

abbrev pub plain_of : Argument → Plain
plain_of (one p) = p
plain_of (array ps) = nested

abbrev pub argument_step : Arg-F Argument → Argument
argument_step (Truth b) = one (bool b)
argument_step (Int n) = one (int n)
argument_step (Set s) = one (set s)
argument_step (Var k) = one (var k)
argument_step (Array xs) = array (map plain_of xs.items)

-- what the code's argument stands for
abbrev pub argument : Arg → Argument
argument = fold-Arg Argument argument_step

abbrev pub plain : Arg → Plain
plain a = plain_of (argument a)

-- the elements of an array of the code
abbrev pub plains : List Arg → List Plain
plains xs = map plain_of (map argument xs)
