-- What `define` asks of a row and its inputs.
use Rattle.std.specs.Prelude.{◌≡◌, List, length, Bool, true, false, not, ◌&&◌, ◌++◌, ◌∷◌, []}
use Rattle.fz_program.specs.declared.program.Domain.{Domain}
use Rattle.fz_program.specs.declared.row_name.RowName.{RowName}
use Rattle.fz_program.specs.declared.row_name.Kind.{Kind}
use Rattle.fz_program.specs.declared.row_name.Kind.TheVariants.{Int, Bool as Truth, Set, ConstInt, Ints, Bools, Sets, ConstInts, ConstBools, ConstSets}
use Rattle.fz_program.specs.Arguments.{Argument}
use Rattle.fz_program.specs.Table.{line}
use Rattle.fz_program.specs.Flat.{Program, IsSome, IsWellFormedRow}
use Rattle.fz_build.specs.Results.{has_result}
use Rattle.fz_build.specs.Build.{AreOver, defined_variable, defining}

-- a row with a result, inputs over the variables so far, a domain with a value, and a row that is well formed with the new variable
pub record MayDefine (p : Program) (name : RowName) (inputs : List Argument) (domain : Domain) : Type 0 where
  pub result : has_result name ≡ true
  pub over : AreOver (length p.vars) inputs
  pub some : IsSome domain
  pub row : IsWellFormedRow (p.vars ++ defined_variable p domain ∷ []) (defining name inputs (length p.vars))

-- ---- linear rows

abbrev pub is_array_kind : Kind → Bool
is_array_kind Int = false
is_array_kind Truth = false
is_array_kind Set = false
is_array_kind ConstInt = false
is_array_kind Ints = true
is_array_kind Bools = true
is_array_kind Sets = true
is_array_kind ConstInts = true
is_array_kind ConstBools = true
is_array_kind ConstSets = true

abbrev pub begin_linear : List Kind → Bool
begin_linear (a ∷ b ∷ c ∷ more) = is_array_kind a && (is_array_kind b && not (is_array_kind c))
begin_linear _ = false

-- a row that takes two arrays and then no array: its sum must stay within 64 bits
abbrev pub is_linear_row : RowName → Bool
is_linear_row name = begin_linear (line name).kinds
