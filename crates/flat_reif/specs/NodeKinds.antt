-- Kinds of nodes, by what a flattening does with them.
use Rattle.std.specs.Prelude.{ℕ, ℤ, pos, Bool, true, false, Option, Some, None}
use Rattle.std.specs.Ordering.{int_eq}
use Rattle.mz_operations.specs.declared.row.Side.{Side}
use Rattle.mz_operations.specs.declared.row.Side.TheVariants.{Least, Greatest}
use Rattle.mz_arena.specs.declared.node.Sort.{Sort}
use Rattle.mz_arena.specs.declared.node.Sort.TheVariants as sorts
use Rattle.mz_arena.specs.declared.node.NodeKind.{NodeKind}
use Rattle.mz_arena.specs.declared.node.NodeKind.TheVariants as kinds
use Rattle.fz_program.specs.declared.row_name.RowName.{RowName}
use Rattle.fz_program.specs.declared.row_name.RowName.TheVariants as rows
use Rattle.fz_program.specs.Arguments.{Plain, bool, int, set, var, nested}

-- a constant number or truth value
abbrev pub is_scalar : NodeKind → Bool
is_scalar kinds.Int = true
is_scalar kinds.Bool = true
is_scalar _ = false

-- its argument: a truth value where the kind is that of Booleans
abbrev pub scalar : NodeKind → ℤ → Plain
scalar kinds.Bool n = bool (int_eq n (pos 1))
scalar _ n = int n

-- the node has no value where its second child is 0
abbrev pub divides : NodeKind → Bool
divides kinds.Div = true
divides kinds.Mod = true
divides _ = false

-- the node of the least or the greatest of a list
abbrev pub extreme_kind : Side → NodeKind
extreme_kind Least = kinds.Min
extreme_kind Greatest = kinds.Max

-- a node of which no solution may give a value, though its children have one
abbrev pub may_lack : NodeKind → Bool
may_lack kinds.Div = true
may_lack kinds.Mod = true
may_lack kinds.Access = true
may_lack _ = false

-- the row of an access to a list whose elements are of a sort
abbrev pub row_of_element : Sort → RowName
row_of_element sorts.Integer = rows.ArrayVarIntElement
row_of_element sorts.Boolean = rows.ArrayVarBoolElement
row_of_element _ = rows.ArrayVarSetElement

-- the place of the variable that an argument is
abbrev pub place_of : Plain → Option ℕ
place_of (var k) = Some k
place_of (bool b) = None
place_of (int n) = None
place_of (set s) = None
place_of nested = None
