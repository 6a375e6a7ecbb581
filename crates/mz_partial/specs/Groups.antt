-- The groups of kinds, by what a node's value needs of its children's.
use Rattle.std.specs.Prelude.{ℕ, Bool, true, false}
use Rattle.mz_arena.specs.declared.node.NodeKind.{NodeKind}
use Rattle.mz_arena.specs.declared.node.NodeKind.TheVariants.{Int, Bool as BoolNode, Var, Local, Add, Mul, Div, Mod, Min, Max, Abs, ToInt, Eq, Ne, Le, Lt, And, Or, Not, Iff, If, Access, Guard, Nil, Cons, SetConst, SetVar, SetLocal, Member, Union, Intersect, Diff, Symdiff, Card, SetEq, Subset}
use Rattle.mz_partial.specs.declared.group.Group.{Group}
use Rattle.mz_partial.specs.declared.group.Group.TheVariants as group

abbrev pub group_of : NodeKind → Group
group_of Int = group.Leaf
group_of BoolNode = group.Leaf
group_of Var = group.Leaf
group_of Local = group.Leaf
group_of Nil = group.Leaf
group_of SetConst = group.Leaf
group_of SetVar = group.Leaf
group_of SetLocal = group.Leaf
group_of Abs = group.One
group_of Card = group.One
group_of Add = group.Two
group_of Mul = group.Two
group_of Union = group.Two
group_of Intersect = group.Two
group_of Diff = group.Two
group_of Symdiff = group.Two
group_of Cons = group.Cons
group_of Eq = group.Test
group_of Ne = group.Test
group_of Le = group.Test
group_of Lt = group.Test
group_of Member = group.Test
group_of SetEq = group.Test
group_of Subset = group.Test
group_of And = group.Connective
group_of Or = group.Connective
group_of Iff = group.Connective
group_of Not = group.Reading
group_of ToInt = group.Reading
group_of If = group.Choice
group_of Guard = group.Guard
group_of Div = group.Division
group_of Mod = group.Division
group_of Min = group.Extreme
group_of Max = group.Extreme
group_of Access = group.Access

-- how many children a node of a group reads
abbrev pub reads : Group → ℕ
reads group.Leaf = 0
reads group.One = 1
reads group.Reading = 1
reads group.Extreme = 1
reads group.Choice = 3
reads _ = 2

abbrev pub is_inner_group : Group → Bool
is_inner_group group.Leaf = false
is_inner_group _ = true

-- a kind whose value comes from its children's alone
abbrev pub is_inner : NodeKind → Bool
is_inner k = is_inner_group (group_of k)

-- a kind that may have no value where its children have
abbrev pub is_partial : NodeKind → Bool
is_partial Div = true
is_partial Mod = true
is_partial Min = true
is_partial Max = true
is_partial Access = true
is_partial Guard = true
is_partial _ = false
