-- What nodes may cost in variables and constraints of a flat program.
use Rattle.std.specs.Prelude.{ℕ, ◌+◌, List, [], ◌∷◌}
use Rattle.mz_arena.specs.declared.node.NodeKind.{NodeKind}
use Rattle.mz_arena.specs.declared.node.NodeKind.TheVariants.{Int, Bool as BoolNode, Var, Local, Add, Mul, Div, Mod, Min, Max, Abs, ToInt, Eq, Ne, Le, Lt, And, Or, Not, Iff, If, Access, Guard, Nil, Cons, SetConst, SetVar, SetLocal, Member, Union, Intersect, Diff, Symdiff, Card, SetEq, Subset}
use Rattle.mz_arena.specs.Entries.{Entry}

-- a variable and its constraint count 2. Besides, an operation counts the conjunction of what makes its parts defined, a comparison one for each part; a division, an access and an `if` count the safe operand that takes the place of one that may be undefined
abbrev pub charge_of : NodeKind → ℕ
charge_of Int = 0
charge_of BoolNode = 0
charge_of Nil = 0
charge_of SetConst = 0
charge_of Var = 4
charge_of Local = 4
charge_of SetVar = 4
charge_of SetLocal = 4
charge_of Add = 4
charge_of Mul = 4
charge_of Abs = 4
charge_of ToInt = 4
charge_of Union = 4
charge_of Intersect = 4
charge_of Diff = 4
charge_of Symdiff = 4
charge_of Card = 4
charge_of Eq = 6
charge_of Ne = 6
charge_of Le = 6
charge_of Lt = 6
charge_of And = 6
charge_of Or = 6
charge_of Not = 6
charge_of Iff = 6
charge_of Member = 6
charge_of SetEq = 6
charge_of Subset = 6
charge_of Cons = 8
charge_of Min = 8
charge_of Max = 8
charge_of Guard = 8
charge_of If = 16
charge_of Div = 24
charge_of Mod = 24
charge_of Access = 24

-- the sum of the nodes' charges
unfoldable pub charges : List Entry → ℕ
charges [] = 0
charges (e ∷ es) = charge_of e.node.kind + charges es
