-- What nodes over total operands cost in variables and constraints of a flat program.
use Rattle.std.specs.Prelude.{ℕ, ◌+◌, List, [], ◌∷◌}
use Rattle.mz_arena.specs.declared.node.NodeKind.{NodeKind}
use Rattle.mz_arena.specs.declared.node.NodeKind.TheVariants.{Int, Bool as BoolNode, If, Nil, Cons, SetConst}
use Rattle.mz_arena.specs.Entries.{Entry}

-- a constant and a list cost nothing, a branch three variables and their constraints, each other node one of each. `charge_of` of the arena counts a node with what makes it total besides
abbrev pub cost_of : NodeKind → ℕ
cost_of Int = 0
cost_of BoolNode = 0
cost_of Nil = 0
cost_of Cons = 0
cost_of SetConst = 0
cost_of If = 6
cost_of _ = 2

-- the sum of the nodes' costs
unfoldable pub costs : List Entry → ℕ
costs [] = 0
costs (e ∷ es) = cost_of e.node.kind + costs es
