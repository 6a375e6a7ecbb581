-- Mirror of src/nodes.rt; private clauses only.
use Rattle.std.specs.Prelude.{ℕ, pos}
use Rattle.mz_arena.specs.declared.node.NodeKind.{NodeKind}
use Rattle.mz_arena.specs.declared.node.NodeKind.TheVariants as kind
use Rattle.mz_arena.specs.Values.{Term}
use Rattle.mz_symbol.specs.Readings.{Reading, node_meaning}
use Rattle.mz_operations.specs.declared.row.Side.{Side}
use Rattle.mz_operations.specs.declared.row.Side.TheVariants.{Least, Greatest}
use Rattle.glob_nodes.specs.declared.nodes.Compare.{Compare}
use Rattle.glob_nodes.specs.declared.nodes.Compare.TheVariants.{Equal, Differ, AtMost, Less}
use Rattle.glob_nodes.specs.declared.nodes.Join.{Join}
use Rattle.glob_nodes.specs.declared.nodes.Join.TheVariants.{Both, Either, Alike}

-- what a node of a kind means over up to two others
abbrev pub meaning_over : NodeKind → ℕ → ℕ → Reading → Term
meaning_over k a b r = node_meaning r (record { kind = k; a = a; b = b; c = 0; number = pos 0 })

abbrev pub compare_kind : Compare → NodeKind
compare_kind Equal = kind.Eq
compare_kind Differ = kind.Ne
compare_kind AtMost = kind.Le
compare_kind Less = kind.Lt

abbrev pub join_kind : Join → NodeKind
join_kind Both = kind.And
join_kind Either = kind.Or
join_kind Alike = kind.Iff

abbrev pub side_kind : Side → NodeKind
side_kind Least = kind.Min
side_kind Greatest = kind.Max
