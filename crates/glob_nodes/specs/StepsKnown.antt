-- Mirror of src/known.rt; private clauses only.
use Rattle.std.specs.Prelude.{◌≡◌, ℕ, ℤ, Bool, true, false, not, int_le, int_lt, List, Option, Some, None}
use Rattle.std.specs.Ordering.{int_eq}
use Rattle.mz_arena.specs.declared.node.NodeKind.{NodeKind}
use Rattle.mz_arena.specs.declared.node.NodeKind.TheVariants as kinds
use Rattle.mz_arena.specs.Entries.{Entry}
use Rattle.mz_arena.specs.Values.{Term, bit, is_true}
use Rattle.mz_symbol.specs.Runs.{ReadsNodes}
use Rattle.mz_symbol.specs.Readings.{Reading}
use Rattle.glob_nodes.specs.declared.known.Known.{Known}
use Rattle.glob_nodes.specs.declared.known.Known.TheVariants as known
use Rattle.glob_nodes.specs.declared.nodes.Compare.{Compare}
use Rattle.glob_nodes.specs.declared.nodes.Compare.TheVariants.{Equal, Differ, AtMost, Less}
use Rattle.glob_nodes.specs.declared.nodes.Join.{Join}
use Rattle.glob_nodes.specs.declared.nodes.Join.TheVariants.{Both, Either, Alike}

-- a truth value wherever it is read
abbrev pub IsTruth : List Entry → ℕ → Bool → Type 0
IsTruth es id p = (t : ℕ → Term) → ReadsNodes t es → is_true (t id) ≡ p

-- a truth value that is never undefined
abbrev pub IsBit : List Entry → ℕ → Type 0
IsBit es id = (t : ℕ → Term) → ReadsNodes t es → t id ≡ bit (is_true (t id))

abbrev pub is_bit_kind : NodeKind → Bool
is_bit_kind kinds.Eq = true
is_bit_kind kinds.Ne = true
is_bit_kind kinds.Le = true
is_bit_kind kinds.Lt = true
is_bit_kind kinds.And = true
is_bit_kind kinds.Or = true
is_bit_kind kinds.Not = true
is_bit_kind kinds.Iff = true
is_bit_kind kinds.Member = true
is_bit_kind kinds.SetEq = true
is_bit_kind kinds.Subset = true
is_bit_kind k = false

abbrev pub told_by : Compare → ℤ → ℤ → Bool
told_by Equal m n = int_eq m n
told_by Differ m n = not (int_eq m n)
told_by AtMost m n = int_le m n
told_by Less m n = int_lt m n

-- whether a number stands so to itself
abbrev pub compared_to_itself : Compare → Bool
compared_to_itself Equal = true
compared_to_itself Differ = false
compared_to_itself AtMost = true
compared_to_itself Less = false

-- what changes nothing where it is joined
abbrev pub neutral : Join → Option Bool
neutral Both = Some true
neutral Either = Some false
neutral Alike = None

-- what is known of a truth value
abbrev pub IsJoin : Reading → Bool → Known → Type 0
IsJoin r p (known.Truth q) = p ≡ q
IsJoin r p (known.Node id) = r.term id ≡ bit p
