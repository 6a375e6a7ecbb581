-- A node that has children is told by its kind: what else its entry has doesn't matter.
use Rattle.std.specs.Prelude.{◌≡◌, List, Bool, true, false}
use Rattle.mz_arena.specs.declared.node.NodeKind.{NodeKind}
use Rattle.mz_arena.specs.declared.node.NodeKind.TheVariants as kinds
use Rattle.mz_arena.specs.Entries.{Entry}
use Rattle.mz_arena.specs.Values.{Values, Term}
use Rattle.mz_arena.specs.Terms.{kind_term}
use Rattle.mz_arena.specs.Extents.{Known, kind_extent}
use Rattle.flat_reif_rows.specs.Standing.{of_kind, extent_over}

-- a constant, a variable or a choice: the node itself has its number, its mark or its set
abbrev pub is_own : NodeKind → Bool
is_own kinds.Int = true
is_own kinds.Bool = true
is_own kinds.Var = true
is_own kinds.Local = true
is_own kinds.SetConst = true
is_own kinds.SetVar = true
is_own kinds.SetLocal = true
is_own _ = false

pub record IsByKind (e : Entry) (k : NodeKind) : Type 0 where
  pub term : (v : Values) (xs : List Term) → kind_term v e k xs ≡ kind_term v (of_kind k) k xs
  pub extent : (xs : List Known) → kind_extent e k xs ≡ extent_over k xs

abbrev pub KindsTell : Type 0
KindsTell = (e : Entry) (k : NodeKind) → is_own k ≡ false → IsByKind e k
