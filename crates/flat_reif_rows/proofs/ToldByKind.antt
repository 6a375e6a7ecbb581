-- A node that has children is told by its kind.
use Rattle.std.proofs.Common.{◌≡◌, false, refl}
use Rattle.mz_arena.specs.declared.node.NodeKind.{NodeKind}
use Rattle.mz_arena.specs.declared.node.NodeKind.TheVariants as kinds
use Rattle.mz_arena.specs.Entries.{Entry}
use Rattle.flat_reif_rows.specs.Laws.{is_own, IsByKind}

pub by_kind : (e : Entry) (k : NodeKind) → is_own k ≡ false → IsByKind e k
by_kind e kinds.Int h = absurd (cc)
by_kind e kinds.Bool h = absurd (cc)
by_kind e kinds.Var h = absurd (cc)
by_kind e kinds.Local h = absurd (cc)
by_kind e kinds.SetConst h = absurd (cc)
by_kind e kinds.SetVar h = absurd (cc)
by_kind e kinds.SetLocal h = absurd (cc)
by_kind e _ h = record { term = λ v xs. refl; extent = λ xs. refl }
