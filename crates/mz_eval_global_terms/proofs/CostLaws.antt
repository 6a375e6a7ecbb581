-- What a call's nodes may cost, and that its work pays for it.
use Rattle.std.proofs.Common.{◌≡◌, ℕ, ◌+◌, ◌*◌, ◌≤◌, ◌<◌, ◌^◌, List, min, map, subst, arith}
use Rattle.mz_globals.specs.declared.global.Global.{Global}
use Rattle.mz_meaning.specs.Globals.{call_cost}
use Rattle.mz_meaning.specs.Operations.{size_of}
use Rattle.mz_symbol.specs.Runs.{Run}
use Rattle.mz_symbol.specs.Makes.{GoesOnBy}
use Rattle.mz_symbol_rows.proofs.GoingOn.{goes_both, goes_most}
use Rattle.mz_eval_cells.specs.declared.types.Known.{Known}
use Rattle.mz_eval_cells.specs.Views.{cells_of}
use Rattle.glob_nodes.specs.Rows.{row_cost}
use Rattle.mz_eval_global_terms.specs.Calls.{call_room}

within : (a x y : ℕ) → a ≤ 24 → x ≡ y → a + 56 * x ≤ 56 * y + 24
within a x y h e = subst (λ z. a + 56 * x ≤ 56 * z + 24) e (omega (arith, h))

-- the arguments' nodes, and then the call's own
pub room_for : (g : Global) (ks : List Known) (ns : List ℕ) (a : ℕ) (old mid new : Run) → a ≤ 24 → row_cost g ns ≡ row_cost g (map size_of (cells_of ks)) → GoesOnBy a old mid → GoesOnBy (56 * row_cost g ns) mid new → GoesOnBy (call_room g ks) old new
room_for g ks ns a old mid new h e f w = goes_most (a + 56 * row_cost g ns) (call_room g ks) old new (within a (row_cost g ns) (row_cost g (map size_of (cells_of ks))) h e) (goes_both a (56 * row_cost g ns) old mid new f w)

-- where the arguments alone were made
pub room_so_far : (g : Global) (ks : List Known) (a : ℕ) (old new : Run) → a ≤ 24 → GoesOnBy a old new → GoesOnBy (call_room g ks) old new
room_so_far g ks a old new h f = goes_most a (call_room g ks) old new (less a (56 * row_cost g (map size_of (cells_of ks))) h) f
  where
    less : (a x : ℕ) → a ≤ 24 → a ≤ x + 24
    less a x h = omega (arith, h)

-- the work of a call pays for its nodes, where it isn't cut at the limit
pub work_pays : (g : Global) (ks : List Known) (cost : ℕ) → cost ≡ call_cost g (cells_of ks) → cost < 2 ^ 62 → call_room g ks ≤ 64 * (1 + cost)
work_pays g ks cost e h = pays (row_cost g (map size_of (cells_of ks))) cost e h
  where
    pays : (x c : ℕ) → c ≡ min (2 ^ 62) x → c < 2 ^ 62 → 56 * x + 24 ≤ 64 * (1 + c)
    pays x c e h = omega (arith, e, h)
