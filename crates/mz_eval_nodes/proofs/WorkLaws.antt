-- A row's node with its work, under each reading.
use Rattle.std.proofs.Common.{◌≡◌, ◌∙◌, ℕ, ◌+◌, ◌*◌, ◌≤◌, ◌^◌, true, false, List, [], ◌∷◌, map, Some, Result, Err, Fits, w64, refl, sym, ap, subst, arith}
use Rattle.mz_base.specs.declared.fault.Span.{Span}
use Rattle.mz_base.specs.declared.stop.Stop.{Stop}
use Rattle.mz_base.specs.declared.stop.Stop.TheVariants.{Refused, Memory}
use Rattle.mz_core.specs.Types.{PlainType}
use Rattle.mz_operations.specs.declared.row.Row.{Row}
use Rattle.mz_operations.specs.declared.row.Row.TheVariants.{Scalar}
use Rattle.mz_operations.specs.declared.row.ScalarRow.TheVariants as scalar
use Rattle.mz_operations.specs.Costs as costs
use Rattle.mz_operations.specs.Costs.{cost}
use Rattle.mz_meaning.specs.Runs.{State, Out, then_do, give, spend}
use Rattle.mz_meaning.specs.Cells.{Cell, typed}
use Rattle.mz_meaning.specs.Operations.{row_cell, row_cost, size_of}
use Rattle.mz_meaning.specs.Forms.{World}
use Rattle.mz_symbol.specs.Runs as symbol_runs
use Rattle.mz_symbol.specs.Readings.{Reading}
use Rattle.mz_symbol.specs.Makes.{Earns, GoesOn, GoesOnBy, MeetsAt, owed, earned}
use Rattle.mz_eval_cells.specs.declared.types.Known.{Known}
use Rattle.mz_eval_cells.specs.declared.types.Known.TheVariants as known
use Rattle.mz_eval_cells.specs.Views.{all_seen, cell_of, cells_of, seen}
use Rattle.mz_eval_row_symbols.specs.Ends.{is_simple}
use Rattle.mz_eval_row_symbols.specs.NodeRows.{row_node}
use Rattle.mz_eval_nodes.specs.RowNodes.{node_by}

-- ---- what a row costs is told without values

size_seen : (r : Reading) (k : Known) → size_of (cell_of k) ≡ size_of (seen r k)
size_seen r known.Undefined = refl
size_seen r (known.One i) = refl
size_seen r (known.Array ix xs) = refl
size_seen r (known.Var x) = refl
size_seen r (known.Row ix xs) = refl
size_seen r (known.Unshaped d) = refl

pub sizes_seen : (r : Reading) (ks : List Known) → map size_of (cells_of ks) ≡ map size_of (all_seen r ks)
sizes_seen r [] = refl
sizes_seen r (k ∷ ks) = ap (λ n. n ∷ map size_of (cells_of ks)) (size_seen r k) ∙ ap (λ ns. size_of (seen r k) ∷ ns) (sizes_seen r ks)

pub cost_seen : (r : Reading) (row : Row) (ks : List Known) → row_cost row (cells_of ks) ≡ row_cost row (all_seen r ks)
cost_seen r row ks = ap (cost row) (sizes_seen r ks)

pub cost_fits : (row : Row) (cs : List Cell) (n : ℕ) → n ≡ row_cost row cs → Fits w64 (1 + n)
unfolding cost
cost_fits row cs n e = let small : row_cost row cs ≤ 2 ^ 62 = omega arith in omega (arith, e, small)

pub simple_cost : (row : Row) (cs : List Cell) → is_simple row ≡ true → 1 ≡ row_cost row cs
unfolding cost costs.counts_from costs.scalar_counts
simple_cost (Scalar (scalar.Arith op)) cs h = refl
simple_cost (Scalar (scalar.Logic op)) cs h = refl
simple_cost (Scalar (scalar.Order op)) cs h = refl
simple_cost (Scalar scalar.Equal) cs h = refl
simple_cost (Scalar scalar.Unequal) cs h = refl
simple_cost row cs h = absurd (cc)

-- ---- work pays for nodes

pub earns_goes : (n : ℕ) (old mid new : symbol_runs.Run) → Earns n old mid → GoesOn mid new → GoesOn old new
earns_goes n old mid new f g = record {
  back = λ r h. f.back r (g.back r h);
  paid = sums (owed old) (owed mid) (owed new) (earned old) (earned mid) (earned new) n f.paid g.paid;
}
  where
    sums : (a b c x y z n : ℕ) → b + (x + 64 * n) ≤ a + y → c + y ≤ b + z + 0 → c + x ≤ a + z + 0
    sums a b c x y z n p q = omega (arith, p, q)

pub earns_pays : (n : ℕ) (old mid new : symbol_runs.Run) → Earns n old mid → GoesOnBy (64 * n) mid new → GoesOn old new
earns_pays n old mid new f g = record {
  back = λ r h. f.back r (g.back r h);
  paid = sums (owed old) (owed mid) (owed new) (earned old) (earned mid) (earned new) n f.paid g.paid;
}
  where
    sums : (a b c x y z n : ℕ) → b + (x + 64 * n) ≤ a + y → c + y ≤ b + z + 64 * n → c + x ≤ a + z + 0
    sums a b c x y z n p q = omega (arith, p, q)

-- ---- the node

pub node_meets : {A : Type 0} (w : World) (place : Span) (t : PlainType) (cs : List Cell) (row : Row) (n : ℕ) (s u v : State) (see : A → Cell) (x : Result A Stop) → n ≡ row_cost row cs → spend w.budget place (1 + n) s ≡ Out tt u → MeetsAt see x v (row_node w.mode w.cases row t place cs u) → MeetsAt see x v (node_by w place t cs (Some row) s)
node_meets w place t cs row n s u v see x e h k =
    subst (MeetsAt see x v)
    (sym (ap (λ m. then_do (then_do (spend w.budget place (1 + m) s) (λ _. row_cell w.mode w.cases row t place cs)) (λ c. give (typed w.mode false t c))) (sym e)
    ∙ ap (λ a. then_do (then_do a (λ _. row_cell w.mode w.cases row t place cs)) (λ c. give (typed w.mode false t c))) h))
    k

-- where the work isn't within the budget
pub node_stops : {A B : Type 0} (w : World) (place : Span) (t : PlainType) (cs : List Cell) (row : Row) (n : ℕ) (s v : State) (see : A → Cell) (tell : B → Unit {0}) (e : Stop) → n ≡ row_cost row cs → MeetsAt tell (Err e) v (spend w.budget place (1 + n) s) → MeetsAt see (Err e) v (node_by w place t cs (Some row) s)
node_stops w place t cs row n s v see tell (Refused f) e h =
    ap (λ m. then_do (then_do (spend w.budget place (1 + m) s) (λ _. row_cell w.mode w.cases row t place cs)) (λ c. give (typed w.mode false t c))) (sym e)
    ∙ ap (λ a. then_do (then_do a (λ _. row_cell w.mode w.cases row t place cs)) (λ c. give (typed w.mode false t c))) h
node_stops w place t cs row n s v see tell Memory e h = tt
