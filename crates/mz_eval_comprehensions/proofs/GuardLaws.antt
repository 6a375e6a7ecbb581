-- Cells that a guard leaves as they are, and what guards cost.
use Rattle.std.proofs.Common.{◌≡◌, ◌∙◌, ℕ, Bool, true, false, length, Option, None, refl, sym, ap, arith, if◌then◌else◌}
use Rattle.std.specs.Prelude.{nat_eq}
use Rattle.std.proofs.lemmas.Bool.Decides.{nat_tests}
use Rattle.mz_value.specs.Contents.{Content}
use Rattle.mz_core.specs.Types.{PlainType}
use Rattle.mz_core.specs.Order.{no_dims}
use Rattle.mz_arena.specs.Values.{is_true}
use Rattle.mz_operations.specs.Bounds as bounds
use Rattle.mz_meaning.specs.Cells as cells
use Rattle.mz_meaning.specs.Cells.{Cell, Var, Unshaped, Mode, Blank, Given, held, is_par, kept_if, to_var}
use Rattle.mz_symbol.specs.Runs.{Run}
use Rattle.mz_symbol.specs.Readings.{Reading, state_of}
use Rattle.glob_nodes.specs.Says.{Says}
use Rattle.mz_eval_cells.specs.declared.types.Known.{Known}
use Rattle.mz_eval_cells.specs.declared.types.Known.TheVariants as known
use Rattle.mz_eval_cells.specs.Views.{cell_of, seen}
use Rattle.mz_eval_guards.specs.Guards.{IsCell, held_truth}
use Rattle.mz_eval_comprehensions.specs.Drawn.{IsSeen}
use Rattle.mz_eval_comprehensions.specs.StepsDrawn.{IsAlways}

-- ---- a node that is surely true

same_id : (a b : ℕ) → nat_eq a b ≡ true → a ≡ b
same_id a b e = grind (arith, nat_tests)

pub always_told : (old new : Run) (one d : ℕ) → Says old new (λ _. true) one → IsAlways old new d (nat_eq one d)
always_told old new one d s = record {
  same = s.same;
  yes = λ e r h. ap (λ i. is_true (r.term i)) (sym (same_id one d e)) ∙ s.tells r h;
}

-- ---- cells that stay

var_kept : (m : Mode) (e : bounds.Bounds) (v : Option Content) → Var e (held m v) ≡ kept_if m (held_truth m true) (Var e (held m v))
var_kept (Blank n) e v = refl
var_kept (Given f) e v = refl

none_kept : (m : Mode) (t : PlainType) (b : Bool) → (if b then Var (cells.no_bounds t) None else Unshaped (length t.dims)) ≡ kept_if m (held_truth m true) (if b then Var (cells.no_bounds t) None else Unshaped (length t.dims))
none_kept (Blank n) t true = refl
none_kept (Given f) t true = refl
none_kept m t false = refl

sure_kept : (r : Reading) (t : PlainType) (k : Known) → to_var r.mode t (seen r k) ≡ kept_if r.mode (held_truth r.mode true) (to_var r.mode t (seen r k))
sure_kept r t known.Undefined = none_kept r.mode t (no_dims t.dims)
sure_kept r t (known.One i) = var_kept r.mode _ _
sure_kept r t (known.Array ix xs) = var_kept r.mode _ _
sure_kept r t (known.Var x) = var_kept r.mode _ _
sure_kept r t (known.Row ix xs) = var_kept r.mode _ _
sure_kept r t (known.Unshaped d) = refl

pub always_kept : (r : Reading) (t : PlainType) (k : Known) (b : Bool) → b ≡ true → to_var r.mode t (seen r k) ≡ kept_if r.mode (held_truth r.mode b) (to_var r.mode t (seen r k))
always_kept r t k b e = sure_kept r t k ∙ ap (λ p. kept_if r.mode (held_truth r.mode p) (to_var r.mode t (seen r k))) (sym e)

whole_kept : (m : Mode) (e : bounds.Bounds) (v : Option Content) → Var e (held m v) ≡ kept_if m true (Var e (held m v))
whole_kept (Blank n) e v = refl
whole_kept (Given f) e v = refl

pub kept_whole : (r : Reading) (k : Known) → seen r k ≡ kept_if r.mode true (seen r k)
kept_whole r known.Undefined = refl
kept_whole r (known.One i) = refl
kept_whole r (known.Array ix xs) = refl
kept_whole r (known.Var x) = whole_kept r.mode _ _
kept_whole r (known.Row ix xs) = whole_kept r.mode _ _
kept_whole r (known.Unshaped d) = refl

pub kept_nowhere : (r : Reading) (k : Known) → is_par (cell_of k) ≡ true → cells.undefined ≡ kept_if r.mode false (seen r k)
kept_nowhere r known.Undefined h = refl
kept_nowhere r (known.One i) h = refl
kept_nowhere r (known.Array ix xs) h = refl
kept_nowhere r (known.Var x) h = absurd (cc)
kept_nowhere r (known.Row ix xs) h = absurd (cc)
kept_nowhere r (known.Unshaped d) h = absurd (cc)

-- ---- a cell that was made after charges were drawn

pub drawn_seen : (old mid new : Run) (f : Reading → Cell) (k : Known) → ((r : Reading) → state_of r old ≡ state_of r mid) → IsCell mid new f k → IsSeen old new f k
drawn_seen old mid new f k s h = record { same = λ r q. s r ∙ h.same r q; is = λ r q. h.is r q }
