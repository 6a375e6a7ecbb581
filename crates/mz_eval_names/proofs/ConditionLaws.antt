-- What constraints tell.
use Rattle.std.proofs.Common.{◌≡◌, ◌∙◌, ℕ, Bool, true, false, Option, Some, None, refl, sym, ap}
use Rattle.mz_value.specs.Contents.{Content}
use Rattle.mz_value.specs.Contents as values
use Rattle.mz_core.specs.declared.types.Base.{Base}
use Rattle.mz_core.specs.declared.types.Base.TheVariants as base
use Rattle.mz_arena.specs.Values as terms
use Rattle.mz_arena.specs.Values.{Term}
use Rattle.mz_meaning.specs.Cells as cells
use Rattle.mz_meaning.specs.Cells.{Mode, Blank, Given, held}
use Rattle.mz_symbol.specs.declared.types.Symbol.{Symbol}
use Rattle.mz_symbol.specs.Symbols.{value_at}
use Rattle.mz_symbol.specs.Runs.{Run}
use Rattle.mz_symbol.specs.Readings.{Reading}
use Rattle.mz_symbol.specs.Arguments.{as_argument}
use Rattle.mz_symbol_rows.proofs.RowLaws.{truth_is}
use Rattle.glob_nodes.specs.Says.{Tells}
use Rattle.mz_eval_cells.specs.declared.types.Origin.TheVariants as origin
use Rattle.mz_eval_cells.specs.declared.types.VarValue.{VarValue}
use Rattle.mz_eval_cells.specs.Views.{cast_by, origin_value, truth_by, var_content}
use Rattle.mz_eval_guards.specs.declared.types.Guard.{Guard}
use Rattle.mz_eval_guards.specs.declared.types.Guard.TheVariants as guard
use Rattle.mz_eval_guards.specs.Guards.{IsGuard, open_sure}
use Rattle.mz_eval_guards.proofs.Joined.{guard_like, open_is}

-- ---- nodes

told : (b : Base) (o : Option ℕ) (t : ℕ → Term) (x : ℕ) → b ≡ base.Bool → o ≡ None → terms.is_true (t x) ≡ cells.is_true (as_argument b o (value_at t b o x))
told base.Bool None t x e p = sym (ap (λ q. cells.is_true (Some (values.bool q))) (truth_is (t x)))
told base.Bool (Some o) t x e p = absurd (cc)
told b o t x e p = absurd (cc)

pub symbol_told : (s : Symbol) (t : ℕ → Term) → s.base ≡ base.Bool → s.occurs ≡ None → terms.is_true (t s.term) ≡ cells.is_true (origin_value t (origin.Symbol s))
symbol_told s t e p = told s.base s.occurs t s.term e p

-- a node that is there already
pub stands : (s : Run) (f : (ℕ → Term) → Bool) (id : ℕ) → ((t : ℕ → Term) → terms.is_true (t id) ≡ f t) → Tells s s (λ r. f r.term) id
stands s f id e = record { same = λ r h. refl; tells = λ r h. e r.term }

truth_told : (p q : Bool) → p ≡ cells.is_true (truth_by p q)
truth_told true q = refl
truth_told false true = refl
truth_told false false = refl

pub truth_tells : (s : Run) (y d : ℕ) → Tells s s (λ r. cells.is_true (origin_value r.term (origin.Truth y d))) y
truth_tells s y d = record { same = λ r h. refl; tells = λ r h. truth_told (terms.is_true (r.term y)) (terms.is_true (r.term d)) }

-- ---- cells

abbrev met_by : Bool → cells.Sure
met_by b = record { par = false; is = b }

held_met : (m : Mode) (v : Option Content) → open_sure m (cells.is_true v) ≡ record { par = false; is = cells.is_true (held m v) }
held_met (Blank n) v = refl
held_met (Given f) v = refl

pub origin_met : (old new : Run) (v : VarValue) (id : ℕ) → v.cast ≡ None → Tells old new (λ r. cells.is_true (origin_value r.term v.origin)) id → IsGuard old new (λ r. record { par = false; is = cells.is_true (held r.mode (var_content r.term v)) }) (guard.Open id)
origin_met old new v id e h = guard_like old new _ _ (guard.Open id)
    (λ r. held_met r.mode (origin_value r.term v.origin) ∙ ap (λ (c : Option Base). met_by (cells.is_true (held r.mode (cast_by c (origin_value r.term v.origin))))) (sym e))
    (open_is old new (λ r. cells.is_true (origin_value r.term v.origin)) id h)

pub none_met : (old new : Run) (v : VarValue) (g : Guard) → ((r : Reading) → held r.mode (var_content r.term v) ≡ None) → IsGuard old new (λ _. record { par = false; is = false }) g → IsGuard old new (λ r. record { par = false; is = cells.is_true (held r.mode (var_content r.term v)) }) g
none_met old new v g e h = guard_like old new _ _ g (λ r. ap (λ (o : Option Content). met_by (cells.is_true o)) (sym (e r))) h
