-- Cells that have no value under any reading, and cells that guards guard.
use Rattle.std.proofs.Common.{◌≡◌, ◌∙◌, ℕ, Bool, true, false, List, Option, Some, None, refl, sym, ap}
use Rattle.mz_value.specs.Ranges.{Range}
use Rattle.mz_value.specs.Contents.{Content}
use Rattle.mz_core.specs.declared.types.Base.{Base}
use Rattle.mz_core.specs.Types.{PlainType}
use Rattle.mz_arena.specs.Values.{Term, is_true}
use Rattle.mz_operations.specs.Bounds as bounds
use Rattle.mz_meaning.specs.Arrays.{defined_in}
use Rattle.mz_meaning.specs.Cells as cells
use Rattle.mz_meaning.specs.Cells.{Cell, Par, Var, Unshaped, Mode, Sure, held, is_par, is_there, kept_if, only_if, to_var, value_of}
use Rattle.mz_meaning.specs.Runs.{Out}
use Rattle.mz_symbol.specs.Runs.{Run}
use Rattle.mz_symbol.specs.Readings.{Reading, Reads, blank, state_of}
use Rattle.mz_symbol_rows.proofs.RowLaws.{out_both}
use Rattle.mz_eval_cells.specs.declared.types.Known.{Known}
use Rattle.mz_eval_cells.specs.declared.types.VarItems.{VarItems}
use Rattle.mz_eval_cells.specs.declared.types.VarValue.{VarValue}
use Rattle.mz_eval_cells.specs.Views.{array_of, cast_by, origin_value, origins_value, row_content, seen, var_content}
use Rattle.mz_eval_guards.specs.declared.types.Guard.{Guard}
use Rattle.mz_eval_guards.specs.Guards.{IsCell, IsGuard, held_truth, open_sure}
use Rattle.mz_eval_guards.proofs.GuardingLaws.{nothing_held}
use Rattle.mz_eval_guards.proofs.Joined.{guard_like}
use Rattle.mz_eval_names.specs.Steps.{HasNoValue}

-- ---- no value

nothing_cast : (c : Option Base) → cast_by c None ≡ None
nothing_cast None = refl
nothing_cast (Some b) = refl

pub no_content : (v : VarValue) (r : Reading) → ((t : ℕ → Term) → origin_value t v.origin ≡ None) → held r.mode (var_content r.term v) ≡ None
no_content v r e = ap (λ o. held r.mode (cast_by v.cast o)) (e r.term) ∙ ap (held r.mode) (nothing_cast v.cast) ∙ sym (nothing_held r.mode)

pub no_row : (xs : VarItems) (r : Reading) (ix : List Range) → ((l : ℕ → Option (List Content)) → origins_value l xs.origins ≡ None) → held r.mode (row_content r.line ix xs) ≡ None
no_row xs r ix e = ap (λ o. held r.mode (cast_by xs.cast (array_of ix o))) (e r.line) ∙ ap (held r.mode) (nothing_cast xs.cast) ∙ sym (nothing_held r.mode)

pub var_without : (b : bounds.Bounds) (v : Option Content) → v ≡ None → HasNoValue (Var b v)
var_without b v e = record { var = refl; none = e }

pub unshaped_without : (d : ℕ) → HasNoValue (Unshaped d)
unshaped_without d = record { var = refl; none = refl }

-- ---- guards of cells without a value

abbrev told : Bool → Bool → Sure
told p b = record { par = p; is = b }

pub never_there : (old new : Run) (k : Known) (g : Guard) → ((r : Reading) → HasNoValue (seen r k)) → IsGuard old new (λ _. record { par = false; is = false }) g → IsGuard old new (λ r. cells.there (seen r k)) g
never_there old new k g e h = guard_like old new _ _ g (λ r. ap (λ p. told p false) (sym (e r).var) ∙ ap (λ v. told (is_par (seen r k)) (is_there v)) (sym (e r).none)) h

pub never_lies : (old new : Run) (u : List Range) (k : Known) (g : Guard) → ((r : Reading) → HasNoValue (seen r k)) → IsGuard old new (λ _. record { par = false; is = false }) g → IsGuard old new (λ r. record { par = false; is = defined_in u (value_of (seen r k)) }) g
never_lies old new u k g e h = guard_like old new _ _ g (λ r. ap (λ v. told false (defined_in u v)) (sym (e r).none)) h

-- ---- cells

pub cell_out : (old new : Run) (f : Reading → Cell) (k : Known) (r : Reading) → IsCell old new f k → Reads r new → Out (f r) (state_of r old) ≡ Out (seen r k) (state_of r new)
cell_out old new f k r h q = out_both (sym (h.is r q)) (h.same r q)

pub drawn_cell : (old mid new : Run) (f : Reading → Cell) (k : Known) → ((r : Reading) → state_of r old ≡ state_of r mid) → IsCell mid new f k → IsCell old new f k
drawn_cell old mid new f k e h = record { same = λ r q. e r ∙ h.same r q; is = h.is; bare = h.bare }

pub same_cell : (s : Run) (f : Reading → Cell) (k : Known) → ((r : Reading) → seen r k ≡ f r) → IsCell s s f k
same_cell s f k e = record { same = λ r q. refl; is = λ r q. e r; bare = e blank }

only_none : (b : Bool) → only_if {A = Content} b None ≡ None
only_none true = refl
only_none false = refl

-- a guard changes nothing of a cell without a value
kept_none : (m : Mode) (b : Bool) (c : Cell) → HasNoValue c → c ≡ kept_if m b c
kept_none m b (Par v) h = absurd (contra h.var)
  where
    contra : true ≡ false → ⊥
    contra e = absurd (cc)
kept_none m b (Var e v) h = ap (Var e) (h.none ∙ nothing_held m ∙ ap (held m) (sym (only_none b)) ∙ ap (λ o. held m (only_if b o)) (sym h.none))
kept_none m b (Unshaped d) h = refl

pub valueless_cell : (s : Run) (t : PlainType) (d : ℕ) (k x : Known) → ((r : Reading) → seen r x ≡ to_var r.mode t (seen r k)) → ((r : Reading) → HasNoValue (seen r x)) → IsCell s s (λ r. cells.guarded r.mode t (open_sure r.mode (is_true (r.term d))) (seen r k)) x
valueless_cell s t d k x e h = same_cell s _ x (λ r. kept_none r.mode (held_truth r.mode (is_true (r.term d))) (seen r x) (h r) ∙ ap (kept_if r.mode (held_truth r.mode (is_true (r.term d)))) (e r))
