-- What types and guards leave of cells.
use Rattle.std.proofs.Common.{◌≡◌, ◌∙◌, Bool, true, false, ◌&&◌, Option, None, Some, refl, sym, ap, subst}
use Rattle.std.specs.Prelude.{not}
use Rattle.mz_value.specs.Contents.{Content}
use Rattle.mz_value.specs.Contents as values
use Rattle.mz_core.specs.Types.{PlainType}
use Rattle.mz_operations.specs.Bounds as bounds
use Rattle.mz_meaning.specs.Cells.{Cell, Par, Var, Unshaped, Mode, Bare, is_par, is_truth, to_par, to_var, sealed, widened, risen, typed, kept_if, undefined, held, is_true}
use Rattle.mz_eval_cells.specs.declared.types.Known.{Known}
use Rattle.mz_eval_cells.specs.declared.types.Known.TheVariants as known
use Rattle.mz_eval_cells.specs.Views.{cell_of}
use Rattle.mz_eval_cells.proofs.Held.{held_truth}

widened_par : (w : Bool) (c : Cell) → is_par c ≡ true → widened w c ≡ c
widened_par false c e = refl
widened_par true (Par v) e = refl
widened_par true (Var b v) e = absurd (cc)
widened_par true (Unshaped d) e = refl

pub kept_true : (k : Known) → kept_if Bare true (cell_of k) ≡ cell_of k
kept_true known.Undefined = refl
kept_true (known.One i) = refl
kept_true (known.Array ix xs) = refl
kept_true (known.Var x) = refl
kept_true (known.Row ix bs) = refl
kept_true (known.Unshaped d) = refl

pub kept_var : (b : Bool) (k : Known) → is_par (cell_of k) ≡ false → kept_if Bare b (cell_of k) ≡ cell_of k
kept_var b known.Undefined e = absurd (cc)
kept_var b (known.One i) e = absurd (cc)
kept_var b (known.Array ix xs) e = absurd (cc)
kept_var b (known.Var c) e = refl
kept_var b (known.Row ix bs) e = refl
kept_var b (known.Unshaped d) e = refl

pub kept_par : (k : Known) → is_par (cell_of k) ≡ true → kept_if Bare false (cell_of k) ≡ undefined
kept_par known.Undefined e = refl
kept_par (known.One i) e = refl
kept_par (known.Array ix xs) e = refl
kept_par (known.Var c) e = absurd (cc)
kept_par (known.Row ix bs) e = absurd (cc)
kept_par (known.Unshaped d) e = absurd (cc)

var_same : (m : Mode) (t : PlainType) (c : Cell) → is_par c ≡ false → to_var m t c ≡ c
var_same m t (Par None) e = absurd (cc)
var_same m t (Par v) e = absurd (cc)
var_same m t (Var b v) e = refl
var_same m t (Unshaped d) e = refl

par_same : (c : Cell) → is_par c ≡ true → to_par c ≡ c
par_same (Par v) e = refl
par_same (Var b v) e = absurd (cc)
par_same (Unshaped d) e = absurd (cc)

-- a cell that is par where the type is, and var where it is
sealed_same : (m : Mode) (v : Bool) (t : PlainType) (c : Cell) → is_par c ≡ not v → sealed m v t c ≡ c
sealed_same m true t c e = var_same m t c e
sealed_same m false t c e = par_same c e

pub stays_sealed : (m : Mode) (t : PlainType) (c : Cell) → is_par c ≡ not t.var → sealed m t.var t c ≡ c
stays_sealed m t c e = sealed_same m t.var t c e

never_wide : (n : Bool) → (not n && false) ≡ false
never_wide true = refl
never_wide false = refl

-- of a type that isn't one Boolean
pub stays_other : (m : Mode) (n : Bool) (t : PlainType) (c : Cell) → is_truth t ≡ false → is_par c ≡ not t.var → typed m n t c ≡ c
stays_other m n t c f e =
    ap (λ c. risen m (is_truth t) (widened (not n && is_truth t) c)) (sealed_same m t.var t c e)
    ∙ ap (λ b. risen m b (widened (not n && b) c)) f
    ∙ ap (λ w. risen m false (widened w c)) (never_wide n)

-- of a par Boolean that is defined
pub stays_truth : (m : Mode) (n : Bool) (t : PlainType) (c : Cell) → t.var ≡ false → is_par c ≡ true → ((b : Bool) → risen m b c ≡ c) → typed m n t c ≡ c
stays_truth m n t c v p r =
    ap (λ c. risen m (is_truth t) (widened (not n && is_truth t) c)) (sealed_same m t.var t c (p ∙ sym (ap not v)))
    ∙ ap (risen m (is_truth t)) (widened_par (not n && is_truth t) c p)
    ∙ r (is_truth t)

-- of a var Boolean that may be false or true, and that is there
wide_kept : (w : Bool) (v : Option Content) → widened w (Var (bounds.one (bounds.number bounds.truth)) v) ≡ Var (bounds.one (bounds.number bounds.truth)) v
wide_kept true v = refl
wide_kept false v = refl

risen_kept : (m : Mode) (b : Bool) (v : Option Content) → v ≡ Some (values.bool (is_true v)) → risen m b (Var (bounds.one (bounds.number bounds.truth)) (held m v)) ≡ Var (bounds.one (bounds.number bounds.truth)) (held m v)
risen_kept m false v e = refl
risen_kept m true v e = ap (Var (bounds.one (bounds.number bounds.truth))) (held_truth m v ∙ ap (held m) (sym e))

pub truth_kept : (m : Mode) (b w : Bool) (x : bounds.Bound) (v : Option Content) → x ≡ bounds.number bounds.truth → v ≡ Some (values.bool (is_true v)) →
    risen m b (widened w (Var (bounds.one x) (held m v))) ≡ Var (bounds.one x) (held m v)
truth_kept m b w x v e there =
    subst (λ x. risen m b (widened w (Var (bounds.one x) (held m v))) ≡ Var (bounds.one x) (held m v)) (sym e)
    (ap (risen m b) (wide_kept w (held m v)) ∙ risen_kept m b v there)

pub stays_var : (m : Mode) (n : Bool) (t : PlainType) (c : Cell) → t.var ≡ true → is_par c ≡ false → ((b w : Bool) → risen m b (widened w c) ≡ c) → typed m n t c ≡ c
stays_var m n t c v p k =
    ap (λ c. risen m (is_truth t) (widened (not n && is_truth t) c)) (sealed_same m t.var t c (p ∙ sym (ap not v)))
    ∙ k (is_truth t) (not n && is_truth t)
