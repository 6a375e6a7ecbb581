-- Each node's cell has the node's type.
use Rattle.std.proofs.Common.{◌≡◌, ℕ, zero, suc, Bool, true, false, not, ◌&&◌, List, [], Some, None, refl, sym, ap, subst, ◌∙◌, if◌then◌else◌}
use Rattle.mz_base.specs.declared.fault.Span.{Span}
use Rattle.mz_value.specs.Contents.{Content}
use Rattle.mz_core.specs.Types.{PlainType}
use Rattle.mz_core.specs.Order.{no_dims}
use Rattle.mz_core.specs.Coercions.{PathLink}
use Rattle.mz_core.specs.Tree.{Tree, layer, shape_of, place_of, type_of, inner_tree, root_coercions}
use Rattle.mz_meaning.specs.Runs.{Run, State, Answer, Out, Stopped, then_do}
use Rattle.mz_meaning.specs.Cells.{Cell, Par, Var, Unshaped, Mode, Given, Env, is_par, is_truth, value_of, sealed, widened, risen, typed, to_var, no_bounds}
use Rattle.mz_meaning.specs.Contexts.{Context, within_links}
use Rattle.mz_meaning.specs.Forms.{World, coerced_by}
use Rattle.mz_meaning.specs.Evaluation.{node, is_name, eval}
use Rattle.mz_meaning.specs.Promises.{OnOut, IsTruth, IsMarked}

on_then : {A B : Type 0} (P : B → Type 0) (a : Answer A) (go : A → Run B) → ((x : A) (s : State) → OnOut (go x s) P) → OnOut (then_do a go) P
on_then P (Out x s) go h = h x s
on_then P (Stopped f) go h = tt

-- without coercions the cell is given as it is
given_as_is : (P : Cell → Type 0) (w : World) (at : Span) (ls : List PathLink) (c : Cell) (s : State) → ls ≡ [] → P c → OnOut (coerced_by w at ls c s) P
given_as_is P w at ls c s h p = subst (λ k. OnOut (coerced_by w at k c s) P) (sym h) p

-- ---- Booleans

risen_truth : (f : ℕ → Content) (c : Cell) → IsTruth (value_of (risen (Given f) true c))
risen_truth f (Par v) = tt
risen_truth f (Var b v) = tt
risen_truth f (Unshaped d) = tt

typed_truth : (mode : Mode) (f : ℕ → Content) (name : Bool) (t : PlainType) (c : Cell) → mode ≡ Given f → is_truth t ≡ true → IsTruth (value_of (typed mode name t c))
typed_truth mode f name t c g h =
    subst (λ m. IsTruth (value_of (typed m name t c))) (sym g)
    (subst (λ k. IsTruth (value_of (risen (Given f) k (widened (not name && is_truth t) (sealed (Given f) t.var t c))))) (sym h) (risen_truth f (widened (not name && is_truth t) (sealed (Given f) t.var t c))))

pub booleans_are_defined : (w : World) (f : ℕ → Content) → w.mode ≡ Given f → (levels : ℕ) (ctx : Context) (e : Tree) (env : Env) (s : State) → root_coercions e ≡ [] → is_truth (type_of (inner_tree e)) ≡ true → OnOut (eval w levels ctx e env s) (λ c. IsTruth (value_of c))
unfolding eval
booleans_are_defined w f g zero ctx e env s h k = tt
booleans_are_defined w f g (suc n) ctx e env s h k =
    on_then (λ c. IsTruth (value_of c)) (node w (eval w n) (within_links ctx (root_coercions e)) (layer (shape_of (inner_tree e))) (place_of (inner_tree e)) (type_of (inner_tree e)) env s) _
    (λ c t. given_as_is (λ x. IsTruth (value_of x)) w (place_of (inner_tree e)) (root_coercions e) (typed w.mode (is_name (layer (shape_of (inner_tree e)))) (type_of (inner_tree e)) c) t h (typed_truth w.mode f (is_name (layer (shape_of (inner_tree e)))) (type_of (inner_tree e)) c g k))

-- ---- par and var

risen_mark : (mode : Mode) (k : Bool) (c : Cell) → is_par (risen mode k c) ≡ is_par c
risen_mark mode false c = refl
risen_mark mode true (Par v) = refl
risen_mark mode true (Var b v) = refl
risen_mark mode true (Unshaped d) = refl

widened_mark : (k : Bool) (c : Cell) → is_par (widened k c) ≡ is_par c
widened_mark false c = refl
widened_mark true (Par v) = refl
widened_mark true (Var b v) = refl
widened_mark true (Unshaped d) = refl

lost_mark : (k : Bool) (c d : Cell) → is_par c ≡ false → is_par d ≡ false → is_par (if k then c else d) ≡ false
lost_mark true c d p q = p
lost_mark false c d p q = q

var_mark : (mode : Mode) (t : PlainType) (c : Cell) → is_par (to_var mode t c) ≡ false
var_mark mode t (Par None) = lost_mark (no_dims t.dims) (Var (no_bounds t) None) _ refl refl
var_mark mode t (Par (Some x)) = refl
var_mark mode t (Var b v) = refl
var_mark mode t (Unshaped d) = refl

sealed_mark : (mode : Mode) (v : Bool) (t : PlainType) (c : Cell) → is_par (sealed mode v t c) ≡ not v
sealed_mark mode true t c = var_mark mode t c
sealed_mark mode false t (Par v) = refl
sealed_mark mode false t (Var b v) = refl
sealed_mark mode false t (Unshaped d) = refl

typed_mark : (mode : Mode) (name : Bool) (t : PlainType) (c : Cell) → is_par (typed mode name t c) ≡ not t.var
typed_mark mode name t c = risen_mark mode (is_truth t) (widened (not name && is_truth t) (sealed mode t.var t c)) ∙ (widened_mark (not name && is_truth t) (sealed mode t.var t c) ∙ sealed_mark mode t.var t c)

pub cells_have_their_mark : (w : World) (levels : ℕ) (ctx : Context) (e : Tree) (env : Env) (s : State) (v : Bool) → root_coercions e ≡ [] → (type_of (inner_tree e)).var ≡ v → OnOut (eval w levels ctx e env s) (λ c. IsMarked v (is_par c))
unfolding eval
cells_have_their_mark w zero ctx e env s v h k = tt
cells_have_their_mark w (suc n) ctx e env s v h k =
    on_then (λ c. IsMarked v (is_par c)) (node w (eval w n) (within_links ctx (root_coercions e)) (layer (shape_of (inner_tree e))) (place_of (inner_tree e)) (type_of (inner_tree e)) env s) _
    (λ c t. given_as_is (λ x. IsMarked v (is_par x)) w (place_of (inner_tree e)) (root_coercions e) (typed w.mode (is_name (layer (shape_of (inner_tree e)))) (type_of (inner_tree e)) c) t h (typed_mark w.mode (is_name (layer (shape_of (inner_tree e)))) (type_of (inner_tree e)) c ∙ ap not k))
