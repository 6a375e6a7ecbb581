-- A par expression's value in a run without values is its value in each run.
use Rattle.std.proofs.Common.{◌≡◌, ℕ, zero, suc, Bool, true, false, not, ◌&&◌, List, [], ◌∷◌, Option, Some, None, refl, sym, ap, ◌∙◌}
use Rattle.mz_base.specs.declared.fault.Span.{Span}
use Rattle.mz_value.specs.Ranges.{Range}
use Rattle.mz_value.specs.Contents.{Content}
use Rattle.mz_core.specs.declared.types.Base.{Base}
use Rattle.mz_core.specs.declared.types.Base.TheVariants as base
use Rattle.mz_core.specs.declared.types.Coercion.TheVariants as coercion
use Rattle.mz_core.specs.Types.{PlainType}
use Rattle.mz_core.specs.Coercions.{PathLink}
use Rattle.mz_core.specs.Tree.{Tree, layer, shape_of, place_of, type_of, inner_tree, root_coercions}
use Rattle.mz_meaning.specs.Runs.{Run, State, Answer, Out, Stopped, then_do, give, spend}
use Rattle.mz_meaning.specs.Cells.{Cell, Par, Var, Unshaped, Mode, Env, is_par, is_truth, value_of, set_in, to_par, sealed, widened, risen, typed}
use Rattle.mz_meaning.specs.Coerced.{recast_cell, elements_of_set, coerced, coercion_work}
use Rattle.mz_meaning.specs.Contexts.{Context, within_links}
use Rattle.mz_meaning.specs.Forms.{World, coerced_once, coerced_by}
use Rattle.mz_meaning.specs.Evaluation.{node, is_name, eval}
use Rattle.mz_meaning.specs.Promises.{OnOut}
use Rattle.mz_meaning_laws.specs.Outlines.{outline, outline_state, blank_world, HasOutlines}
use Rattle.mz_meaning_laws.specs.Ties.{outline_answer}
use Rattle.mz_meaning_laws.specs.Independence.{keeps_par, AllKeepPar, IsParTree, GivesPar}
use Rattle.mz_meaning_laws.proofs.Consequences.{expressions_have_outlines}

-- ---- cells of par nodes are par

to_par_par : (c : Cell) → is_par (to_par c) ≡ true
to_par_par (Par v) = refl
to_par_par (Var b v) = refl
to_par_par (Unshaped d) = refl

sealed_par : (m : Mode) (v : Bool) (t : PlainType) (c : Cell) → v ≡ false → is_par (sealed m v t c) ≡ true
sealed_par m true t c h = absurd (cc)
sealed_par m false t c h = to_par_par c

widened_par : (b : Bool) (c : Cell) → is_par c ≡ true → is_par (widened b c) ≡ true
widened_par false c h = h
widened_par true (Par v) h = refl
widened_par true (Var b v) h = absurd (cc)
widened_par true (Unshaped d) h = absurd (cc)

risen_par : (m : Mode) (b : Bool) (c : Cell) → is_par c ≡ true → is_par (risen m b c) ≡ true
risen_par m false c h = h
risen_par m true (Par v) h = refl
risen_par m true (Var b v) h = absurd (cc)
risen_par m true (Unshaped d) h = absurd (cc)

typed_par : (m : Mode) (name : Bool) (t : PlainType) (c : Cell) → t.var ≡ false → is_par (typed m name t c) ≡ true
typed_par m name t c h = risen_par m (is_truth t) (widened (not name && is_truth t) (sealed m t.var t c)) (widened_par (not name && is_truth t) (sealed m t.var t c) (sealed_par m t.var t c h))

recast_par : (b : Base) (c : Cell) → is_par c ≡ true → is_par (recast_cell b c) ≡ true
recast_par b (Par v) h = refl
recast_par b (Var e v) h = absurd (cc)
recast_par b (Unshaped d) h = absurd (cc)

elements_par : (b : Base) (s : Option (List Range)) → is_par (elements_of_set b s) ≡ true
elements_par b None = refl
elements_par b (Some s) = refl

coerced_par : (m : Mode) (l : PathLink) (c : Cell) → keeps_par l.0 ≡ true → is_par c ≡ true → is_par (coerced m l c) ≡ true
coerced_par m (coercion.ToVar, t) c h i = absurd (cc)
coerced_par m (coercion.BoolToInt, t) c h i = recast_par base.Int c i
coerced_par m (coercion.EnumToInt, t) c h i = recast_par base.Int c i
coerced_par m (coercion.SetEnumToSetInt, t) c h i = recast_par base.SetInt c i
coerced_par m (coercion.SetBottomToSet, t) c h i = recast_par t.base c i
coerced_par m (coercion.SetToArray, t) c h i = elements_par t.base (set_in c)
coerced_par m (coercion.ToOpt, t) c h i = i
coerced_par m (coercion.IndexToInt, t) c h i = i
coerced_par m (coercion.BottomToBase, t) c h i = i

-- ---- and so is what a par expression gives

abbrev IsParCell : Cell → Type 0
IsParCell c = is_par c ≡ true

on_out : {A B : Type 0} (P : A → Type 0) (Q : B → Type 0) (a : Answer A) (go : A → Run B) → OnOut a P → ((x : A) → P x → (s : State) → OnOut (go x s) Q) → OnOut (then_do a go) Q
on_out P Q (Out x s) go h k = k x h s
on_out P Q (Stopped f) go h k = tt

any_out : {A : Type 0} (a : Answer A) → OnOut a (λ x. Unit {0})
any_out (Out x s) = tt
any_out (Stopped f) = tt

once_par : (w : World) (at : Span) (c : Cell) (l : PathLink) (s : State) → keeps_par l.0 ≡ true → IsParCell c → OnOut (coerced_once w at c l s) IsParCell
once_par w at c l s h i = on_out (λ u. Unit {0}) IsParCell (spend w.budget at (coercion_work l.0 c) s) (λ u. give (coerced w.mode l c)) (any_out _) (λ u x q. coerced_par w.mode l c h i)

links_par : (w : World) (at : Span) (ls : List PathLink) (c : Cell) (s : State) → AllKeepPar ls → IsParCell c → OnOut (coerced_by w at ls c s) IsParCell
links_par w at [] c s h i = i
links_par w at (l ∷ ls) c s h i = on_out IsParCell IsParCell (coerced_once w at c l s) (coerced_by w at ls) (once_par w at c l s h.0 i) (λ x k q. links_par w at ls x q h.1 k)

eval_par : (w : World) (levels : ℕ) (c : Context) (e : Tree) (env : Env) → IsParTree e → (s : State) → OnOut (eval w levels c e env s) IsParCell
unfolding eval
eval_par w zero c e env h s = tt
eval_par w (suc n) c e env h s =
    on_out (λ x. Unit {0}) IsParCell (node w (eval w n) (within_links c (root_coercions e)) (layer (shape_of (inner_tree e))) (place_of (inner_tree e)) (type_of (inner_tree e)) env s) _ (any_out _)
    (λ x u q. links_par w (place_of (inner_tree e)) (root_coercions e) (typed w.mode (is_name (layer (shape_of (inner_tree e)))) (type_of (inner_tree e)) x) q h.links (typed_par w.mode (is_name (layer (shape_of (inner_tree e)))) (type_of (inner_tree e)) x h.node))

par_out : (a b : Answer Cell) (v : Option Content) (t : State) → OnOut a IsParCell → b ≡ outline_answer false outline a → then_do b (λ c. give (value_of c)) ≡ Out v t → GivesPar a v t.work
par_out (Out (Par u) q) b v t h e k =
    let p : Out u (outline_state false q) ≡ Out v t = ap (λ b. then_do b (λ c. give (value_of c))) (sym e) ∙ k in
    let x : u ≡ v = cc in
    let y : outline_state false q ≡ t = cc in
    record { end = q; is = ap (λ v. Out (Par v) q) x; works = ap (λ s. s.work) y }
par_out (Out (Var d u) q) b v t h e k = absurd (cc)
par_out (Out (Unshaped d) q) b v t h e k = absurd (cc)
par_out (Stopped g) b v t h e k = let p : Stopped g ≡ Out v t = ap (λ b. then_do b (λ c. give (value_of c))) (sym e) ∙ k in absurd (cc)

pub value_is_given : (w : World) (top : Env) → HasOutlines w.top top → (levels : ℕ) (c : Context) (e : Tree) → IsParTree e → (env env' : Env) → HasOutlines env env' → (s : State) (v : Option Content) (t : State) → then_do (eval (blank_world false w top) levels c e env' (outline_state false s)) (λ c. give (value_of c)) ≡ Out v t → GivesPar (eval w levels c e env s) v t.work
value_is_given w top z levels c e h env env' i s v t k = par_out (eval w levels c e env s) _ v t (eval_par w levels c e env h s) (expressions_have_outlines w top z levels c e env env' i s) k
