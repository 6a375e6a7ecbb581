-- One level of an evaluation, read from the code's expression.
use Rattle.std.proofs.Common.{◌≡◌, ◌∙◌, ℕ, zero, suc, ◌-◌, pos, Bool, refl, sym, ap, arith}
use Rattle.mz_base.specs.declared.fault.Span.{Span}
use Rattle.mz_base.specs.declared.kind.Kind.TheVariants.{Depth}
use Rattle.mz_core.specs.declared.tree.Core.{Core}
use Rattle.mz_core.specs.declared.tree.CoreForm.TheViews.{out-CoreForm}
use Rattle.mz_core.specs.Types.{PlainType, plain_type}
use Rattle.mz_core.specs.Tree.{Tree, Layer, Decl, layer, shape_of, place_of, type_of, inner_tree, root_coercions}
use Rattle.mz_core.specs.TreeViews.{tree, form_layer}
use Rattle.mz_core.proofs.TreeLaws.{place_of_tree, type_of_tree, layer_tree}
use Rattle.mz_meaning.specs.Runs.{State, Answer, Run, then_do, stop, give}
use Rattle.mz_meaning.specs.Cells.{Cell, Env, both_sure, typed}
use Rattle.mz_meaning.specs.Contexts.{Context, within_links}
use Rattle.mz_meaning.specs.Forms.{World, Eval, coerced_by}
use Rattle.mz_meaning.specs.Arrays.{fitted}
use Rattle.mz_meaning.specs.Lets.{Names, all_have_sets, names_in, with_local, index_wants, want}
use Rattle.mz_meaning.specs.Calls.{argument_suits, parameter}
use Rattle.mz_meaning.specs.Evaluation.{eval, node, is_name}
use Rattle.mz_eval_chains.proofs.Runs.{regroup, then_again}
use Rattle.mz_eval.specs.Calls.{argument}
use Rattle.mz_eval.specs.Nodes.{node_stamped}

pub eval_end : (w : World) (left : ℕ) (ctx : Context) (e b : Core) (env : Env) (s : State) → left ≡ 0 → inner_tree (tree e) ≡ tree b → eval w left ctx (tree e) env s ≡ stop Depth b.span (pos 601) s
unfolding eval
eval_end w zero ctx e b env s h is = ap (λ t. stop Depth (place_of t) (pos 601) s) is ∙ ap (λ p. stop Depth p (pos 601) s) (place_of_tree b)
eval_end w (suc n) ctx e b env s h is = absurd (omega arith)

-- how an expression ends whose node is b
abbrev pub finish : World → Core → Core → Cell → Run Cell
finish w e b c = coerced_by w b.span (root_coercions (tree e)) c

-- one node with this layer, place and type, and its end
abbrev level : World → ℕ → Context → Tree → Env → State → Layer → Span → PlainType → Answer Cell
level w n ctx e env s l p t = then_do (node w (eval w n) (within_links ctx (root_coercions e)) l p t env s) (λ c. coerced_by w p (root_coercions e) (typed w.mode (is_name l) t c))

pub eval_more : (w : World) (left : ℕ) (ctx : Context) (e b : Core) (env : Env) (s : State) → (left ≡ 0 → ⊥) → inner_tree (tree e) ≡ tree b → eval w left ctx (tree e) env s ≡ then_do (node_stamped w (eval w (left - 1)) (within_links ctx (root_coercions (tree e))) (form_layer (out-CoreForm b.form)) b.span (plain_type b.ty) env s) (finish w e b)
unfolding eval
eval_more w zero ctx e b env s h is = absurd (h refl)
eval_more w (suc n) ctx e b env s h is =
    let less : n ≡ suc n - 1 = omega arith in
    let l = form_layer (out-CoreForm b.form) in
    ap (λ t. level w n ctx (tree e) env s (layer (shape_of t)) (place_of t) (type_of t)) is
    ∙ ap (λ l. level w n ctx (tree e) env s l (place_of (tree b)) (type_of (tree b))) (layer_tree b)
    ∙ ap (λ p. level w n ctx (tree e) env s (form_layer (out-CoreForm b.form)) p (type_of (tree b))) (place_of_tree b)
    ∙ ap (λ t. level w n ctx (tree e) env s (form_layer (out-CoreForm b.form)) b.span t) (type_of_tree b)
    ∙ ap (λ m. level w m ctx (tree e) env s (form_layer (out-CoreForm b.form)) b.span (plain_type b.ty)) less
    ∙ sym (then_again (node w (eval w (suc n - 1)) (within_links ctx (root_coercions (tree e))) l b.span (plain_type b.ty) env s) (λ c. give (typed w.mode (is_name l) (plain_type b.ty) c)) (finish w e b))

-- a parameter is its argument under its sets, and then a name
pub parameter_is : (go : Eval) (ctx : Context) (var : Bool) (top : Env) (b : Names) (d : Decl) (e : Tree) (k : Cell) (s : State) → parameter go ctx var top b (d, e, k) s ≡ then_do (argument go ctx var (names_in b top) d e k s) (λ x. give (with_local b d.slot x))
parameter_is go ctx var top b d e k s = regroup (index_wants go ctx d.ty.index (names_in b top) s) (λ ixs. want go ctx d.ty.set (names_in b top)) (λ ixs x. fitted (place_of e) ixs k) (λ ixs x c. give (c, both_sure (all_have_sets ixs) (argument_suits var d.ty.ty.var x c))) (λ p. give (with_local b d.slot p))
