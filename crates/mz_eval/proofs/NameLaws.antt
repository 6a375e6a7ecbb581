-- Names that stand as they are.
use Rattle.std.proofs.Common.{◌≡◌, ◌∙◌, ℕ, ◌-◌, [], true, refl, ap}
use Rattle.mz_base.specs.declared.fault.Span.{Span}
use Rattle.mz_core.specs.declared.tree.Core.{Core}
use Rattle.mz_core.specs.declared.tree.CoreForm.TheOpen as open_form
use Rattle.mz_core.specs.declared.tree.CoreForm.TheViews.{out-CoreForm}
use Rattle.mz_core.specs.Types.{PlainType, plain_type}
use Rattle.mz_core.specs.Tree.{root_coercions}
use Rattle.mz_core.specs.TreeViews.{tree, form_layer, inner_in, coercions_in}
use Rattle.mz_core.proofs.TreeLaws.{inner_tree_is, root_coercions_is}
use Rattle.mz_meaning.specs.Runs.{State, Answer, Out, Stopped, give, spend, then_do}
use Rattle.mz_meaning.specs.Cells.{Cell, Env, typed}
use Rattle.mz_meaning.specs.Contexts.{Context, within_links}
use Rattle.mz_meaning.specs.Forms.{World, coerced_by, done}
use Rattle.mz_meaning.specs.Evaluation.{eval}
use Rattle.mz_eval.specs.Nodes.{node_stamped}
use Rattle.mz_eval.proofs.OneLevel.{eval_more, finish}

-- a cell that its type leaves
name_ends : (a : Answer (Unit {0})) (w : World) (at : Span) (t : PlainType) (c : Cell) → typed w.mode true t c ≡ c → then_do (then_do (then_do a (λ _. give c)) (λ x. give (typed w.mode true t x))) (λ x. coerced_by w at [] x) ≡ then_do a (λ _. give c)
name_ends (Out u s) w at t c h = ap (λ x. Out x s) h
name_ends (Stopped f) w at t c h = refl

pub named : (w : World) (left : ℕ) (ctx : Context) (e : Core) (slot : ℕ) (env : Env) (c : Cell) (s : State) → (left ≡ 0 → ⊥) → out-CoreForm e.form ≡ open_form.Slot slot → env slot ≡ c → typed w.mode true (plain_type e.ty) c ≡ c → eval w left ctx (tree e) env s ≡ done w e.span c s
named w left ctx e slot env c s h f g t =
    eval_more w left ctx e e env s h (inner_tree_is e ∙ ap (inner_in (tree e)) f)
    ∙ ap (λ l. then_do (node_stamped w (eval w (left - 1)) (within_links ctx (root_coercions (tree e))) (form_layer l) e.span (plain_type e.ty) env s) (finish w e e)) f
    ∙ ap (λ ls. then_do (then_do (done w e.span (env slot) s) (λ x. give (typed w.mode true (plain_type e.ty) x))) (λ x. coerced_by w e.span ls x)) (root_coercions_is e ∙ ap (coercions_in (plain_type e.ty)) f)
    ∙ ap (λ x. then_do (then_do (done w e.span x s) (λ y. give (typed w.mode true (plain_type e.ty) y))) (λ y. coerced_by w e.span [] y)) g
    ∙ name_ends (spend w.budget e.span 1 s) w e.span (plain_type e.ty) c t
