-- Calls that have their bodies' cells.
use Rattle.std.proofs.Common.{◌≡◌, ◌∙◌, [], None, Some, refl, ap}
use Rattle.mz_base.specs.declared.fault.Span.{Span}
use Rattle.mz_core.specs.Program.{Function}
use Rattle.mz_core.specs.Tree.{place_of}
use Rattle.mz_meaning.specs.Runs.{State, then_do}
use Rattle.mz_meaning.specs.Cells.{Cell, Par, Env, Sure, sure, length_of, or_zero}
use Rattle.mz_meaning.specs.Arrays.{Anything, fitted}
use Rattle.mz_meaning.specs.Contexts.{Context}
use Rattle.mz_meaning.specs.Forms.{World, Eval, done}
use Rattle.mz_meaning.specs.Lets.{want, index_wants}
use Rattle.mz_operations.specs.Views as views
use Rattle.mz_eval_cells.specs.declared.types.Item.{Item}
use Rattle.mz_eval_cells.specs.declared.types.Item.TheVariants as item
use Rattle.mz_eval_cells.specs.Views.{item_content}
use Rattle.mz_eval_declared.proofs.Taking.{none_weighed}
use Rattle.mz_eval.specs.Calls.{ended_call, result_in}

-- what is no array has no elements
no_elements : (i : Item) → or_zero (length_of (Par (Some (item_content i)))) ≡ 0
unfolding views.as_items
no_elements (item.Bool b) = refl
no_elements (item.Int n) = refl
no_elements (item.Enum e k) = refl
no_elements item.Absent = refl
no_elements (item.Set s) = refl
no_elements (item.Text t) = refl

pub own_result : (w : World) (go : Eval) (ctx : Context) (f : Function) (at : Span) (env : Env) (g : Sure) (i : Item) (s : State) → f.result.index ≡ [] → f.result.set ≡ None → g ≡ sure →
    result_in w go ctx f at g env (Par (Some (item_content i))) s ≡ done w at (Par (Some (item_content i))) s
own_result w go ctx f at env g i s p q e =
    let c : Cell = Par (Some (item_content i)) in
    ap (λ ix. then_do (index_wants go ctx ix env s) (λ ixs t. then_do (want go ctx f.result.set env t) (λ x u. then_do (fitted (place_of f.body) ixs c u) (λ r. ended_call w f at g ixs x r)))) p
    ∙ ap (λ st. then_do (want go ctx st env s) (λ x u. then_do (fitted (place_of f.body) [] c u) (λ r. ended_call w f at g [] x r))) q
    ∙ ap (λ h. ended_call w f at h [] Anything c s) e
    ∙ ap (λ a. then_do a (λ _. done w at c)) (none_weighed w.mode (or_zero (length_of c)) s (no_elements i))
