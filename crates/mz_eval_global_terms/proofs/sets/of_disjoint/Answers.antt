use Rattle.std.proofs.Common.{◌∙◌, ◌∷◌, [], length, ap, arith}
use Rattle.mz_core.specs.declared.types.Base.TheVariants as base
use Rattle.mz_globals.specs.declared.global.Global.TheVariants as global
use Rattle.mz_symbol_rows.proofs.GoingOn.{goes_both}
use Rattle.glob_nodes.specs.Rows.{row_cost}
use Rattle.glob_sets.specs.Arrays.{sets_value}
use Rattle.mz_eval_global_terms.proofs.CallLaws.{call_of_one}
use Rattle.mz_eval_global_terms.proofs.CostLaws.{room_for}
use Rattle.mz_eval_global_terms.proofs.sets.of_disjoint.Goals as goal

pub returns-clause-goes : goal.returns-clause-goes
returns-clause-goes c =
    room_for global.Disjoint (c.args.a.now ∷ []) (length c.in_ok-ss.ss.items.items ∷ []) 0 _ _ _ (omega arith)
    (ap (λ m. row_cost global.Disjoint (m ∷ [])) c.in_ok-ss.ensures.sets.size)
    (goes_both 0 0 _ _ _ c.no_element.ensures.goes c.sets_in.ensures.goes) c.all_disjoint.ensures.goes

pub returns-in_err-id-clause-goes : goal.returns-in_err-id-clause-goes
returns-in_err-id-clause-goes c =
    room_for global.Disjoint (c.args.a.now ∷ []) (length c.in_ok-ss.ss.items.items ∷ []) 0 _ _ _ (omega arith)
    (ap (λ m. row_cost global.Disjoint (m ∷ [])) c.in_ok-ss.ensures.sets.size)
    (goes_both 0 0 _ _ _ c.no_element.ensures.goes c.sets_in.ensures.goes) c.all_disjoint.ensures.goes

pub returns-clause-call : goal.returns-clause-call
returns-clause-call c =
    call_of_one base.Bool global.Disjoint c.args.a.now _ _ _
    (λ r. sets_value r c.in_ok-ss.ss) c.in_ok-id.id
    c.all_disjoint.ensures.goes.back
    (λ r h. c.in_ok-none.ensures.same r (c.sets_in.ensures.goes.back r h) ∙ c.in_ok-ss.ensures.sets.same r h)
    c.in_ok-ss.ensures.sets.given
    c.in_ok-id.ensures.row
