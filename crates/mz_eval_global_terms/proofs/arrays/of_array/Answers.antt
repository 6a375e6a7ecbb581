use Rattle.std.proofs.Common.{◌∷◌, [], length, ap, arith}
use Rattle.mz_core.specs.declared.types.Base.TheVariants as base
use Rattle.glob_nodes.specs.Arguments.{array_value}
use Rattle.glob_nodes.specs.Rows.{row_cost}
use Rattle.mz_eval_global_terms.proofs.CallLaws.{call_of_one}
use Rattle.mz_eval_global_terms.proofs.CostLaws.{room_for}
use Rattle.mz_eval_global_terms.proofs.arrays.of_array.Goals as goal

pub returns-clause-goes : goal.returns-clause-goes
returns-clause-goes c =
    room_for c.args.g (c.args.a.now ∷ []) (length c.in_ok-xs.xs.items.items ∷ []) 0 _ _ _ (omega arith)
    (ap (λ m. row_cost c.args.g (m ∷ [])) c.in_ok-xs.ensures.array.size)
    c.numbers_in.ensures.goes c.over_one.ensures.goes

pub returns-in_err-id-clause-goes : goal.returns-in_err-id-clause-goes
returns-in_err-id-clause-goes c =
    room_for c.args.g (c.args.a.now ∷ []) (length c.in_ok-xs.xs.items.items ∷ []) 0 _ _ _ (omega arith)
    (ap (λ m. row_cost c.args.g (m ∷ [])) c.in_ok-xs.ensures.array.size)
    c.numbers_in.ensures.goes c.over_one.ensures.goes

pub returns-clause-call : goal.returns-clause-call
returns-clause-call c =
    call_of_one base.Bool c.args.g c.args.a.now _ _ _
    (λ r. array_value r c.in_ok-xs.xs) c.in_ok-id.id
    c.over_one.ensures.goes.back
    (λ r h. c.in_ok-xs.ensures.array.same r h)
    c.in_ok-xs.ensures.array.given
    c.in_ok-id.ensures.row
