use Rattle.std.proofs.Common.{◌∙◌, ◌∷◌, [], length, ap, arith}
use Rattle.mz_core.specs.declared.types.Base.TheVariants as base
use Rattle.mz_globals.specs.declared.global.Global.TheVariants as global
use Rattle.mz_meaning.specs.Operations.{size_of}
use Rattle.mz_symbol_rows.proofs.GoingOn.{goes_both}
use Rattle.mz_eval_cells.specs.Views.{cell_of}
use Rattle.glob_nodes.specs.Arguments.{array_value}
use Rattle.glob_nodes.specs.Rows.{row_cost}
use Rattle.glob_sets.specs.Arrays.{sets_value}
use Rattle.mz_eval_global_terms.proofs.CallLaws.{call_of_two}
use Rattle.mz_eval_global_terms.proofs.CostLaws.{room_for}
use Rattle.mz_eval_global_terms.proofs.sets.of_channel.Goals as goal

pub returns-clause-goes : goal.returns-clause-goes
returns-clause-goes c =
    room_for global.Channel (c.args.a.now ∷ c.args.b.now ∷ []) (length c.in_ok-xs.xs.items.items ∷ length c.in_ok-ys.ys.items.items ∷ []) 0 _ _ _ (omega arith)
    (ap (λ m. row_cost global.Channel (m ∷ length c.in_ok-ys.ys.items.items ∷ [])) c.in_ok-xs.ensures.array.size ∙ ap (λ m. row_cost global.Channel (size_of (cell_of c.args.a.now) ∷ m ∷ [])) c.in_ok-ys.ensures.sets.size)
    (goes_both 0 0 _ _ _ c.numbers_in.ensures.goes c.sets_in.ensures.goes) c.channel.ensures.goes

pub returns-in_err-id-clause-goes : goal.returns-in_err-id-clause-goes
returns-in_err-id-clause-goes c =
    room_for global.Channel (c.args.a.now ∷ c.args.b.now ∷ []) (length c.in_ok-xs.xs.items.items ∷ length c.in_ok-ys.ys.items.items ∷ []) 0 _ _ _ (omega arith)
    (ap (λ m. row_cost global.Channel (m ∷ length c.in_ok-ys.ys.items.items ∷ [])) c.in_ok-xs.ensures.array.size ∙ ap (λ m. row_cost global.Channel (size_of (cell_of c.args.a.now) ∷ m ∷ [])) c.in_ok-ys.ensures.sets.size)
    (goes_both 0 0 _ _ _ c.numbers_in.ensures.goes c.sets_in.ensures.goes) c.channel.ensures.goes

pub returns-clause-call : goal.returns-clause-call
returns-clause-call c =
    call_of_two base.Bool global.Channel c.args.a.now c.args.b.now _ _ _
    (λ r. array_value r c.in_ok-xs.xs) (λ r. sets_value r c.in_ok-ys.ys) c.in_ok-id.id
    c.channel.ensures.goes.back
    (λ r h. c.in_ok-xs.ensures.array.same r (c.sets_in.ensures.goes.back r h) ∙ c.in_ok-ys.ensures.sets.same r h)
    (λ r h. c.in_ok-xs.ensures.array.given r (c.sets_in.ensures.goes.back r h)) c.in_ok-ys.ensures.sets.given
    c.in_ok-id.ensures.row
