use Rattle.std.proofs.Common.{◌∙◌, ◌∷◌, [], length, ap, arith}
use Rattle.mz_core.specs.declared.types.Base.TheVariants as base
use Rattle.mz_meaning.specs.Operations.{size_of}
use Rattle.mz_symbol_rows.proofs.GoingOn.{goes_both}
use Rattle.mz_eval_cells.specs.Views.{cell_of}
use Rattle.glob_nodes.specs.Arguments.{array_value, number_value}
use Rattle.glob_nodes.specs.Rows.{row_cost}
use Rattle.mz_eval_global_terms.proofs.CallLaws.{call_of_two}
use Rattle.mz_eval_global_terms.proofs.CostLaws.{room_for}
use Rattle.mz_eval_global_terms.proofs.numbers.of_number_array.Goals as goal

pub returns-clause-goes : goal.returns-clause-goes
returns-clause-goes c =
    room_for c.args.g (c.args.a.now ∷ c.args.b.now ∷ []) (size_of (cell_of c.args.a.now) ∷ length c.in_ok-xs.xs.items.items ∷ []) 8 _ _ _ (omega arith)
    (ap (λ m. row_cost c.args.g (size_of (cell_of c.args.a.now) ∷ m ∷ [])) c.in_ok-xs.ensures.array.size)
    (goes_both 8 0 _ _ _ c.number_in.ensures.goes c.numbers_in.ensures.goes) (c.over_number_array.ensures.goes (size_of (cell_of c.args.a.now)))

pub returns-in_err-id-clause-goes : goal.returns-in_err-id-clause-goes
returns-in_err-id-clause-goes c =
    room_for c.args.g (c.args.a.now ∷ c.args.b.now ∷ []) (size_of (cell_of c.args.a.now) ∷ length c.in_ok-xs.xs.items.items ∷ []) 8 _ _ _ (omega arith)
    (ap (λ m. row_cost c.args.g (size_of (cell_of c.args.a.now) ∷ m ∷ [])) c.in_ok-xs.ensures.array.size)
    (goes_both 8 0 _ _ _ c.number_in.ensures.goes c.numbers_in.ensures.goes) (c.over_number_array.ensures.goes (size_of (cell_of c.args.a.now)))

pub returns-clause-call : goal.returns-clause-call
returns-clause-call c =
    call_of_two base.Bool c.args.g c.args.a.now c.args.b.now _ _ _
    (λ r. number_value r c.in_ok-m.m) (λ r. array_value r c.in_ok-xs.xs) c.in_ok-id.id
    (c.over_number_array.ensures.goes (size_of (cell_of c.args.a.now))).back
    (λ r h. c.in_ok-m.ensures.number.same r (c.numbers_in.ensures.goes.back r h) ∙ c.in_ok-xs.ensures.array.same r h)
    (λ r h. c.in_ok-m.ensures.number.given r (c.numbers_in.ensures.goes.back r h)) c.in_ok-xs.ensures.array.given
    c.in_ok-id.ensures.row
