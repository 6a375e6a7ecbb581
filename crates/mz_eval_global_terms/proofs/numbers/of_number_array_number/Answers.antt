use Rattle.std.proofs.Common.{◌∙◌, ◌∷◌, [], length, ap, arith}
use Rattle.mz_core.specs.declared.types.Base.TheVariants as base
use Rattle.mz_meaning.specs.Operations.{size_of}
use Rattle.mz_symbol_rows.proofs.GoingOn.{goes_both}
use Rattle.mz_eval_cells.specs.Views.{cell_of}
use Rattle.glob_nodes.specs.Arguments.{array_value, number_value}
use Rattle.glob_nodes.specs.Rows.{row_cost}
use Rattle.mz_eval_global_terms.proofs.CallLaws.{call_of_three}
use Rattle.mz_eval_global_terms.proofs.CostLaws.{room_for}
use Rattle.mz_eval_global_terms.proofs.numbers.of_number_array_number.Goals as goal

pub returns-clause-goes : goal.returns-clause-goes
returns-clause-goes c =
    room_for c.args.g (c.args.a.now ∷ c.args.b.now ∷ c.args.c.now ∷ []) (size_of (cell_of c.args.a.now) ∷ length c.in_ok-xs.xs.items.items ∷ size_of (cell_of c.args.c.now) ∷ []) 16 _ _ _ (omega arith)
    (ap (λ m. row_cost c.args.g (size_of (cell_of c.args.a.now) ∷ m ∷ size_of (cell_of c.args.c.now) ∷ [])) c.in_ok-xs.ensures.array.size)
    (goes_both 16 0 _ _ _ (goes_both 8 8 _ _ _ c.number_in.ensures.goes c.number_in-2.ensures.goes) c.numbers_in.ensures.goes) (c.over_number_array_number.ensures.goes (size_of (cell_of c.args.a.now)) (size_of (cell_of c.args.c.now)))

pub returns-in_err-id-clause-goes : goal.returns-in_err-id-clause-goes
returns-in_err-id-clause-goes c =
    room_for c.args.g (c.args.a.now ∷ c.args.b.now ∷ c.args.c.now ∷ []) (size_of (cell_of c.args.a.now) ∷ length c.in_ok-xs.xs.items.items ∷ size_of (cell_of c.args.c.now) ∷ []) 16 _ _ _ (omega arith)
    (ap (λ m. row_cost c.args.g (size_of (cell_of c.args.a.now) ∷ m ∷ size_of (cell_of c.args.c.now) ∷ [])) c.in_ok-xs.ensures.array.size)
    (goes_both 16 0 _ _ _ (goes_both 8 8 _ _ _ c.number_in.ensures.goes c.number_in-2.ensures.goes) c.numbers_in.ensures.goes) (c.over_number_array_number.ensures.goes (size_of (cell_of c.args.a.now)) (size_of (cell_of c.args.c.now)))

pub returns-clause-call : goal.returns-clause-call
returns-clause-call c =
    call_of_three base.Bool c.args.g c.args.a.now c.args.b.now c.args.c.now _ _ _
    (λ r. number_value r c.in_ok-m.m) (λ r. array_value r c.in_ok-xs.xs) (λ r. number_value r c.in_ok-n.n) c.in_ok-id.id
    (c.over_number_array_number.ensures.goes (size_of (cell_of c.args.a.now)) (size_of (cell_of c.args.c.now))).back
    (λ r h. c.in_ok-m.ensures.number.same r (c.number_in-2.ensures.goes.back r (c.numbers_in.ensures.goes.back r h)) ∙ c.in_ok-n.ensures.number.same r (c.numbers_in.ensures.goes.back r h) ∙ c.in_ok-xs.ensures.array.same r h)
    (λ r h. c.in_ok-m.ensures.number.given r (c.number_in-2.ensures.goes.back r (c.numbers_in.ensures.goes.back r h))) c.in_ok-xs.ensures.array.given (λ r h. c.in_ok-n.ensures.number.given r (c.numbers_in.ensures.goes.back r h))
    c.in_ok-id.ensures.row
