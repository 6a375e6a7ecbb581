use Rattle.std.proofs.Common.{◌∙◌, ◌∷◌, [], length, ap, arith}
use Rattle.mz_core.specs.declared.types.Base.TheVariants as base
use Rattle.mz_meaning.specs.Operations.{size_of}
use Rattle.mz_symbol_rows.proofs.GoingOn.{goes_both}
use Rattle.mz_eval_cells.specs.Views.{cell_of}
use Rattle.glob_nodes.specs.Arguments.{array_value}
use Rattle.glob_nodes.specs.Rows.{row_cost}
use Rattle.mz_eval_global_terms.proofs.CallLaws.{call_of_three}
use Rattle.mz_eval_global_terms.proofs.CostLaws.{room_for}
use Rattle.mz_eval_global_terms.proofs.arrays.of_three_arrays.Goals as goal

pub returns-clause-goes : goal.returns-clause-goes
returns-clause-goes c =
    room_for c.args.g (c.args.a.now ∷ c.args.b.now ∷ c.args.c.now ∷ []) (length c.in_ok-x.x.items.items ∷ length c.in_ok-p.p.0.items.items ∷ length c.in_ok-p.p.1.items.items ∷ []) 0 _ _ _ (omega arith)
    (ap (λ m. row_cost c.args.g (m ∷ length c.in_ok-p.p.0.items.items ∷ length c.in_ok-p.p.1.items.items ∷ [])) c.in_ok-x.ensures.array.size ∙ ap (λ m. row_cost c.args.g (size_of (cell_of c.args.a.now) ∷ m ∷ length c.in_ok-p.p.1.items.items ∷ [])) c.in_ok-p.ensures.first.size ∙ ap (λ m. row_cost c.args.g (size_of (cell_of c.args.a.now) ∷ size_of (cell_of c.args.b.now) ∷ m ∷ [])) c.in_ok-p.ensures.second.size)
    (goes_both 0 0 _ _ _ c.numbers_in.ensures.goes c.two_in.ensures.goes) c.over_three.ensures.goes

pub returns-in_err-id-clause-goes : goal.returns-in_err-id-clause-goes
returns-in_err-id-clause-goes c =
    room_for c.args.g (c.args.a.now ∷ c.args.b.now ∷ c.args.c.now ∷ []) (length c.in_ok-x.x.items.items ∷ length c.in_ok-p.p.0.items.items ∷ length c.in_ok-p.p.1.items.items ∷ []) 0 _ _ _ (omega arith)
    (ap (λ m. row_cost c.args.g (m ∷ length c.in_ok-p.p.0.items.items ∷ length c.in_ok-p.p.1.items.items ∷ [])) c.in_ok-x.ensures.array.size ∙ ap (λ m. row_cost c.args.g (size_of (cell_of c.args.a.now) ∷ m ∷ length c.in_ok-p.p.1.items.items ∷ [])) c.in_ok-p.ensures.first.size ∙ ap (λ m. row_cost c.args.g (size_of (cell_of c.args.a.now) ∷ size_of (cell_of c.args.b.now) ∷ m ∷ [])) c.in_ok-p.ensures.second.size)
    (goes_both 0 0 _ _ _ c.numbers_in.ensures.goes c.two_in.ensures.goes) c.over_three.ensures.goes

pub returns-clause-call : goal.returns-clause-call
returns-clause-call c =
    call_of_three base.Bool c.args.g c.args.a.now c.args.b.now c.args.c.now _ _ _
    (λ r. array_value r c.in_ok-x.x) (λ r. array_value r c.in_ok-p.p.0) (λ r. array_value r c.in_ok-p.p.1) c.in_ok-id.id
    c.over_three.ensures.goes.back
    (λ r h. c.in_ok-x.ensures.array.same r (c.two_in.ensures.goes.back r h) ∙ c.in_ok-p.ensures.first.same r h)
    (λ r h. c.in_ok-x.ensures.array.given r (c.two_in.ensures.goes.back r h)) c.in_ok-p.ensures.first.given c.in_ok-p.ensures.second.given
    c.in_ok-id.ensures.row
