use Rattle.std.proofs.Common.{◌∙◌, ◌∷◌, [], length, ap, arith}
use Rattle.mz_core.specs.declared.types.Base.TheVariants as base
use Rattle.mz_globals.specs.declared.global.Global.TheVariants as global
use Rattle.mz_globals.specs.Table.{line_of}
use Rattle.mz_meaning.specs.Operations.{size_of}
use Rattle.mz_symbol_rows.proofs.GoingOn.{goes_both}
use Rattle.mz_eval_cells.specs.Views.{cell_of}
use Rattle.glob_nodes.specs.Arguments.{array_value, number_value}
use Rattle.glob_nodes.specs.Rows.{row_cost}
use Rattle.glob_nodes.specs.Sets.{set_value}
use Rattle.mz_eval_global_terms.proofs.CallLaws.{call_of_three}
use Rattle.mz_eval_global_terms.proofs.CostLaws.{room_for}
use Rattle.mz_eval_global_terms.proofs.sets.of_among.Goals as goal

pub returns-clause-goes : goal.returns-clause-goes
unfolding line_of
returns-clause-goes c =
    room_for global.Among (c.args.a.now ∷ c.args.b.now ∷ c.args.c.now ∷ []) (size_of (cell_of c.args.a.now) ∷ length c.in_ok-xs.xs.items.items ∷ size_of (cell_of c.args.c.now) ∷ []) 16 _ _ _ (omega arith)
    (ap (λ m. row_cost global.Among (size_of (cell_of c.args.a.now) ∷ m ∷ size_of (cell_of c.args.c.now) ∷ [])) c.in_ok-xs.ensures.array.size)
    (goes_both 16 0 _ _ _ (goes_both 8 8 _ _ _ c.number_in.ensures.goes c.set_in.ensures.goes) c.numbers_in.ensures.goes) c.among.ensures.goes

pub returns-in_err-id-clause-goes : goal.returns-in_err-id-clause-goes
unfolding line_of
returns-in_err-id-clause-goes c =
    room_for global.Among (c.args.a.now ∷ c.args.b.now ∷ c.args.c.now ∷ []) (size_of (cell_of c.args.a.now) ∷ length c.in_ok-xs.xs.items.items ∷ size_of (cell_of c.args.c.now) ∷ []) 16 _ _ _ (omega arith)
    (ap (λ m. row_cost global.Among (size_of (cell_of c.args.a.now) ∷ m ∷ size_of (cell_of c.args.c.now) ∷ [])) c.in_ok-xs.ensures.array.size)
    (goes_both 16 0 _ _ _ (goes_both 8 8 _ _ _ c.number_in.ensures.goes c.set_in.ensures.goes) c.numbers_in.ensures.goes) c.among.ensures.goes

pub returns-clause-call : goal.returns-clause-call
returns-clause-call c =
    call_of_three base.Bool global.Among c.args.a.now c.args.b.now c.args.c.now _ _ _
    (λ r. number_value r c.in_ok-n.n) (λ r. array_value r c.in_ok-xs.xs) (λ r. set_value r c.in_ok-v.v) c.in_ok-id.id
    c.among.ensures.goes.back
    (λ r h. c.in_ok-n.ensures.number.same r (c.set_in.ensures.goes.back r (c.numbers_in.ensures.goes.back r h)) ∙ c.in_ok-v.ensures.set.same r (c.numbers_in.ensures.goes.back r h) ∙ c.in_ok-xs.ensures.array.same r h)
    (λ r h. c.in_ok-n.ensures.number.given r (c.set_in.ensures.goes.back r (c.numbers_in.ensures.goes.back r h))) c.in_ok-xs.ensures.array.given (λ r h. c.in_ok-v.ensures.set.given r (c.numbers_in.ensures.goes.back r h))
    c.in_ok-id.ensures.row
