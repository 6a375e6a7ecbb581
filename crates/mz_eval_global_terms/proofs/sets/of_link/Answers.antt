use Rattle.std.proofs.Common.{◌∙◌, ◌∷◌, [], length, ap, arith}
use Rattle.mz_core.specs.declared.types.Base.TheVariants as base
use Rattle.mz_globals.specs.declared.global.Global.TheVariants as global
use Rattle.mz_globals.specs.Table.{line_of}
use Rattle.mz_meaning.specs.Operations.{size_of}
use Rattle.mz_symbol_rows.proofs.GoingOn.{goes_both}
use Rattle.mz_eval_cells.specs.Views.{cell_of}
use Rattle.glob_nodes.specs.Rows.{row_cost}
use Rattle.glob_nodes.specs.Sets.{set_value}
use Rattle.glob_sets.specs.Arrays.{truths_value}
use Rattle.mz_eval_global_terms.proofs.CallLaws.{call_of_two}
use Rattle.mz_eval_global_terms.proofs.CostLaws.{room_for}
use Rattle.mz_eval_global_terms.proofs.sets.of_link.Goals as goal

pub returns-clause-goes : goal.returns-clause-goes
unfolding line_of
returns-clause-goes c =
    room_for global.Link (c.args.a.now ∷ c.args.b.now ∷ []) (size_of (cell_of c.args.a.now) ∷ length c.in_ok-bs.bs.items.items ∷ []) 8 _ _ _ (omega arith)
    (ap (λ m. row_cost global.Link (size_of (cell_of c.args.a.now) ∷ m ∷ [])) c.in_ok-bs.ensures.truths.size)
    (goes_both 8 0 _ _ _ c.set_in.ensures.goes c.truths_in.ensures.goes) c.link.ensures.goes

pub returns-in_err-id-clause-goes : goal.returns-in_err-id-clause-goes
unfolding line_of
returns-in_err-id-clause-goes c =
    room_for global.Link (c.args.a.now ∷ c.args.b.now ∷ []) (size_of (cell_of c.args.a.now) ∷ length c.in_ok-bs.bs.items.items ∷ []) 8 _ _ _ (omega arith)
    (ap (λ m. row_cost global.Link (size_of (cell_of c.args.a.now) ∷ m ∷ [])) c.in_ok-bs.ensures.truths.size)
    (goes_both 8 0 _ _ _ c.set_in.ensures.goes c.truths_in.ensures.goes) c.link.ensures.goes

pub returns-clause-call : goal.returns-clause-call
returns-clause-call c =
    call_of_two base.Bool global.Link c.args.a.now c.args.b.now _ _ _
    (λ r. set_value r c.in_ok-s.s) (λ r. truths_value r c.in_ok-bs.bs) c.in_ok-id.id
    c.link.ensures.goes.back
    (λ r h. c.in_ok-s.ensures.set.same r (c.truths_in.ensures.goes.back r h) ∙ c.in_ok-bs.ensures.truths.same r h)
    (λ r h. c.in_ok-s.ensures.set.given r (c.truths_in.ensures.goes.back r h)) c.in_ok-bs.ensures.truths.given
    c.in_ok-id.ensures.row
