use Rattle.std.proofs.Common.{◌∙◌, ◌∷◌, [], length, ap, arith}
use Rattle.mz_core.specs.declared.types.Base.TheVariants as base
use Rattle.mz_globals.specs.declared.global.Global.TheVariants as global
use Rattle.mz_globals.specs.Table.{line_of}
use Rattle.mz_meaning.specs.Operations.{size_of}
use Rattle.mz_symbol_rows.proofs.GoingOn.{goes_both}
use Rattle.mz_eval_cells.specs.Views.{cell_of}
use Rattle.glob_nodes.specs.Rows.{row_cost}
use Rattle.glob_nodes.specs.Sets.{set_value}
use Rattle.glob_sets.specs.Arrays.{sets_value}
use Rattle.mz_eval_global_terms.proofs.CallLaws.{call_of_two}
use Rattle.mz_eval_global_terms.proofs.CostLaws.{room_for}
use Rattle.mz_eval_global_terms.proofs.sets.of_partition.Goals as goal

pub returns-clause-goes : goal.returns-clause-goes
unfolding line_of
returns-clause-goes c =
    room_for global.Partition (c.args.a.now ∷ c.args.b.now ∷ []) (length c.in_ok-ss.ss.items.items ∷ size_of (cell_of c.args.b.now) ∷ []) 8 _ _ _ (omega arith)
    (ap (λ m. row_cost global.Partition (m ∷ size_of (cell_of c.args.b.now) ∷ [])) c.in_ok-ss.ensures.sets.size)
    (goes_both 8 0 _ _ _ (goes_both 0 8 _ _ _ c.no_element.ensures.goes c.set_in.ensures.goes) c.sets_in.ensures.goes) c.partition_set.ensures.goes

pub returns-in_err-id-clause-goes : goal.returns-in_err-id-clause-goes
unfolding line_of
returns-in_err-id-clause-goes c =
    room_for global.Partition (c.args.a.now ∷ c.args.b.now ∷ []) (length c.in_ok-ss.ss.items.items ∷ size_of (cell_of c.args.b.now) ∷ []) 8 _ _ _ (omega arith)
    (ap (λ m. row_cost global.Partition (m ∷ size_of (cell_of c.args.b.now) ∷ [])) c.in_ok-ss.ensures.sets.size)
    (goes_both 8 0 _ _ _ (goes_both 0 8 _ _ _ c.no_element.ensures.goes c.set_in.ensures.goes) c.sets_in.ensures.goes) c.partition_set.ensures.goes

pub returns-clause-call : goal.returns-clause-call
returns-clause-call c =
    call_of_two base.Bool global.Partition c.args.a.now c.args.b.now _ _ _
    (λ r. sets_value r c.in_ok-ss.ss) (λ r. set_value r c.in_ok-u.u) c.in_ok-id.id
    c.partition_set.ensures.goes.back
    (λ r h. c.in_ok-none.ensures.same r (c.set_in.ensures.goes.back r (c.sets_in.ensures.goes.back r h)) ∙ c.in_ok-u.ensures.set.same r (c.sets_in.ensures.goes.back r h) ∙ c.in_ok-ss.ensures.sets.same r h)
    c.in_ok-ss.ensures.sets.given (λ r h. c.in_ok-u.ensures.set.given r (c.sets_in.ensures.goes.back r h))
    c.in_ok-id.ensures.row
