use Rattle.std.proofs.Common.{◌∙◌, ◌∷◌, [], length, ap, arith, sym}
use Rattle.mz_core.specs.declared.types.Base.TheVariants as base
use Rattle.mz_globals.specs.declared.global.Global.TheVariants as global
use Rattle.mz_meaning.specs.Cells.{held}
use Rattle.mz_meaning.specs.Operations.{size_of}
use Rattle.mz_eval_cells.specs.Views.{cell_of}
use Rattle.glob_nodes.specs.Arguments.{array_value}
use Rattle.glob_nodes.specs.Rows.{row_cost}
use Rattle.glob_graph.specs.Tables.{table_value}
use Rattle.mz_eval_global_terms.proofs.CallLaws.{call_of_two}
use Rattle.mz_eval_global_terms.proofs.CostLaws.{room_for}
use Rattle.mz_eval_global_terms.proofs.tables.of_rows.Goals as goal

pub returns-clause-goes : goal.returns-clause-goes
returns-clause-goes c =
    room_for global.Table (c.args.a.now ∷ c.args.b.now ∷ []) (length c.in_ok-xs.xs.items.items ∷ length c.in_ok-t.t.cells.items ∷ []) 0 _ _ _ (omega arith)
    (ap (λ m. row_cost global.Table (m ∷ length c.in_ok-t.t.cells.items ∷ [])) c.in_ok-xs.ensures.array.size ∙ ap (λ m. row_cost global.Table (size_of (cell_of c.args.a.now) ∷ m ∷ [])) c.in_ok-t.ensures.size)
    c.numbers_in.ensures.goes c.table.ensures.goes

pub returns-in_err-id-clause-goes : goal.returns-in_err-id-clause-goes
returns-in_err-id-clause-goes c =
    room_for global.Table (c.args.a.now ∷ c.args.b.now ∷ []) (length c.in_ok-xs.xs.items.items ∷ length c.in_ok-t.t.cells.items ∷ []) 0 _ _ _ (omega arith)
    (ap (λ m. row_cost global.Table (m ∷ length c.in_ok-t.t.cells.items ∷ [])) c.in_ok-xs.ensures.array.size ∙ ap (λ m. row_cost global.Table (size_of (cell_of c.args.a.now) ∷ m ∷ [])) c.in_ok-t.ensures.size)
    c.numbers_in.ensures.goes c.table.ensures.goes

pub returns-clause-call : goal.returns-clause-call
returns-clause-call c =
    call_of_two base.Bool global.Table c.args.a.now c.args.b.now _ _ _
    (λ r. array_value r c.in_ok-xs.xs) (λ r. table_value c.in_ok-t.t) c.in_ok-id.id
    c.table.ensures.goes.back
    (λ r h. c.in_ok-xs.ensures.array.same r h)
    c.in_ok-xs.ensures.array.given (λ r h. ap (held r.mode) (sym (c.in_ok-t.ensures.value r)))
    c.in_ok-id.ensures.row
