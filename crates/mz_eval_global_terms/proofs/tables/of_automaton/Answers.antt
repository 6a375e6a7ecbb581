use Rattle.std.proofs.Common.{◌∙◌, ◌∷◌, [], length, nat_abs, Some, ap, sym, arith}
use Rattle.mz_value.specs.Contents as values
use Rattle.mz_core.specs.declared.types.Base.TheVariants as base
use Rattle.mz_globals.specs.declared.global.Global.TheVariants as global
use Rattle.mz_globals.specs.Table.{line_of}
use Rattle.mz_meaning.specs.Cells.{held}
use Rattle.mz_meaning.specs.Operations.{size_of}
use Rattle.mz_symbol_rows.proofs.GoingOn.{goes_both}
use Rattle.mz_eval_cells.specs.Views.{cell_of}
use Rattle.glob_nodes.specs.Arguments.{array_value}
use Rattle.glob_nodes.specs.Rows.{row_cost}
use Rattle.glob_nodes.specs.Sets.{set_value}
use Rattle.glob_graph.specs.Tables.{table_value}
use Rattle.mz_eval_global_terms.proofs.CallLaws.{call_of_six}
use Rattle.mz_eval_global_terms.proofs.CostLaws.{room_for}
use Rattle.mz_eval_global_terms.proofs.tables.of_automaton.Goals as goal

pub returns-clause-goes : goal.returns-clause-goes
unfolding line_of
returns-clause-goes c =
    room_for global.Regular (c.args.a.now ∷ c.args.b.now ∷ c.args.c.now ∷ c.args.d.now ∷ c.args.e.now ∷ c.args.f.now ∷ []) (length c.in_ok-xs.xs.items.items ∷ nat_abs c.in_ok-m.m.states ∷ nat_abs c.in_ok-m.m.letters ∷ 0 ∷ 0 ∷ 0 ∷ []) 8 _ _ _ (omega arith)
    (ap (λ m. row_cost global.Regular (m ∷ nat_abs c.in_ok-m.m.states ∷ nat_abs c.in_ok-m.m.letters ∷ 0 ∷ 0 ∷ 0 ∷ [])) c.in_ok-xs.ensures.array.size
    ∙ ap (λ m. row_cost global.Regular (size_of (cell_of c.args.a.now) ∷ m ∷ nat_abs c.in_ok-m.m.letters ∷ 0 ∷ 0 ∷ 0 ∷ [])) c.in_ok-m.ensures.state_count
    ∙ ap (λ m. row_cost global.Regular (size_of (cell_of c.args.a.now) ∷ size_of (cell_of c.args.b.now) ∷ m ∷ 0 ∷ 0 ∷ 0 ∷ [])) c.in_ok-m.ensures.letter_count)
    (goes_both 8 0 _ _ _ c.set_in.ensures.goes c.numbers_in.ensures.goes) c.regular.ensures.goes

pub returns-in_err-id-clause-goes : goal.returns-in_err-id-clause-goes
unfolding line_of
returns-in_err-id-clause-goes c =
    room_for global.Regular (c.args.a.now ∷ c.args.b.now ∷ c.args.c.now ∷ c.args.d.now ∷ c.args.e.now ∷ c.args.f.now ∷ []) (length c.in_ok-xs.xs.items.items ∷ nat_abs c.in_ok-m.m.states ∷ nat_abs c.in_ok-m.m.letters ∷ 0 ∷ 0 ∷ 0 ∷ []) 8 _ _ _ (omega arith)
    (ap (λ m. row_cost global.Regular (m ∷ nat_abs c.in_ok-m.m.states ∷ nat_abs c.in_ok-m.m.letters ∷ 0 ∷ 0 ∷ 0 ∷ [])) c.in_ok-xs.ensures.array.size
    ∙ ap (λ m. row_cost global.Regular (size_of (cell_of c.args.a.now) ∷ m ∷ nat_abs c.in_ok-m.m.letters ∷ 0 ∷ 0 ∷ 0 ∷ [])) c.in_ok-m.ensures.state_count
    ∙ ap (λ m. row_cost global.Regular (size_of (cell_of c.args.a.now) ∷ size_of (cell_of c.args.b.now) ∷ m ∷ 0 ∷ 0 ∷ 0 ∷ [])) c.in_ok-m.ensures.letter_count)
    (goes_both 8 0 _ _ _ c.set_in.ensures.goes c.numbers_in.ensures.goes) c.regular.ensures.goes

pub returns-clause-call : goal.returns-clause-call
returns-clause-call c =
    call_of_six base.Bool global.Regular c.args.a.now c.args.b.now c.args.c.now c.args.d.now c.args.e.now c.args.f.now _ _ _
    (λ r. array_value r c.in_ok-xs.xs) (λ r. Some (values.int c.in_ok-m.m.states)) (λ r. Some (values.int c.in_ok-m.m.letters)) (λ r. table_value c.in_ok-m.m.steps) (λ r. Some (values.int c.in_ok-m.m.start)) (λ r. set_value r c.in_ok-m.m.accepting) c.in_ok-id.id
    c.regular.ensures.goes.back
    (λ r h. c.in_ok-accepting.ensures.set.same r (c.numbers_in.ensures.goes.back r h) ∙ c.in_ok-xs.ensures.array.same r h)
    c.in_ok-xs.ensures.array.given
    (λ r h. ap (held r.mode) (sym (c.in_ok-m.ensures.states r)))
    (λ r h. ap (held r.mode) (sym (c.in_ok-m.ensures.letters r)))
    (λ r h. ap (held r.mode) (sym (c.in_ok-m.ensures.steps r)))
    (λ r h. ap (held r.mode) (sym (c.in_ok-m.ensures.start r)))
    (λ r h. ap (λ id. held r.mode (set_value r id)) c.in_ok-m.ensures.accepting ∙ c.in_ok-accepting.ensures.set.given r (c.numbers_in.ensures.goes.back r h))
    c.in_ok-id.ensures.row
