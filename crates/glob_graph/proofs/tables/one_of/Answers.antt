use Rattle.std.proofs.Common.{◌∙◌, ◌+◌, ◌*◌, not, nat_eq, length, subst, sym}
use Rattle.std.specs.List.{list_any}
use Rattle.glob_nodes.specs.Says.{Tells}
use Rattle.glob_nodes.proofs.Saying.{ok_so}
use Rattle.glob_nodes.proofs.Telling.{goes_less, tells_like, tells_of}
use Rattle.glob_graph.specs.Tables.{is_among, row_at, steps}
use Rattle.glob_graph.proofs.Rowwise.{rows_cost, is_none, is_some_length, among_none, among_rows}
use Rattle.glob_graph.proofs.tables.one_of.Goals as goal

pub returns-then-is_empty-clause-tells : goal.returns-then-is_empty-clause-tells
returns-then-is_empty-clause-tells c = ok_so c.truth.result c.truth.ensures.says (λ id s. tells_like c.args.run.now c.truth.new.run (λ r. not (nat_eq c.args.t.now.count 0)) (λ r. is_among r c.args.ids.now c.args.t.now) id (λ r. among_none r c.args.ids.now c.args.t.now (is_none (length c.args.ids.now) (sym c.is_empty.ensures ∙ c.if-is_empty.true))) (tells_of c.args.run.now c.truth.new.run (λ r. not (nat_eq c.args.t.now.count 0)) id s))

pub returns-else-is_empty-clause-goes : goal.returns-else-is_empty-clause-goes
returns-else-is_empty-clause-goes c = goes_less ((12 * length c.args.ids.now + 6) * c.args.t.now.count) (18 * length c.args.t.now.cells.items) c.args.run.now c.has_row.new.run (rows_cost (length c.args.ids.now) c.args.t.now.count (length c.args.t.now.cells.items) (is_some_length (length c.args.ids.now) (sym c.is_empty.ensures ∙ c.if-is_empty.false)) c.requires) c.has_row.ensures.goes

pub returns-else-is_empty-clause-tells : goal.returns-else-is_empty-clause-tells
returns-else-is_empty-clause-tells c = ok_so c.has_row.result c.has_row.ensures.tells (λ id t. tells_like c.args.run.now c.has_row.new.run (λ r. list_any (λ k. row_at r c.args.ids.now c.args.t.now.cells.items k) (steps (length c.args.ids.now) 0 c.args.t.now.count)) (λ r. is_among r c.args.ids.now c.args.t.now) id (λ r. among_rows r c.args.ids.now c.args.t.now (is_some_length (length c.args.ids.now) (sym c.is_empty.ensures ∙ c.if-is_empty.false)))
    (subst (λ cs. Tells c.args.run.now c.has_row.new.run (λ r. list_any (λ k. row_at r c.args.ids.now cs k) (steps (length c.args.ids.now) 0 c.args.t.now.count)) id) c.deref.ensures.value t))
