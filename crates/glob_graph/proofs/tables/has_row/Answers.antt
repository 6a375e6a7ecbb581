use Rattle.std.proofs.Common.{◌≡◌, ◌∙◌, ◌+◌, ◌*◌, ap, length, subst}
use Rattle.std.specs.List.{list_any}
use Rattle.mz_symbol.specs.Makes.{GoesOnBy}
use Rattle.glob_nodes.specs.Says.{Tells}
use Rattle.glob_nodes.proofs.Saying.{ok_so}
use Rattle.glob_nodes.proofs.IntegerNodes.{stays}
use Rattle.glob_graph.specs.Tables.{row_at}
use Rattle.glob_graph.proofs.Rowwise.{steps_length}
use Rattle.glob_graph.proofs.tables.has_row.Goals as goal

pub returns-in_err-places-clause-goes : goal.returns-in_err-places-clause-goes
returns-in_err-places-clause-goes c = stays _ c.args.run.now

pub returns-clause-goes : goal.returns-clause-goes
returns-clause-goes c =
    let count : length c.deref.result.now ≡ c.args.count = ap length (c.deref.ensures.value ∙ c.in_ok-places.ensures) ∙ steps_length (length c.args.ids.now) 0 c.args.count in
    subst (λ n. GoesOnBy ((12 * length c.args.ids.now + 6) * n) c.args.run.now c.some_pass.new.run) count c.some_pass.ensures.goes

pub returns-clause-tells : goal.returns-clause-tells
returns-clause-tells c = ok_so c.some_pass.result c.some_pass.ensures.tells (λ id t. subst (λ ks. Tells c.args.run.now c.some_pass.new.run (λ r. list_any (λ k. row_at r c.args.ids.now c.args.cells.now k) ks) id) (c.deref.ensures.value ∙ c.in_ok-places.ensures) t)
