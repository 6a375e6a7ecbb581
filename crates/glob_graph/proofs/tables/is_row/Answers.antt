use Rattle.std.proofs.Common.{false, arith, zip, Some}
use Rattle.std.specs.List.{list_all}
use Rattle.glob_nodes.specs.declared.nodes.Compare.TheVariants.{Equal}
use Rattle.glob_nodes.specs.Says.{compares, num}
use Rattle.glob_nodes.proofs.Saying.{ok_so}
use Rattle.glob_nodes.proofs.Telling.{tells_like, tells_of}
use Rattle.glob_graph.specs.Tables.{is_row}
use Rattle.glob_graph.proofs.Rowwise.{as_long, otherwise_long}
use Rattle.glob_graph.proofs.tables.is_row.Goals as goal

pub returns-then-ids-row-clause-tells : goal.returns-then-ids-row-clause-tells
returns-then-ids-row-clause-tells c = ok_so c.all_equal.result c.all_equal.ensures.tells (λ id t. tells_like c.args.run.now c.all_equal.new.run (λ r. list_all (λ x. compares Equal (num r x.0) (Some x.1)) (zip c.args.ids.now c.args.row.now)) (λ r. is_row r c.args.ids.now c.args.row.now) id (λ r. as_long r c.args.ids.now c.args.row.now (omega (arith, c.if-ids-row.true))) t)

pub returns-else-ids-row-clause-tells : goal.returns-else-ids-row-clause-tells
returns-else-ids-row-clause-tells c = ok_so c.truth.result c.truth.ensures.says (λ id s. tells_like c.args.run.now c.truth.new.run (λ r. false) (λ r. is_row r c.args.ids.now c.args.row.now) id (λ r. otherwise_long r c.args.ids.now c.args.row.now (λ e. omega (arith, e, c.if-ids-row.false))) (tells_of c.args.run.now c.truth.new.run (λ r. false) id s))
