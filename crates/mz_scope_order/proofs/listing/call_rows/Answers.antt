use Rattle.std.proofs.Common.{ap, ◌∙◌}
use Rattle.mz_graph.specs.Graph.{graph_of}
use Rattle.mz_graph.proofs.Joining.{rows_of_both}
use Rattle.mz_scope_names.specs.Sketches.{all_of}
use Rattle.mz_scope_order.specs.StepsPlaces.{callees_in}
use Rattle.mz_scope_order.proofs.Making.{one_made, all_made}
use Rattle.mz_scope_order.proofs.listing.call_rows.Goals as goal

pub loop-o-preserved : goal.loop-o-preserved
loop-o-preserved c = one_made (λ s. callees_in c.args.first c.args.tables.now.bare c.args.tables.now.applied (all_of s)) _ (graph_of c.loop-o.rows.items) (graph_of c.push.new.self.items) c.in_ok-row.row.items c.args.sketches.now c.loop-o.o-index c.o-item.result c.loop-o.invariant c.loop-o-test.true c.o-item.is c.in_ok-row.ensures (ap (λ z. graph_of z) c.in_ok-push.ensures.items ∙ rows_of_both c.loop-o.rows.items _)

pub returns : goal.returns
returns c = all_made (λ s. callees_in c.args.first c.args.tables.now.bare c.args.tables.now.applied (all_of s)) _ (graph_of c.loop-o.rows.items) c.args.sketches.now c.loop-o.o-index c.loop-o.invariant c.loop-o-test.false
