use Rattle.std.proofs.Common.{ap, ◌∙◌}
use Rattle.mz_graph.specs.Graph.{graph_of}
use Rattle.mz_graph.proofs.Joining.{rows_of_both}
use Rattle.mz_scope_names.specs.Sketches.{all_of}
use Rattle.mz_scope_order.specs.StepsPlaces.{mentions_in}
use Rattle.mz_scope_order.proofs.Making.{one_made, all_made}
use Rattle.mz_scope_order.proofs.listing.mention_rows.Goals as goal

pub loop-o-preserved : goal.loop-o-preserved
loop-o-preserved c = one_made (λ s. mentions_in 0 c.args.tables.now.decls (all_of s)) _ (graph_of c.loop-o.rows.items) (graph_of c.push.new.self.items) c.in_ok-row.row.items c.args.sketches.now c.loop-o.o-index c.o-item.result c.loop-o.invariant c.loop-o-test.true c.o-item.is c.in_ok-row.ensures (ap (λ z. graph_of z) c.in_ok-push.ensures.items ∙ rows_of_both c.loop-o.rows.items _)

pub returns : goal.returns
returns c = all_made (λ s. mentions_in 0 c.args.tables.now.decls (all_of s)) _ (graph_of c.loop-o.rows.items) c.args.sketches.now c.loop-o.o-index c.loop-o.invariant c.loop-o-test.false
