use Rattle.std.proofs.Common.{◌∙◌, ap, ◌++◌}
use Rattle.mz_graph.specs.Graph.{graph_of}
use Rattle.mz_scope_order.proofs.Making.{members_after}
use Rattle.mz_scope_order.proofs.graphs.types_of.Goals as goal

pub returns : goal.returns
returns c = record {
  begins = graph_of c.in_ok-front.front.items;
  before = members_after _ _ _ _ _ c.in_ok-own.ensures c.in_ok-front.ensures;
  is = c.in_ok-all.ensures ∙ ap (λ z. graph_of c.in_ok-front.front.items ++ z) c.in_ok-back.ensures;
}
