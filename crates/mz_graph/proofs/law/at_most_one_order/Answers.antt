use Rattle.mz_graph.proofs.OneOrder.{one_order}
use Rattle.mz_graph.proofs.law.at_most_one_order.Goals as goal

pub returns : goal.returns
returns c = λ g count a b p q. one_order a b p q
