use Rattle.std.proofs.Common.{[]}
use Rattle.mz_graph.proofs.Layered.{decl_order}
use Rattle.mz_graph.proofs.layer_laws.layered_order.Goals as goal

pub returns : goal.returns
returns c = λ calls mentions decl_calls decl_mentions all of order count n closed below parts layers o. decl_order calls mentions decl_calls decl_mentions of count n all closed below parts layers [] order (λ x y a u. absurd a) o
