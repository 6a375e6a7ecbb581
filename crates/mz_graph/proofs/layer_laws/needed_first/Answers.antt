use Rattle.mz_graph.proofs.Needed.{needed_before}
use Rattle.mz_graph.proofs.layer_laws.needed_first.Goals as goal

pub returns : goal.returns
returns c = λ calls mentions decl_calls decl_mentions before after n d e o k. needed_before before after d e o k
