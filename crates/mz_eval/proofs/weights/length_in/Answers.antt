use Rattle.std.proofs.Common.{None, sym, ◌∙◌}
use Rattle.mz_eval.proofs.WeightLaws.{length_seen}
use Rattle.mz_eval.proofs.weights.length_in.Goals as goal

pub returns-in-None : goal.returns-in-None
returns-in-None c r = length_seen r c.args.k.now None (sym c.in-None.is ∙ c.length_of.ensures)
