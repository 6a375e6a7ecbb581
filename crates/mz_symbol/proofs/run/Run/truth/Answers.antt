use Rattle.mz_symbol.proofs.ConstantLaws.{out_value, out_other, truth_held}
use Rattle.mz_symbol.proofs.run.Run.truth.Goals as goal

pub returns-clause-means : goal.returns-clause-means
returns-clause-means c r h = let e = c.in_ok-term.ensures.means r h in out_other e (truth_held r.mode c.args.b (r.term c.in_ok-term.term) (out_value e))
