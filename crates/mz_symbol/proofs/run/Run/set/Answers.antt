use Rattle.mz_symbol.proofs.ConstantLaws.{out_value, out_other, set_held}
use Rattle.mz_symbol.proofs.run.Run.set.Goals as goal

pub returns-clause-means : goal.returns-clause-means
returns-clause-means c r h = let e = c.in_ok-term.ensures.means r h in out_other e (set_held r.mode c.set_base-base.result c.args.of c.args.set (r.term c.in_ok-term.term) c.set_base-base.ensures (out_value e))
