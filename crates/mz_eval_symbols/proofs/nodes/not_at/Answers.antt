use Rattle.mz_eval_symbols.proofs.NodeLaws.{not_read}
use Rattle.mz_eval_symbols.proofs.nodes.not_at.Goals as goal

pub returns-in-Not : goal.returns-in-Not
returns-in-Not c = not_read c.args.nodes.now c.args.id c.in-Some.n c.in-Some.ensures c.in-Not.is
