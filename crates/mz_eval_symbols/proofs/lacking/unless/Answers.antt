use Rattle.mz_eval_symbols.proofs.LackingLaws.{unless_true}
use Rattle.mz_eval_symbols.proofs.lacking.unless.Goals as goal

pub returns-then-is_same : goal.returns-then-is_same
returns-then-is_same c = unless_true c.args.nodes.now c.args.d c.args.o c.in-Some-not_at.n c.in-Some.p c.in-Some.ensures c.in-Some-not_at.ensures (c.is_same.ensures c.if-is_same.true)
