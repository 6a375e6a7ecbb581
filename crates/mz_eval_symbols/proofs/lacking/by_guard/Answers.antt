use Rattle.mz_eval_symbols.proofs.LackingLaws.{guard_lacks, guard_sure}
use Rattle.mz_eval_symbols.proofs.lacking.by_guard.Goals as goal

pub returns-then-is_false : goal.returns-then-is_false
returns-then-is_false c = guard_sure c.args.nodes.now c.args.o c.args.x c.in-Some.p c.in-Some.ensures (c.is_false.ensures c.if-is_false.true)

pub returns : goal.returns
returns c = guard_lacks c.args.nodes.now c.args.o c.args.x c.unless-q.result c.in-Some.p c.in-Some.ensures c.unless-q.ensures
