use Rattle.mz_eval_symbols.proofs.LackingLaws.{lost}
use Rattle.mz_eval_symbols.proofs.lacking.is_lost.Goals as goal

pub returns : goal.returns
returns c h = lost c.args.nodes.now c.args.l c.args.x c.in-Some.n c.in-Some-pair_at.p c.in-Some.ensures c.in-Some-pair_at.ensures (c.is_same.ensures c.if-not-is_same.false) (c.is_same-2.ensures h)
