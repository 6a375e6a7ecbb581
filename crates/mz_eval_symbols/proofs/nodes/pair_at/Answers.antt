use Rattle.mz_eval_symbols.proofs.NodeLaws.{pair_read}
use Rattle.mz_eval_symbols.proofs.nodes.pair_at.Goals as goal

pub returns : goal.returns
returns c = pair_read c.args.nodes.now c.args.w c.args.id c.in-Some.n c.in-Some.ensures (c.is_kind.ensures c.if-not-is_kind.false)
