use Rattle.mz_eval_symbols.proofs.NodeLaws.{if_counts}
use Rattle.mz_eval_symbols.proofs.nodes.is_count.Goals as goal

pub returns-in-Some : goal.returns-in-Some
returns-in-Some c q = if_counts c.args.nodes.now c.args.id c.in-Some.b c.in-Some.ensures (c.are_chosen.ensures.first q) (c.are_chosen.ensures.second q)
