use Rattle.mz_eval_symbols.proofs.NodeLaws.{guard_counts}
use Rattle.mz_eval_symbols.proofs.nodes.is_guarded_count.Goals as goal

pub returns-in-Some : goal.returns-in-Some
returns-in-Some c q = guard_counts c.args.nodes.now c.args.id c.in-Some.p c.in-Some.ensures (c.is_counting_below.ensures q)
