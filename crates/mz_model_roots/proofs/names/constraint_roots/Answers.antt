use Rattle.mz_model_roots.proofs.CellRoots.{met_rooted}
use Rattle.mz_model_roots.proofs.names.constraint_roots.Goals as goal

pub returns-then-is_met-clause-roots : goal.returns-then-is_met-clause-roots
returns-then-is_met-clause-roots c = met_rooted c.args.run.now c.args.k.now c.new-none.result.items (c.is_met.ensures c.if-is_met.true) c.new-none.ensures.items
