use Rattle.mz_model_roots.proofs.CellRoots.{unmet_rooted}
use Rattle.mz_model_roots.proofs.names.unmet_roots.Goals as goal

pub returns-clause-roots : goal.returns-clause-roots
returns-clause-roots c = unmet_rooted c.false_root.new.run c.args.k.now c.in_ok-ids.ids.items c.in_ok-id.id c.requires c.in_ok-id.ensures.never c.in_ok-ids.ensures
