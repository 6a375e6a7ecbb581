use Rattle.mz_model.proofs.Endings.{stops_end}
use Rattle.mz_model.proofs.walk.modeled.Goals as goal

pub returns-in-Some : goal.returns-in-Some
returns-in-Some c = stops_end c.args.task.now c.unbounded.result c.unbounded.ensures
