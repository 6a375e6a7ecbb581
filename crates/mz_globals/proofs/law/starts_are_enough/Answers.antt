use Rattle.mz_globals.proofs.Starts.{starts_are_enough}
use Rattle.mz_globals.proofs.law.starts_are_enough.Goals as goal

pub returns : goal.returns
returns c = starts_are_enough
