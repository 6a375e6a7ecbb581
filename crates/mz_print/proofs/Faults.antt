-- Faults of output items.
use Rattle.std.proofs.Common.{ap}
use Rattle.mz_meaning.specs.Runs.{then_do}
use Rattle.mz_print.specs.Output.{joined_items, FaultsComeFirst}

pub faults_come_first : FaultsComeFirst
faults_come_first table l m p xs a n e es s f h = ap (λ r. then_do r (joined_items n)) h
