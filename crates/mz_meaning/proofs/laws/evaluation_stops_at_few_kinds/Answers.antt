use Rattle.mz_meaning.proofs.Causes.{eval_well}
use Rattle.mz_meaning.proofs.laws.evaluation_stops_at_few_kinds.Goals as goal

pub returns : goal.returns
returns c = record { kinds = eval_well }
