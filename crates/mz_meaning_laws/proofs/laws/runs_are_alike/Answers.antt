use Rattle.mz_meaning_laws.proofs.Consequences.{expressions_are_alike, walks_are_alike}
use Rattle.mz_meaning_laws.proofs.laws.runs_are_alike.Goals as goal

pub returns : goal.returns
returns c = record { expressions = expressions_are_alike; walks = walks_are_alike }
