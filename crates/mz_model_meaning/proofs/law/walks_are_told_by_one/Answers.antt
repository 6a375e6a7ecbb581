use Rattle.mz_model_meaning.proofs.Ends.{stops, goes, not_refused}
use Rattle.mz_model_meaning.proofs.law.walks_are_told_by_one.Goals as goal

pub returns : goal.returns
returns c = record { stops = stops; goes = goes; not_refused = not_refused }
