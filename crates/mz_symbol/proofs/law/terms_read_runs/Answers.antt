use Rattle.mz_symbol.proofs.ReadingLaws.{terms_read, choices_read}
use Rattle.mz_symbol.proofs.law.terms_read_runs.Goals as goal

pub returns-clause-terms : goal.returns-clause-terms
returns-clause-terms c = terms_read

pub returns-clause-choices : goal.returns-clause-choices
returns-clause-choices c = choices_read
