use Rattle.mz_check_data.proofs.WithoutData.{nothing_changes}
use Rattle.mz_check_data.proofs.law.no_data_changes_nothing.Goals as goal

pub returns : goal.returns
returns c = λ texts s order e. nothing_changes texts s order e
