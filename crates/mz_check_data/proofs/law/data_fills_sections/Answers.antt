use Rattle.mz_check_data.proofs.Parted.{parted}
use Rattle.mz_check_data.proofs.law.data_fills_sections.Goals as goal

pub returns : goal.returns
returns c = λ s m all e. parted s m all e
