use Rattle.mz_check_data.proofs.Textless.{none_texted}
use Rattle.mz_check_data.proofs.law.data_has_no_texts.Goals as goal

pub returns : goal.returns
returns c = λ m gs vs e. none_texted m gs vs e
