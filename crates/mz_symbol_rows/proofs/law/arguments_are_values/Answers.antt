use Rattle.mz_symbol_rows.proofs.RowLaws.{argument_kept}
use Rattle.mz_symbol_rows.proofs.law.arguments_are_values.Goals as goal

pub returns : goal.returns
returns c = argument_kept
