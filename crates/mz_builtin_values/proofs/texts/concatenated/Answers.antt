use Rattle.std.proofs.Common.{rules}
use Rattle.mz_builtin_values.proofs.AllTexts.{are_text}
use Rattle.mz_builtin_values.proofs.texts.concatenated.Goals as goal

pub join-requires : goal.join-requires
join-requires c = are_text _ (search rules)
