use Rattle.std.proofs.Common.{refl}
use Rattle.mz_builtin.specs.Table.{built_ins}
use Rattle.mz_operations.specs.Lines.{lines}
use Rattle.mz_builtin_apply.proofs.law.tables_are_in_step.Goals as goal

pub returns : goal.returns
unfolding lines built_ins
returns c = refl
