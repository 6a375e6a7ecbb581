use Rattle.std.proofs.Common.{refl}
use Rattle.mz_builtin.specs.Table as signatures
use Rattle.mz_globals.specs.Names as meanings
use Rattle.mz_eval_globals.proofs.apply.law.lists_are_in_step.Goals as goal

pub returns : goal.returns
unfolding meanings.globals signatures.globals
returns c = refl
