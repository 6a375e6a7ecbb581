use Rattle.std.proofs.Common.{◌≡◌, [], drop}
use Rattle.mz_core.specs.Types.{plain_type}
use Rattle.mz_check_meaning.specs.Tests.{loop}
use Rattle.mz_check_meaning.specs.Comprehensions.{bind_next}
use Rattle.mz_check_context.specs.Extending.{Extends}
use Rattle.mz_check_exprs.specs.Views.{bound}
use Rattle.mz_check_exprs.proofs.binding.bind_names.Given as goal

abbrev pub invariant-loop-n : goal.invariant-loop-n
invariant-loop-n l = record {
  built : loop (bind_next l.start (plain_type l.ty)) (bound [] l.fn.scope) l.names ≡ loop (bind_next l.start (plain_type l.ty)) (bound l.slots.items l.scope) (drop l.n-index l.names);
  extends : Extends l.fn.scope l.scope;
}
