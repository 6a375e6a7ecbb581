use Rattle.std.proofs.Common.{◌≡◌, length}
use Rattle.mz_check_meaning.specs.Models.{Env}
use Rattle.mz_check_context.specs.Extending.{Extends}
use Rattle.mz_check_context.proofs.scope.Scope.leave.Given as goal

abbrev pub invariant-loop-self : goal.invariant-loop-self
invariant-loop-self l = (env : Env) → Extends env l.fn.self → l.mark ≡ length env.locals → Extends env l.self

abbrev pub decreases-loop-self : goal.decreases-loop-self
decreases-loop-self l = length l.self.locals
