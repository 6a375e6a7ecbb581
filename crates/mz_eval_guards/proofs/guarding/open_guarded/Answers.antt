use Rattle.mz_core.specs.Types.{plain_type}
use Rattle.mz_eval_guards.proofs.GuardingLaws.{open_goes}
use Rattle.mz_eval_guards.proofs.guarding.open_guarded.Goals as goal

pub returns-in_err-y-clause-goes : goal.returns-in_err-y-clause-goes
returns-in_err-y-clause-goes c = open_goes _ _ (plain_type c.args.t.now) c.args.k.now c.in_ok-x.x c.in_ok-x.ensures.of c.opened.ensures.goes

pub returns-clause-goes : goal.returns-clause-goes
returns-clause-goes c = open_goes _ _ (plain_type c.args.t.now) c.args.k.now c.in_ok-x.x c.in_ok-x.ensures.of c.in_ok-y.ensures.goes
