use Rattle.mz_eval_declared.specs.Wants.{wants_of}
use Rattle.mz_eval_declared.proofs.SuitingLaws.{all_sets}
use Rattle.mz_eval_declared.proofs.sets.all_sets_guard.Goals as goal

pub returns : goal.returns
returns c r = all_sets (wants_of c.args.ws.now) c.all_have_sets-s.result.par c.all_have_sets-s.result.is c.all_have_sets-s.ensures
