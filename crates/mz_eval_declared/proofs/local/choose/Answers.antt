use Rattle.mz_eval_declared.proofs.local.choose.Goals as goal

pub returns-in-None : goal.returns-in-None
returns-in-None c = rw c.in-None.is c.no_choice.ensures
