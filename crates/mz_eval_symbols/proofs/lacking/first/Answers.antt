use Rattle.mz_eval_symbols.proofs.lacking.first.Goals as goal

pub returns-in-Unknown : goal.returns-in-Unknown
returns-in-Unknown c es d f g = g

pub returns-in_default : goal.returns-in_default
returns-in_default c es d f g = f
