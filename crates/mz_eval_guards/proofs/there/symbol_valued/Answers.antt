use Rattle.mz_eval_guards.proofs.ThereLaws.{symbol_tells}
use Rattle.mz_eval_guards.proofs.there.symbol_valued.Goals as goal

pub returns-clause-tells : goal.returns-clause-tells
returns-clause-tells c = symbol_tells _ _ c.args.s c.in_ok-id.id c.in_ok-id.ensures.tells
