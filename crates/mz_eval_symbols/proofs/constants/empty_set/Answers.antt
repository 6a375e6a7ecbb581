use Rattle.mz_symbol.proofs.ConstantLaws.{out_state}
use Rattle.mz_eval_symbols.proofs.constants.empty_set.Goals as goal

pub returns-clause-same : goal.returns-clause-same
returns-clause-same c r h = out_state (c.in_ok-s.ensures.means r h)
