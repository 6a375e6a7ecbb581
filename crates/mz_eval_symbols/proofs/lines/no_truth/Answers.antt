use Rattle.mz_symbol.proofs.ConstantLaws.{out_state}
use Rattle.mz_eval_symbols.proofs.lines.no_truth.Goals as goal

pub returns-clause-same : goal.returns-clause-same
returns-clause-same c r h = out_state (c.in_ok-no.ensures.means r h)
