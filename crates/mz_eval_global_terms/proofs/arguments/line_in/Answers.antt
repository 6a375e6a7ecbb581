use Rattle.mz_symbol.proofs.ConstantLaws.{out_value, out_state}
use Rattle.mz_eval_global_terms.proofs.arguments.line_in.Goals as goal

pub returns-in-Ok-clause-line : goal.returns-in-Ok-clause-line
returns-in-Ok-clause-line c = record {
  given = λ r h. out_value (c.in-Ok.ensures.means r h);
  same = λ r h. out_state (c.in-Ok.ensures.means r h);
}
