use Rattle.mz_grammar_ebnf.proofs.ModelBlames.{left_out_form}
use Rattle.mz_grammar_ebnf.proofs.law.left_out_is_a_form.Goals as goal

pub returns : goal.returns
returns c = left_out_form
