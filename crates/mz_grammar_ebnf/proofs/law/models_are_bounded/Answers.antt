use Rattle.mz_grammar_ebnf.proofs.Heights.{items_are_high}
use Rattle.mz_grammar_ebnf.proofs.law.models_are_bounded.Goals as goal

pub returns : goal.returns
returns c = items_are_high
