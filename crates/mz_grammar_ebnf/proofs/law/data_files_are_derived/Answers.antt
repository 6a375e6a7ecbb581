use Rattle.mz_grammar_ebnf.proofs.DataMeans.{data_files_derived, data_items_derived}
use Rattle.mz_grammar_ebnf.proofs.law.data_files_are_derived.Goals as goal

pub returns-clause-taken : goal.returns-clause-taken
returns-clause-taken c = data_files_derived

pub returns-clause-answered : goal.returns-clause-answered
returns-clause-answered c = data_items_derived
