use Rattle.mz_grammar_ebnf.proofs.DataTaken.{data_files_taken, none_refused, one_derived}
use Rattle.mz_grammar_ebnf.proofs.law.derived_data_files_are_taken.Goals as goal

pub returns-clause-taken : goal.returns-clause-taken
returns-clause-taken c = data_files_taken

pub returns-clause-never_refused : goal.returns-clause-never_refused
returns-clause-never_refused c = none_refused

pub returns-clause-one : goal.returns-clause-one
returns-clause-one c = one_derived
