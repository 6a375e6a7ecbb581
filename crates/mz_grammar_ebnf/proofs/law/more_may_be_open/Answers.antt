use Rattle.mz_grammar_ebnf.proofs.DataDeeper as data_file
use Rattle.mz_grammar_ebnf.proofs.ModelDeeper as model
use Rattle.mz_grammar_ebnf.proofs.law.more_may_be_open.Goals as goal

pub returns-clause-data_files : goal.returns-clause-data_files
returns-clause-data_files c = λ names k tokens items h. data_file.deeper h

pub returns-clause-models : goal.returns-clause-models
returns-clause-models c = λ k tokens items h. model.deeper h
