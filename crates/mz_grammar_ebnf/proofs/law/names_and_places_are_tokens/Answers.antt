use Rattle.mz_grammar_ebnf.proofs.Holds.{items_have_parts, data_items_have_parts, declarations_identified}
use Rattle.mz_grammar_ebnf.proofs.law.names_and_places_are_tokens.Goals as goal

pub returns-clause-models : goal.returns-clause-models
returns-clause-models c = items_have_parts

pub returns-clause-data_files : goal.returns-clause-data_files
returns-clause-data_files c = data_items_have_parts

pub returns-clause-declarations : goal.returns-clause-declarations
returns-clause-declarations c = declarations_identified
