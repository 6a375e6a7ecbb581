-- The examples are checked with it.
use Rattle.mz_grammar_ebnf.proofs.ModelMeans.{models_derived}
use Rattle.mz_grammar_ebnf.proofs.HardCases.{hard_cases}
use Rattle.mz_grammar_ebnf.proofs.law.models_are_derived.Goals as goal

cited : {A B : Type 0} → A → B → B
cited a b = b

pub returns : goal.returns
returns c = cited hard_cases models_derived
