use Rattle.mz_grammar_ebnf.proofs.ModelMeans.{expressions_derived, declarations_derived, types_derived, marks_derived, annotations_derived}
use Rattle.mz_grammar_ebnf.proofs.law.parts_are_derived.Goals as goal

pub returns-clause-expressions : goal.returns-clause-expressions
returns-clause-expressions c = expressions_derived

pub returns-clause-declarations : goal.returns-clause-declarations
returns-clause-declarations c = declarations_derived

pub returns-clause-types : goal.returns-clause-types
returns-clause-types c = types_derived

pub returns-clause-marks : goal.returns-clause-marks
returns-clause-marks c = marks_derived

pub returns-clause-annotations : goal.returns-clause-annotations
returns-clause-annotations c = annotations_derived
