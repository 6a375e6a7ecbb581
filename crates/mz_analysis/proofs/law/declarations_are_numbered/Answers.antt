use Rattle.mz_analysis.proofs.Declared.{typed_numbered, typed_distinct}
use Rattle.mz_analysis.proofs.law.declarations_are_numbered.Goals as goal

pub returns : goal.returns
returns c table files items p h = (typed_numbered table files items p h, typed_distinct table files items p h)
