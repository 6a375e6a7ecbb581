use Rattle.mz_scope.proofs.Naming as naming
use Rattle.mz_scope.proofs.law.all_named.Goals as goal

pub returns : goal.returns
returns c = λ count is ds a b. naming.all_named count is ds a b
