-- Candidates from two lists of one length. Mirror of src/pairs.rt; private clauses only.
use Rattle.std.specs.Prelude.{List, [], ◌∷◌}
use Rattle.mz_core.specs.declared.types.Signature.{Signature}
use Rattle.mz_core.specs.Types.{plain_signature}
use Rattle.mz_check_meaning.specs.declared.callee.Callee.{Callee}
use Rattle.mz_check_meaning.specs.Calls.{Candidate}

unfoldable pub paired : List Callee → List Signature → List Candidate
paired [] ss = []
paired (c ∷ cs) [] = []
paired (c ∷ cs) (s ∷ ss) = record { callee = c; signature = plain_signature s } ∷ paired cs ss
