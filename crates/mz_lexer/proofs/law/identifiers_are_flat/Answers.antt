use Rattle.mz_lexer.proofs.Identifiers.{identifiers_are_flat}
use Rattle.mz_lexer.proofs.law.identifiers_are_flat.Goals as goal

pub returns : goal.returns
returns c = identifiers_are_flat
