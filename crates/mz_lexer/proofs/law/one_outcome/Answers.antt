use Rattle.mz_lexer.proofs.Lexing.{determined}
use Rattle.mz_lexer.proofs.law.one_outcome.Goals as goal

pub returns : goal.returns
returns c = determined
