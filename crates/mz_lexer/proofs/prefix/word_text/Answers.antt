use Rattle.mz_lexer.proofs.Words.{word_utf8}
use Rattle.mz_lexer.proofs.prefix.word_text.Goals as goal

pub unreachable-requires : goal.unreachable-requires
unreachable-requires c = c.in-Err.ensures.cases.0 (word_utf8 c.args.word.now c.requires)
