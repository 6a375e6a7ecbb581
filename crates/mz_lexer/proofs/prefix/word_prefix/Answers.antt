use Rattle.std.proofs.Common.{take, ap, ◌∙◌}
use Rattle.std.specs.List.{list_all}
use Rattle.mz_base.specs.Words.{is_word_byte}
use Rattle.mz_lexer.proofs.Runs.{all_of_run}
use Rattle.mz_lexer.proofs.prefix.word_prefix.Goals as goal

pub word_text-requires : goal.word_text-requires
word_text-requires c = ap (λ n. list_all is_word_byte (take n c.args.bytes.now)) c.word_len-len.ensures.value ∙ all_of_run is_word_byte c.args.bytes.now
