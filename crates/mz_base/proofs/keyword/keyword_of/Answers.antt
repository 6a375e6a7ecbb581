use Rattle.std.proofs.Common.{ap, ◌∙◌}
use Rattle.std.specs.Prelude.{find}
use Rattle.std.specs.Str.{bytes_eq}
use Rattle.mz_base.specs.Keywords.{keyword_text}
use Rattle.mz_base.proofs.FirstBytes.{by_first_byte, no_word}
use Rattle.mz_base.proofs.keyword.keyword_of.Goals as goal

pub returns-in-empty : goal.returns-in-empty
returns-in-empty c = no_word c.args.word.now c.in-empty.len_below

pub returns-in-len1-up : goal.returns-in-len1-up
returns-in-len1-up c =
    let w = c.args.word.now in
    c.among.ensures ∙ ap (find (λ k. bytes_eq (keyword_text k) w)) c.keywords_with.ensures ∙ by_first_byte w c.in-len1-up.len_at_least
