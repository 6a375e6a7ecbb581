use Rattle.std.proofs.Common.{rules, ◌∙◌}
use Rattle.clap.specs.Matches.{found_of}
use Rattle.clap.proofs.WalkLemmas.{first_value-rows}
use Rattle.mz_words.proofs.Texts.{same_text}
use Rattle.mz_words.proofs.command.reading.text_of.Goals as goal

pub returns : goal.returns
returns c = rw c.unwrap_or.ensures (same_text c.get_str.result _ _ (search rules) (c.get_str.ensures ∙ first_value-rows (found_of c.args.matches.now) c.args.name.now))
