use Rattle.std.specs.Option.{is_some}
use Rattle.std.proofs.Common.{ap, ◌∙◌}
use Rattle.mz_base.proofs.Found.{keyword_found}
use Rattle.mz_base.proofs.word.is_keyword.Goals as goal

pub returns : goal.returns
returns c = c.is_some.ensures ∙ ap is_some c.keyword_of.ensures ∙ keyword_found c.args.word.now
