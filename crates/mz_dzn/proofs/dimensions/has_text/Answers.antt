use Rattle.std.proofs.Common.{◌∙◌}
use Rattle.mz_dzn.proofs.FoundNames.{where_found, where_none}
use Rattle.mz_dzn.proofs.dimensions.has_text.Goals as goal

pub returns-in-Some : goal.returns-in-Some
returns-in-Some c = c.eq.ensures ∙ where_found c.args.names.now c.args.text.now c.in-Some.found c.args.n c.requires c.in-Some.ensures.named.1 c.in-Some.ensures.every

pub returns-in-None : goal.returns-in-None
returns-in-None c = where_none c.args.names.now c.args.text.now c.args.n c.requires c.in-None.ensures.every
