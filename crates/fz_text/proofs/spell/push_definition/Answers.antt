use Rattle.std.proofs.Common.{sym}
use Rattle.std.proofs.lemmas.List.{append-nil}
use Rattle.fz_text.specs.Spelling.{definition}
use Rattle.fz_text.proofs.spell.push_definition.Goals as goal

pub returns-in-None : goal.returns-in-None
unfolding definition
returns-in-None c = rw c.in-None.is (sym (append-nil c.args.out.now.items))
