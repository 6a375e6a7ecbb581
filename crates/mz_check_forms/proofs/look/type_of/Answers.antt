use Rattle.std.proofs.Common.{sym}
use Rattle.mz_core.proofs.TreeLaws.{type_of_tree}
use Rattle.mz_check_forms.proofs.look.type_of.Goals as goal

pub returns : goal.returns
returns c = sym (type_of_tree c.args.e.now)
