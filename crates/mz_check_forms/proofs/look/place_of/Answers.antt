use Rattle.std.proofs.Common.{sym}
use Rattle.mz_core.proofs.TreeLaws.{place_of_tree}
use Rattle.mz_check_forms.proofs.look.place_of.Goals as goal

pub returns : goal.returns
returns c = sym (place_of_tree c.args.e.now)
