use Rattle.std.proofs.Common.{ap, sym}
use Rattle.mz_tree.proofs.Looks.{tree_is}
use Rattle.mz_check_meaning.specs.Checks.{tree_place}
use Rattle.mz_check.proofs.items.expr_place.Goals as goal

pub returns : goal.returns
returns c = sym (ap tree_place (tree_is c.args.e.now))
