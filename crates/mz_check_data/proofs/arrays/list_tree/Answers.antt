use Rattle.std.proofs.Common.{sym, subst, map}
use Rattle.mz_core.specs.TreeViews.{tree}
use Rattle.mz_tree.specs.Data.{value}
use Rattle.mz_check_meaning.specs.Passes.{Passes}
use Rattle.mz_check_context.specs.Known.{known}
use Rattle.mz_check_data.proofs.Reading.{list_read}
use Rattle.mz_check_data.proofs.arrays.list_tree.Goals as goal

pub returns : goal.returns
returns c = subst (Passes tree c.list_with.result) (sym (list_read (known c.args.context.now).names c.args.span (map value c.args.ds.now))) c.list_with.ensures
