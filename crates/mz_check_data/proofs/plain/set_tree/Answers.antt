use Rattle.std.proofs.Common.{sym, subst, map}
use Rattle.mz_core.specs.TreeViews.{tree}
use Rattle.mz_tree.specs.Data.{value}
use Rattle.mz_check_meaning.specs.Passes.{Passes}
use Rattle.mz_check_context.specs.Known.{known}
use Rattle.mz_check_data.proofs.Reading.{set_read}
use Rattle.mz_check_data.proofs.plain.set_tree.Goals as goal

pub returns : goal.returns
returns c = subst (Passes tree c.set_of.result) (sym (set_read (known c.args.context.now).names c.args.span (map value c.args.ds.now))) c.set_of.ensures
