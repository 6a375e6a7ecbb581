use Rattle.std.proofs.Common.{sym, subst, map}
use Rattle.mz_core.specs.Types.{plain_type}
use Rattle.mz_core.specs.TreeViews.{tree}
use Rattle.mz_tree.specs.Data.{value, values}
use Rattle.mz_check_meaning.specs.Passes.{Passes}
use Rattle.mz_check_context.specs.Known.{known}
use Rattle.mz_check_data.proofs.Reading.{shaped_read}
use Rattle.mz_check_data.proofs.arrays.shaped_tree.Goals as goal

pub returns : goal.returns
returns c = subst (Passes tree c.shaped_by.result) (sym (shaped_read (known c.args.context.now).names c.args.span (plain_type c.args.t.now) (map value c.args.sets.now) (values (map value c.args.ds.now)))) c.shaped_by.ensures
