use Rattle.std.proofs.Common.{sym, subst, map}
use Rattle.mz_core.specs.TreeViews.{tree}
use Rattle.mz_tree.specs.Data.{value}
use Rattle.mz_check_meaning.specs.Passes.{Passes}
use Rattle.mz_check_context.specs.Known.{known}
use Rattle.mz_check_data.proofs.Reading.{rows_read}
use Rattle.mz_check_data.proofs.arrays.rows_tree.Goals as goal

pub returns : goal.returns
returns c = subst (Passes tree c.rows_of.result) (sym (rows_read (known c.args.context.now).names c.args.span (map (λ r. map value r.items) c.args.rows.now))) c.rows_of.ensures
