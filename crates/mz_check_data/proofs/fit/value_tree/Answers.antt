use Rattle.std.proofs.Common.{sym, subst}
use Rattle.mz_core.specs.Types.{plain_type}
use Rattle.mz_core.specs.TreeViews.{tree}
use Rattle.mz_check_meaning.specs.Passes.{Passes}
use Rattle.mz_check_context.specs.Known.{known}
use Rattle.mz_check_data.proofs.Reading.{rows_seen}
use Rattle.mz_check_data.proofs.fit.value_tree.Goals as goal

pub returns-in-Rows : goal.returns-in-Rows
returns-in-Rows c =
    subst (Passes tree c.rows_tree.result)
    (sym (rows_seen (known c.args.context.now).names c.args.span (plain_type c.args.t.now) c.args.d.now c.in-Rows.rows c.as_slice-in-Rows.result.now c.in-Rows.is c.as_slice-in-Rows.ensures.value))
    c.rows_tree.ensures
