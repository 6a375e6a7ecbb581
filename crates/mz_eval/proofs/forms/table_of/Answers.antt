use Rattle.std.proofs.Common.{◌∙◌, sym, ap}
use Rattle.mz_meaning.specs.Arrays.{table_cell}
use Rattle.mz_meaning.specs.Runs.{then_do}
use Rattle.mz_symbol.specs.Readings.{state_of}
use Rattle.mz_eval_cells.specs.Views.{seen}
use Rattle.mz_eval_branches.specs.TableCells.{rows_seen}
use Rattle.mz_eval_chains.proofs.Runs.{meets_at_is}
use Rattle.mz_eval.proofs.forms.table_of.Goals as goal

pub returns-clause-means : goal.returns-clause-means
returns-clause-means c r h =
    let u = state_of r c.spend.new.self in
    let at = c.args.node.now.span in
    meets_at_is (seen r) c.table_cell_in.result (state_of r c.table_cell_in.new.run) _ _
    (ap (λ a. then_do a (λ _. table_cell r.mode at (rows_seen r c.args.rows.items))) (c.in_ok-spend.ensures.means r (c.table_cell_in.ensures.goes.back r h))
    ∙ ap (λ rs. table_cell r.mode at (rows_seen r rs) u) (sym c.deref.ensures.value))
    (c.table_cell_in.ensures.means r h)
