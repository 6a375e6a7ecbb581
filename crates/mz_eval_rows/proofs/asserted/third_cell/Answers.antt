use Rattle.std.proofs.Common.{◌∙◌, false, ap}
use Rattle.mz_core.specs.Types.{plain_type}
use Rattle.mz_meaning.specs.Runs.{Out}
use Rattle.mz_meaning.specs.Cells.{typed, value_of}
use Rattle.mz_symbol.specs.Readings.{state_of}
use Rattle.mz_eval_cells.specs.Views.{cell_of, seen}
use Rattle.mz_eval_row_symbols.specs.NodeRows.{with_value}
use Rattle.mz_eval_rows.proofs.AssertedLaws.{recast_held}
use Rattle.mz_eval_rows.proofs.asserted.third_cell.Goals as goal

pub returns-clause-means : goal.returns-clause-means
unfolding plain_type
returns-clause-means c r h =
    let t = plain_type c.args.t.now in
    ap (λ x. Out (typed r.mode false t x) (state_of r c.args.run.now))
    (ap (λ y. with_value y (cell_of c.args.shape.now)) (recast_held r.mode t.base (value_of (seen r c.args.k.now)) (value_of (cell_of c.in-Ok.x)) (value_of (cell_of c.in_ok-par.par)) (c.in-Ok.ensures.value r) c.in_ok-par.ensures)
    ∙ c.in_ok-z.ensures r)
