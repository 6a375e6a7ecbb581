use Rattle.std.proofs.Common.{◌*◌, ◌+◌, ap, length, sym}
use Rattle.mz_core.specs.Types.{plain_type}
use Rattle.mz_meaning.specs.Arrays.{branch_cell}
use Rattle.mz_symbol.specs.Readings.{state_of}
use Rattle.mz_eval_cells.specs.Views.{seen}
use Rattle.mz_eval_arrays.specs.Gathered.{pairs_by}
use Rattle.mz_eval_branches.proofs.ChoiceLaws.{goes_charged, same_run}
use Rattle.mz_eval_branches.proofs.choosing.symbol_choice.Goals as goal

pub returns-clause-goes : goal.returns-clause-goes
returns-clause-goes c = goes_charged c.in_ok-charge.charge (48 * length c.args.branches.now + 8) c.args.run.now c.draw.new.self c.branch_cell_in.new.run c.in_ok-charge.ensures c.in_ok-draw.ensures.spares c.branch_cell_in.ensures.goes

pub returns-clause-means : goal.returns-clause-means
returns-clause-means c r h =
    let ps = pairs_by (seen r) c.args.branches.now in
    let t = plain_type c.args.t.now in
    same_run (seen r) c.branch_cell_in.result (state_of r c.branch_cell_in.new.run) (state_of r c.args.run.now) (state_of r c.draw.new.self)
    (branch_cell r.mode t c.args.at ps (seen r c.args.last.now))
    (branch_cell r.mode t c.args.at ps (seen r c.in_ok-copy.copy))
    (c.draw.ensures.same r)
    (ap (branch_cell r.mode t c.args.at ps) (sym (c.in_ok-copy.ensures.seen r)))
    (c.branch_cell_in.ensures.means r h)
