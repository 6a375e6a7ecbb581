use Rattle.mz_symbol.proofs.ConstantLaws.{out_value, out_state}
use Rattle.mz_symbol_rows.specs.RowValues.{argument}
use Rattle.mz_symbol_rows.proofs.RowLaws.{out_both}
use Rattle.mz_operations.specs.Bounds as bounds
use Rattle.mz_eval_cells.specs.Views.{cell_of, known_bound, seen}
use Rattle.mz_eval_arrays.specs.StepsBranches.{branches_value}
use Rattle.mz_eval_arrays.proofs.BranchLaws.{open_value}
use Rattle.mz_eval_arrays.proofs.branches.open_branch.Goals as goal

pub returns-clause-means : goal.returns-clause-means
returns-clause-means c r h =
    let e = c.in_ok-s.ensures.means r h in
    out_both (open_value (cell_of c.args.k.now) (seen r c.in_ok-x.x) (bounds.one (known_bound c.in_ok-bound.bound)) (branches_value r c.args.branches.now c.args.last.now) (argument r c.in_ok-s.s) c.in_ok-bound.ensures (out_value e) (c.in_ok-x.ensures.seen r)) (out_state e)
