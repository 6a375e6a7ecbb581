use Rattle.std.proofs.Common.{◌∙◌, ◌*◌, ◌+◌, length}
use Rattle.mz_operations.specs.Bounds as bounds
use Rattle.mz_symbol.proofs.ConstantLaws.{out_value, out_state}
use Rattle.mz_symbol_rows.proofs.RowLaws.{out_both}
use Rattle.mz_eval_cells.specs.Views.{cell_of, known_bound, seen}
use Rattle.mz_eval_arrays.specs.StepsBranches.{branches_value}
use Rattle.mz_eval_arrays.proofs.BranchLaws.{open_value}
use Rattle.mz_eval_branches.specs.Truths.{truth_seen}
use Rattle.mz_eval_branches.proofs.ChoiceLaws.{goes_charged}
use Rattle.mz_eval_branches.proofs.choosing.drawn_truth.Goals as goal

pub returns-in_err-nodes-clause-goes : goal.returns-in_err-nodes-clause-goes
returns-in_err-nodes-clause-goes c = goes_charged c.in_ok-charge.charge (48 * length c.args.branches.now + 8) c.args.run.now c.draw.new.self c.chosen_truth.new.run c.in_ok-charge.ensures c.in_ok-draw.ensures.spares c.chosen_truth.ensures.goes

pub returns-in_err-x-clause-goes : goal.returns-in_err-x-clause-goes
returns-in_err-x-clause-goes c = goes_charged c.in_ok-charge.charge (48 * length c.args.branches.now + 8) c.args.run.now c.draw.new.self c.chosen_truth.new.run c.in_ok-charge.ensures c.in_ok-draw.ensures.spares c.chosen_truth.ensures.goes

pub returns-clause-goes : goal.returns-clause-goes
returns-clause-goes c = goes_charged c.in_ok-charge.charge (48 * length c.args.branches.now + 8) c.args.run.now c.draw.new.self c.chosen_truth.new.run c.in_ok-charge.ensures c.in_ok-draw.ensures.spares c.chosen_truth.ensures.goes

pub returns-clause-means : goal.returns-clause-means
returns-clause-means c r h =
    let e = c.in_ok-nodes.ensures.means r h in
    out_both (open_value (cell_of c.args.k.now) (seen r c.in_ok-x.x) (bounds.one (known_bound c.in_ok-bound.bound)) (branches_value r c.args.branches.now c.args.last.now) (truth_seen r c.in_ok-nodes.nodes) c.in_ok-bound.ensures (out_value e) (c.in_ok-x.ensures.seen r)) (c.draw.ensures.same r ∙ out_state e)
