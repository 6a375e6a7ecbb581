use Rattle.std.proofs.Common.{◌∙◌, refl, sym}
use Rattle.mz_core.specs.Types.{plain_type}
use Rattle.mz_meaning.specs.Arrays.{branch_cell}
use Rattle.mz_symbol.specs.Readings.{state_of}
use Rattle.mz_eval_cells.specs.Views.{seen}
use Rattle.mz_eval_arrays.specs.Gathered.{pairs_by}
use Rattle.mz_eval_arrays.proofs.BranchLaws.{last_told}
use Rattle.mz_eval_branches.proofs.ChoiceLaws.{same_run}
use Rattle.mz_eval_branches.proofs.Settling.{settled_cell}
use Rattle.mz_eval_branches.proofs.choosing.chosen_branch.Goals as goal

pub returns-then-not-is_var-clause-means : goal.returns-then-not-is_var-clause-means
returns-then-not-is_var-clause-means c r h = last_told r.mode (plain_type c.args.t.now) c.args.at (pairs_by (seen r) c.args.branches.now) (seen r c.args.last) (state_of r c.args.run.now) (sym c.if-not-is_var.true ∙ c.is_var.ensures)

pub returns-clause-means : goal.returns-clause-means
returns-clause-means c r h =
    let t = plain_type c.args.t.now in
    let s = state_of r c.args.run.now in
    same_run (seen r) c.held_choice.result (state_of r c.held_choice.new.run) s s
    (branch_cell r.mode t c.args.at (pairs_by (seen r) c.args.branches.now) (seen r c.args.last))
    (branch_cell r.mode t c.args.at (pairs_by (seen r) c.in_ok-all.all.items) (seen r c.args.last))
    refl
    (sym (settled_cell r t c.args.at c.args.branches.now c.in_ok-all.all.items (seen r c.args.last) (c.in_ok-all.ensures r)))
    (c.held_choice.ensures.means r h)
