use Rattle.std.proofs.Common.{◌∙◌}
use Rattle.std.proofs.lemmas.Result.{err_from_is_err_and}
use Rattle.mz_core.specs.Types.{plain_type}
use Rattle.mz_meaning.specs.Arrays.{branch_cell}
use Rattle.mz_symbol.specs.Readings.{state_of}
use Rattle.mz_eval_cells.specs.Views.{cell_of, seen}
use Rattle.mz_eval_arrays.specs.Gathered.{pairs_by}
use Rattle.mz_eval_arrays.specs.StepsBranches.{branches_value, with_value}
use Rattle.mz_eval_branches.proofs.ChoiceLaws.{same_refusal}
use Rattle.mz_eval_branches.proofs.choosing.truth_choice.Goals as goal

pub returns-in_err-k-clause-means : goal.returns-in_err-k-clause-means
returns-in_err-k-clause-means c r h =
    let p = err_from_is_err_and c.from_residual.result c.from_residual.ensures.1 in
    let ps = c.args.branches.now in
    let last = c.args.last.now in
    let s = state_of r c.args.run.now in
    rw (p.1, p.2) (same_refusal (λ k. with_value (branches_value r ps last) (cell_of k)) (seen r) c.in_err-k.field-0.0 s s (branch_cell r.mode (plain_type c.args.t.now) c.args.at (pairs_by (seen r) ps) (seen r last) s) (c.in_err-k.ensures r s))

pub returns-clause-means : goal.returns-clause-means
returns-clause-means c r h = c.in_ok-k.ensures r (state_of r c.args.run.now) ∙ c.in_ok-x.ensures.means r h
