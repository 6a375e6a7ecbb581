use Rattle.std.proofs.Common.{sym}
use Rattle.std.proofs.lemmas.Result.{err_from_is_err_and}
use Rattle.mz_core.specs.Types.{plain_type}
use Rattle.mz_eval_cells.specs.Views.{cell_of, seen}
use Rattle.mz_meaning.specs.Arrays.{branch_cell}
use Rattle.mz_eval_arrays.specs.Gathered.{pairs_by}
use Rattle.mz_eval_arrays.specs.StepsBranches.{branches_value, with_value}
use Rattle.mz_eval_arrays.proofs.BranchLaws.{refused_told, value_told}
use Rattle.mz_eval_branches.proofs.ChoiceLaws.{same_refusal}
use Rattle.mz_eval_branches.proofs.choosing.shaped.Goals as goal

pub returns-in_err-k : goal.returns-in_err-k
returns-in_err-k c r s =
    let p = err_from_is_err_and c.from_residual-in_err-k.result c.from_residual-in_err-k.ensures.1 in
    let ps = c.args.branches.now in
    let last = c.args.last.now in
    rw (p.1, p.2) (same_refusal (seen r) (λ k. with_value (branches_value r ps last) (cell_of k)) c.in_err-k.field-0.0 s s (branch_cell r.mode (plain_type c.args.t.now) c.args.at (pairs_by (seen r) ps) (seen r last) s) (refused_told r (plain_type c.args.t.now) c.args.at ps last c.in_ok-copy.copy c.in_err-k.field-0.0 s s (sym c.requires) c.in_ok-copy.ensures.of (c.in_err-k.ensures.by s)))

pub returns : goal.returns
returns c r s = value_told r (plain_type c.args.t.now) c.args.at c.args.branches.now c.args.last.now c.in_ok-copy.copy c.in_ok-k.k s (sym c.requires) c.in_ok-copy.ensures.of (c.in_ok-k.ensures.by s)
