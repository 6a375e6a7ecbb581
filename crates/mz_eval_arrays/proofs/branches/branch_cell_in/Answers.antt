use Rattle.std.proofs.Common.{◌∙◌, sym}
use Rattle.std.proofs.lemmas.Result.{err_from_is_err_and}
use Rattle.mz_core.specs.Types.{plain_type}
use Rattle.mz_symbol.specs.Readings.{state_of}
use Rattle.mz_eval_cells.specs.Views.{seen}
use Rattle.mz_eval_arrays.specs.Gathered.{pairs_by}
use Rattle.mz_eval_arrays.proofs.BranchLaws.{last_told, refused_told, value_told}
use Rattle.mz_eval_arrays.proofs.branches.branch_cell_in.Goals as goal

pub returns-else-is_var-clause-means : goal.returns-else-is_var-clause-means
returns-else-is_var-clause-means c r h = last_told r.mode (plain_type c.args.t.now) c.args.at (pairs_by (seen r) c.args.branches.now) (seen r c.args.last) (state_of r c.args.run.now) (sym c.if-is_var.false ∙ c.is_var.ensures)

pub returns-in_err-k-clause-means : goal.returns-in_err-k-clause-means
returns-in_err-k-clause-means c r h =
    let p = err_from_is_err_and c.from_residual-in_err-k.result c.from_residual-in_err-k.ensures.1 in
    rw (p.1, p.2) (refused_told r (plain_type c.args.t.now) c.args.at c.args.branches.now c.args.last c.in_ok-copy.copy c.in_err-k.field-0.0 (state_of r c.args.run.now) (state_of r c.args.run.now) (sym c.if-is_var.true ∙ c.is_var.ensures) c.in_ok-copy.ensures.of (c.in_err-k.ensures.by (state_of r c.args.run.now)))

pub returns-in_ok-x-clause-means : goal.returns-in_ok-x-clause-means
returns-in_ok-x-clause-means c r h =
    value_told r (plain_type c.args.t.now) c.args.at c.args.branches.now c.args.last c.in_ok-copy.copy c.in_ok-k.k (state_of r c.args.run.now) (sym c.if-is_var.true ∙ c.is_var.ensures) c.in_ok-copy.ensures.of (c.in_ok-k.ensures.by (state_of r c.args.run.now))
    ∙ c.in_ok-x.ensures.means r h
