use Rattle.std.proofs.Common.{◌∙◌, ap, sym}
use Rattle.mz_symbol.proofs.ConstantLaws.{out_value, out_state}
use Rattle.mz_symbol_rows.proofs.RowLaws.{out_both}
use Rattle.mz_eval_cells.specs.Views.{cell_of}
use Rattle.mz_eval_arrays.specs.StepsBranches.{with_value}
use Rattle.mz_eval_branches.proofs.choosing.array_choice.Goals as goal

pub returns-clause-means : goal.returns-clause-means
returns-clause-means c r h =
    let e = c.in_ok-line.ensures.means r h in
    out_both (ap (λ v. with_value v (cell_of c.args.k.now)) (out_value e) ∙ sym (c.in_ok-x.ensures r)) (out_state e)
