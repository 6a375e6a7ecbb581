use Rattle.std.proofs.Common.{◌∙◌, ap, sym, refl}
use Rattle.mz_symbol_rows.proofs.RowLaws.{out_both}
use Rattle.mz_eval_cells.specs.Views.{cell_of}
use Rattle.mz_eval_arrays.specs.StepsBranches.{with_value}
use Rattle.mz_eval_branches.proofs.choosing.valued.Goals as goal

pub returns-then-no_values-clause-means : goal.returns-then-no_values-clause-means
returns-then-no_values-clause-means c r h = out_both (ap (λ v. with_value v (cell_of c.args.k)) (c.no_values.ensures c.if-no_values.true r) ∙ sym (c.in_ok-x.ensures r)) refl
