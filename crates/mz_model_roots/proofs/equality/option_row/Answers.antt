use Rattle.std.proofs.Common.{◌∙◌, [], ◌∷◌, ap}
use Rattle.mz_operations.specs.declared.row.ScalarRow.TheVariants as row
use Rattle.mz_operations.specs.Values.{scalar_value}
use Rattle.mz_meaning.specs.Cells.{held}
use Rattle.mz_symbol.proofs.ConstantLaws.{out_value, out_state}
use Rattle.mz_symbol.specs.Arguments.{truth_of}
use Rattle.mz_symbol_rows.specs.RowValues.{argument}
use Rattle.mz_symbol_rows.proofs.RowLaws.{out_both}
use Rattle.mz_model_roots.proofs.equality.option_row.Goals as goal

pub returns-clause-means : goal.returns-clause-means
returns-clause-means c r h =
    let e = c.in_ok-s.ensures.means r h in
    let f = c.in_ok-z.ensures.means r (c.in_ok-s.ensures.goes.back r h) in
    out_both (ap (λ v. held r.mode (truth_of (scalar_value row.Equal (argument r c.args.x ∷ v ∷ [])))) (out_value f) ∙ out_value e) (out_state f ∙ out_state e)
