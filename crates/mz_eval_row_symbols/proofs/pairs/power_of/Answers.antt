use Rattle.std.proofs.Common.{◌∙◌, [], ◌∷◌, Some, pos, refl, sym, ap}
use Rattle.mz_value.specs.Contents as values
use Rattle.mz_core.specs.Types.{plain_type}
use Rattle.mz_operations.specs.declared.row.ScalarRow.TheVariants as scalar
use Rattle.mz_operations.specs.declared.row.Row.TheVariants.{Scalar}
use Rattle.mz_symbol.proofs.ConstantLaws.{out_value, out_state}
use Rattle.mz_symbol_rows.specs.RowValues.{argument}
use Rattle.mz_symbol_rows.proofs.RowLaws.{out_both}
use Rattle.mz_eval_symbols.specs.Taken.{cell_value}
use Rattle.mz_eval_row_symbols.specs.NodeRows.{exact_row, row_told, told}
use Rattle.mz_eval_row_symbols.specs.StepsRows.{gives_truth, IsTold}
use Rattle.mz_eval_row_symbols.proofs.ToldLaws.{second_value}
use Rattle.mz_eval_row_symbols.proofs.ValueLaws.{scalar_told, told_same}
use Rattle.mz_eval_row_symbols.proofs.pairs.power_of.Goals as goal

pub returns-clause-means : goal.returns-clause-means
returns-clause-means c names r h =
    let e = c.in-Ok.ensures.means names r h in
    let f = c.in_ok-x.ensures.means r (c.in-Ok.ensures.goes.back r h) in
    let t = plain_type c.args.t.now in
    let w = Some (values.int (pos c.in_ok-k.k)) in
    let x = argument r c.in_ok-x.x in
    let is : IsTold (gives_truth scalar.Power) t c.in-Ok.s = told_same t refl c.in_ok-told.ensures.same c.in_ok-told.ensures.told in
    out_both (ap (λ v. row_told r names (Scalar scalar.Power) t (v ∷ cell_value r c.args.b.now.cell ∷ [])) (out_value f)
    ∙ ap (λ v. row_told r names (Scalar scalar.Power) t (x ∷ v ∷ [])) (c.in_ok-k.ensures.value r)
    ∙ second_value r.mode (λ vs. told t (exact_row names (Scalar scalar.Power) t vs)) x w
    ∙ sym (scalar_told r names scalar.Power t c.in-Ok.s (x ∷ w ∷ []) is (sym (out_value e)))
    ∙ ap (argument r) (sym c.in_ok-told.ensures.same)) (out_state f ∙ out_state e)
