use Rattle.std.proofs.Common.{◌∙◌, [], ◌∷◌, sym, ap}
use Rattle.mz_core.specs.Types.{plain_type}
use Rattle.mz_operations.specs.declared.row.Row.TheVariants.{Made}
use Rattle.mz_symbol.proofs.ConstantLaws.{out_value, out_state}
use Rattle.mz_symbol_rows.specs.RowValues.{argument}
use Rattle.mz_symbol_rows.proofs.RowLaws.{out_both}
use Rattle.mz_eval_symbols.specs.Taken.{cell_value}
use Rattle.mz_eval_row_symbols.specs.NodeRows.{row_told}
use Rattle.mz_eval_row_symbols.specs.StepsRows.{made_truth, IsTold}
use Rattle.mz_eval_row_symbols.proofs.ValueLaws.{made_told, told_same}
use Rattle.mz_eval_row_symbols.proofs.told.made_of_two.Goals as goal

pub returns-clause-means : goal.returns-clause-means
returns-clause-means c names r h =
    let e = c.in-Ok.ensures.means names r h in
    let back = c.in-Ok.ensures.goes.back r h in
    let g = c.in_ok-y.ensures.means r back in
    let f = c.in_ok-x.ensures.means r (c.in_ok-y.ensures.goes.back r back) in
    let t = plain_type c.args.t.now in
    let told : IsTold (made_truth c.args.w) t c.in-Ok.s = told_same t c.made_truth.ensures c.in_ok-told.ensures.same c.in_ok-told.ensures.told in
    out_both (ap (λ v. row_told r names (Made c.args.w) t (v ∷ cell_value r c.args.b.now.cell ∷ [])) (out_value f)
    ∙ ap (λ v. row_told r names (Made c.args.w) t (argument r c.in_ok-x.x ∷ v ∷ [])) (out_value g)
    ∙ sym (made_told r names c.args.w t c.in-Ok.s (argument r c.in_ok-x.x ∷ argument r c.in_ok-y.y ∷ []) told (sym (out_value e)))
    ∙ ap (argument r) (sym c.in_ok-told.ensures.same)) (out_state f ∙ out_state g ∙ out_state e)
