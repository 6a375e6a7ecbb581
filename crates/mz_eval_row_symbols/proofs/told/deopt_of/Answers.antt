use Rattle.std.proofs.Common.{◌∙◌, [], ◌∷◌, sym, ap}
use Rattle.mz_core.specs.Types.{plain_type}
use Rattle.mz_operations.specs.declared.row.MadeRow.TheVariants as made
use Rattle.mz_operations.specs.declared.row.Row.TheVariants.{Made}
use Rattle.mz_meaning.specs.Cells.{is_bool}
use Rattle.mz_symbol.proofs.ConstantLaws.{out_value, out_state}
use Rattle.mz_symbol_rows.specs.RowValues.{argument}
use Rattle.mz_symbol_rows.proofs.RowLaws.{out_both}
use Rattle.mz_eval_row_symbols.specs.NodeRows.{row_told}
use Rattle.mz_eval_row_symbols.specs.StepsRows.{IsTold}
use Rattle.mz_eval_row_symbols.proofs.ValueLaws.{deopt_told, told_same}
use Rattle.mz_eval_row_symbols.proofs.told.deopt_of.Goals as goal

pub returns-clause-means : goal.returns-clause-means
returns-clause-means c names r h =
    let e = c.in_ok-s.ensures.means r h in
    let f = c.in_ok-x.ensures.means r (c.in_ok-s.ensures.goes.back r h) in
    let t = plain_type c.args.t.now in
    let told : IsTold (is_bool c.in_ok-x.x.base) t c.in_ok-s.s = told_same t c.is_bool.ensures c.in_ok-told.ensures.same c.in_ok-told.ensures.told in
    out_both (ap (λ v. row_told r names (Made made.Deopt) t (v ∷ [])) (out_value f)
    ∙ sym (deopt_told r names t c.in_ok-x.x c.in_ok-s.s told (sym (out_value e)))
    ∙ ap (argument r) (sym c.in_ok-told.ensures.same)) (out_state f ∙ out_state e)
