use Rattle.std.proofs.Common.{◌∙◌, [], ◌∷◌, refl, sym, ap}
use Rattle.mz_core.specs.Types.{plain_type}
use Rattle.mz_operations.specs.declared.row.ScalarRow.TheVariants as scalar
use Rattle.mz_operations.specs.declared.row.Row.TheVariants.{Scalar}
use Rattle.mz_symbol.proofs.ConstantLaws.{out_value, out_state}
use Rattle.mz_symbol_rows.specs.RowValues.{argument}
use Rattle.mz_symbol_rows.proofs.RowLaws.{out_both}
use Rattle.mz_eval_symbols.specs.Taken.{line_seen, ranges_in}
use Rattle.mz_eval_row_symbols.specs.NodeRows.{row_told}
use Rattle.mz_eval_row_symbols.specs.StepsRows.{gives_truth, IsTold}
use Rattle.mz_eval_row_symbols.proofs.ValueLaws.{scalar_told, told_same}
use Rattle.mz_eval_row_symbols.proofs.lines.symbol_of_fold.Goals as goal

pub returns-clause-means : goal.returns-clause-means
returns-clause-means c names r h =
    let e = c.in-Ok.ensures.means names (ranges_in c.args.a.now.cell) r h in
    let t = plain_type c.args.t.now in
    let v = line_seen c.args.a.now.cell r c.in_ok-n.n in
    let f = c.in_ok-n.ensures.means r (c.in-Ok.ensures.goes.back r h) in
    let told : IsTold (gives_truth (scalar.Fold c.args.op)) t c.in-Ok.s = told_same t refl c.in_ok-told.ensures.same c.in_ok-told.ensures.told in
    out_both (ap (λ x. row_told r names (Scalar (scalar.Fold c.args.op)) t (x ∷ [])) (out_value f)
    ∙ sym (scalar_told r names (scalar.Fold c.args.op) t c.in-Ok.s (v ∷ []) told (sym (out_value e)))
    ∙ ap (argument r) (sym c.in_ok-told.ensures.same)) (out_state f ∙ out_state e)
