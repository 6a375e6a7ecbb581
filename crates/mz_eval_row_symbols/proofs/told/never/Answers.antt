use Rattle.std.proofs.Common.{◌∙◌, [], ◌∷◌, sym, ap}
use Rattle.mz_core.specs.Types.{plain_type}
use Rattle.mz_meaning.specs.Cells.{held}
use Rattle.mz_symbol.proofs.ConstantLaws.{out_value, out_state}
use Rattle.mz_symbol_rows.specs.RowValues.{argument}
use Rattle.mz_symbol_rows.proofs.RowLaws.{out_both}
use Rattle.mz_eval_symbols.specs.Taken.{cell_value}
use Rattle.mz_eval_row_symbols.specs.StepsRows.{gives_truth, IsTold}
use Rattle.mz_eval_row_symbols.proofs.NeverLaws.{never_told}
use Rattle.mz_eval_row_symbols.proofs.ValueLaws.{scalar_told, told_same}
use Rattle.mz_eval_row_symbols.proofs.told.never.Goals as goal

pub returns-clause-means : goal.returns-clause-means
returns-clause-means c names r h =
    let e = c.in_ok-s.ensures.means r h in
    let t = plain_type c.args.t.now in
    let a = c.args.a.now.cell in
    let b = c.args.b.now.cell in
    let told : IsTold (gives_truth c.args.w) t c.in_ok-s.s = told_same t (sym c.requires.truth) c.in_ok-told.ensures.same c.in_ok-told.ensures.told in
    out_both
    (sym (scalar_told r names c.args.w t c.in_ok-s.s (cell_value r a ∷ cell_value r b ∷ []) told (sym (out_value e) ∙ ap (held r.mode) (never_told r names c.args.w a b c.requires)))
    ∙ ap (argument r) (sym c.in_ok-told.ensures.same)) (out_state e)
