use Rattle.std.proofs.Common.{◌∙◌, [], ◌∷◌, sym, ap}
use Rattle.mz_core.specs.Types.{plain_type}
use Rattle.mz_operations.specs.declared.row.Row.TheVariants.{Made}
use Rattle.mz_meaning.specs.Exact.{exact_value}
use Rattle.mz_symbol.proofs.ConstantLaws.{out_value, out_state}
use Rattle.mz_symbol_rows.proofs.RowLaws.{out_both}
use Rattle.mz_eval_symbols.specs.Taken.{line_seen, ranges_in}
use Rattle.mz_eval_row_symbols.specs.NodeRows.{row_told}
use Rattle.mz_eval_row_symbols.proofs.sets.sets_row.Goals as goal

pub returns-clause-means : goal.returns-clause-means
returns-clause-means c names r h =
    let e = c.in-Ok.ensures.means names (ranges_in c.args.a.now.cell) r h in
    let t = plain_type c.args.t.now in
    let v = line_seen c.args.a.now.cell r c.in_ok-n.n in
    let f = c.in_ok-n.ensures.means r (c.in-Ok.ensures.goes.back r h) in
    out_both (ap (λ x. row_told r names (Made c.args.w) t (x ∷ [])) (out_value f)
    ∙ sym (c.in_ok-told.ensures r (exact_value names (Made c.args.w) (v ∷ [])) (sym (out_value e)))) (out_state f ∙ out_state e)
