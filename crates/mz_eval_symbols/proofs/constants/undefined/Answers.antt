use Rattle.std.proofs.Common.{◌∙◌, sym, ap}
use Rattle.mz_meaning.specs.Cells.{held}
use Rattle.mz_symbol.proofs.ConstantLaws.{out_value, out_state}
use Rattle.mz_symbol_rows.proofs.RowLaws.{out_both}
use Rattle.mz_eval_symbols.proofs.constants.undefined.Goals as goal

pub returns-clause-means : goal.returns-clause-means
returns-clause-means c r h =
    let e = c.in_ok-yes.ensures.means r h in
    let h1 = c.in_ok-yes.ensures.goes.back r h in
    let f = c.in_ok-term.ensures.means r h1 in
    let h0 = c.in_ok-term.ensures.goes.back r h1 in
    out_both (ap (held r.mode) (sym (c.in_ok-s.ensures r.term (out_value e) (out_value f)))) (c.in-Ok.ensures.same r h0 ∙ out_state f ∙ out_state e)
