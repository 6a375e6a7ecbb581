use Rattle.std.proofs.Common.{◌∙◌, sym, ap}
use Rattle.mz_symbol.specs.Readings.{symbol_seen}
use Rattle.mz_symbol.proofs.ConstantLaws.{out_value, out_state}
use Rattle.mz_symbol_rows.proofs.RowLaws.{out_both}
use Rattle.mz_symbol_rows.proofs.ComparisonLaws.{order_held}
use Rattle.mz_symbol_rows.proofs.comparisons.order.Goals as goal

pub returns-clause-means : goal.returns-clause-means
returns-clause-means c r h =
    let e = c.in_ok-term.ensures.means r h in
    let back = c.in_ok-term.ensures.goes.back r h in
    let f = c.in_ok-y.ensures.means r back in
    let g = c.in_ok-x.ensures.means r (c.in_ok-y.ensures.goes.back r back) in
    out_both (order_held r c.args.op c.args.a c.args.b c.in_ok-x.x c.in_ok-y.y c.in_ok-term.term (c.is_pair.ensures c.if-not-is_pair.false) (out_value g) (out_value f) (out_value e) ∙ ap (symbol_seen r) (sym c.symbol.ensures)) (out_state g ∙ out_state f ∙ out_state e)
