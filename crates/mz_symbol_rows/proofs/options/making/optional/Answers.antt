use Rattle.std.proofs.Common.{◌∙◌, sym, ap}
use Rattle.mz_symbol.specs.Readings.{symbol_seen}
use Rattle.mz_symbol.proofs.ConstantLaws.{out_value, out_state}
use Rattle.mz_symbol_rows.proofs.RowLaws.{out_both}
use Rattle.mz_symbol_rows.proofs.MakingLaws.{optional_held}
use Rattle.mz_symbol_rows.proofs.options.making.optional.Goals as goal

pub returns-clause-means : goal.returns-clause-means
returns-clause-means c r h =
    let e = c.in_ok-yes.ensures.means r h in
    let f = c.in_ok-term.ensures.means r (c.in_ok-yes.ensures.goes.back r h) in
    out_both (optional_held r c.in_ok-term.term c.in_ok-yes.yes c.args.a (c.is_plain.ensures c.if-not-is_plain.false) (out_value f) (out_value e) ∙ ap (symbol_seen r) (sym c.symbol.ensures)) (out_state f ∙ out_state e)
