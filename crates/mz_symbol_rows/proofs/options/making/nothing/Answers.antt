use Rattle.std.proofs.Common.{◌∙◌, sym, ap}
use Rattle.mz_symbol.specs.Readings.{symbol_seen}
use Rattle.mz_symbol.proofs.ConstantLaws.{out_value, out_state}
use Rattle.mz_symbol_rows.proofs.RowLaws.{out_both}
use Rattle.mz_symbol_rows.proofs.MakingLaws.{nothing_held}
use Rattle.mz_symbol_rows.proofs.options.making.nothing.Goals as goal

pub returns-clause-means : goal.returns-clause-means
returns-clause-means c r h =
    let e = c.in_ok-no.ensures.means r h in
    let f = c.in_ok-zero.ensures.means r (c.in_ok-no.ensures.goes.back r h) in
    out_both (nothing_held r c.args.base c.in_ok-zero.zero c.in_ok-no.no (out_value e) ∙ ap (symbol_seen r) (sym c.symbol.ensures)) (out_state f ∙ out_state e)
