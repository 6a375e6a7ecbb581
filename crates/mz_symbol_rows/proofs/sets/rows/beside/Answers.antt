use Rattle.std.proofs.Common.{◌∙◌, sym, ap}
use Rattle.mz_symbol.specs.Readings.{symbol_seen}
use Rattle.mz_symbol.proofs.ConstantLaws.{out_value, out_state}
use Rattle.mz_symbol_rows.proofs.RowLaws.{out_both}
use Rattle.mz_symbol_rows.proofs.SetLaws.{beside_held}
use Rattle.mz_symbol_rows.proofs.sets.rows.beside.Goals as goal

pub returns-clause-means : goal.returns-clause-means
returns-clause-means c r h =
    let e = c.in_ok-term.ensures.means r h in
    out_both (beside_held r c.args.side c.args.s c.args.a c.in_ok-case.case.0 c.in_ok-set.set c.in_ok-case.case.1 c.in_ok-term.term c.in_ok-set.ensures c.in_ok-case.ensures (out_value e) ∙ ap (symbol_seen r) (sym c.symbol.ensures)) (out_state e)
