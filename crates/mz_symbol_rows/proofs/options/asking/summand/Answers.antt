use Rattle.std.proofs.Common.{◌∙◌, sym, ap}
use Rattle.mz_symbol.specs.Readings.{symbol_seen}
use Rattle.mz_symbol.proofs.ConstantLaws.{out_value, out_state}
use Rattle.mz_symbol_rows.proofs.RowLaws.{out_both}
use Rattle.mz_symbol_rows.proofs.AskingLaws.{summand_held}
use Rattle.mz_symbol_rows.proofs.options.asking.summand.Goals as goal

pub returns-in_ok-term-in-Int-clause-means : goal.returns-in_ok-term-in-Int-clause-means
returns-in_ok-term-in-Int-clause-means c r h =
    let e = c.in_ok-term-in-Int.ensures.means r h in
    out_both (summand_held r c.in_ok-o.o c.in_ok-term-in-Int.term c.args.a c.in_ok-o.ensures c.in-Int.is (out_value e) ∙ ap (symbol_seen r) (sym c.symbol.ensures)) (out_state e)
