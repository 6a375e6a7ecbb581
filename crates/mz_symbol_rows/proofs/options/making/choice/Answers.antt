use Rattle.std.proofs.Common.{◌∙◌, sym, ap}
use Rattle.mz_symbol.specs.Readings.{symbol_seen}
use Rattle.mz_symbol.proofs.ConstantLaws.{out_value, out_state}
use Rattle.mz_symbol_rows.proofs.RowLaws.{out_both}
use Rattle.mz_symbol_rows.proofs.MakingLaws.{choice_held}
use Rattle.mz_symbol_rows.proofs.options.making.choice.Goals as goal

pub returns-in_ok-term-in-Some-clause-means : goal.returns-in_ok-term-in-Some-clause-means
returns-in_ok-term-in-Some-clause-means c r h =
    let e = c.in_ok-term-in-Some.ensures.means r h in
    let f = c.in_ok-taken.ensures.means r (c.in_ok-term-in-Some.ensures.goes.back r h) in
    out_both (choice_held r _ c.in-Some.o c.in_ok-term-in-Some.term c.in_ok-taken.taken c.in-Some.is (out_value e) (out_value f) ∙ ap (symbol_seen r) (sym c.symbol.ensures)) (out_state f ∙ out_state e)
