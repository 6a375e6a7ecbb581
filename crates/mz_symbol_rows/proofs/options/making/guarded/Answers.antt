use Rattle.std.proofs.Common.{◌∙◌, sym, ap}
use Rattle.mz_symbol.specs.Readings.{symbol_seen}
use Rattle.mz_symbol.proofs.ConstantLaws.{out_value, out_state}
use Rattle.mz_symbol_rows.proofs.RowLaws.{out_both}
use Rattle.mz_symbol_rows.proofs.MakingLaws.{guarded_plain, guarded_option}
use Rattle.mz_symbol_rows.proofs.options.making.guarded.Goals as goal

pub returns-in_ok-term-in-None-clause-means : goal.returns-in_ok-term-in-None-clause-means
returns-in_ok-term-in-None-clause-means c r h =
    let e = c.in_ok-term-in-None.ensures.means r h in
    out_both (guarded_plain r c.args.d c.in_ok-term-in-None.term c.args.a c.in-None.is (out_value e) ∙ ap (symbol_seen r) (sym c.symbol.ensures)) (out_state e)

pub returns-in_ok-there-in-Some-clause-means : goal.returns-in_ok-there-in-Some-clause-means
returns-in_ok-there-in-Some-clause-means c r h =
    let e = c.in_ok-there-in-Some.ensures.means r h in
    let f = c.in_ok-term-in-Some.ensures.means r (c.in_ok-there-in-Some.ensures.goes.back r h) in
    out_both (guarded_option r c.args.d c.in-Some.o c.in_ok-term-in-Some.term c.in_ok-there-in-Some.there c.args.a c.in-Some.is (out_value f) (out_value e) ∙ ap (symbol_seen r) (sym c.symbol-in-Some.ensures)) (out_state f ∙ out_state e)
