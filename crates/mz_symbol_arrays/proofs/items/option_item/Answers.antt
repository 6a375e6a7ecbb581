use Rattle.std.proofs.Common.{◌∙◌, Some}
use Rattle.mz_symbol.proofs.ConstantLaws.{out_value, out_state}
use Rattle.mz_symbol_arrays.specs.StepsArrays.{symbol_of}
use Rattle.mz_symbol_arrays.proofs.ItemLaws.{made, option_made}
use Rattle.mz_symbol_arrays.proofs.items.option_item.Goals as goal

pub returns-clause-item : goal.returns-clause-item
returns-clause-item c r h =
    let e = c.in_ok-there.ensures.means r h in
    let h2 = c.in_ok-there.ensures.goes.back r h in
    let f = c.in_ok-term.ensures.fills r h2 in
    let g = c.in_ok-occurs.ensures.settles r (c.in_ok-term.ensures.goes.back r h2) in
    made r c.args.run.now c.number_there.new.run (symbol_of c.args.b (Some c.args.o) c.args.x) (symbol_of c.args.b (Some c.in_ok-occurs.occurs) c.in_ok-term.term) c.symbol.result c.in_ok-there.there c.symbol.ensures (g.same ∙ f.same ∙ out_state e)
    (option_made r.term c.args.b c.args.o c.args.x c.in_ok-occurs.occurs c.in_ok-term.term c.in_ok-there.there c.requires g.truth g.there f.filled (out_value e))
