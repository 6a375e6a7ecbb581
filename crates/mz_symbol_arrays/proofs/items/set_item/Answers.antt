use Rattle.std.proofs.Common.{◌∙◌, None}
use Rattle.mz_symbol.proofs.ConstantLaws.{out_value, out_state}
use Rattle.mz_symbol_arrays.specs.StepsArrays.{symbol_of}
use Rattle.mz_symbol_arrays.proofs.ItemLaws.{made, set_made}
use Rattle.mz_symbol_arrays.proofs.items.set_item.Goals as goal

pub returns-clause-item : goal.returns-clause-item
returns-clause-item c r h =
    let e = c.in_ok-there.ensures.means r h in
    let f = c.in_ok-size.ensures.means r (c.in_ok-there.ensures.goes.back r h) in
    made r c.args.run.now c.number_there.new.run (symbol_of c.args.b None c.args.x) (symbol_of c.args.b None c.args.x) c.symbol.result c.in_ok-there.there c.symbol.ensures (out_state f ∙ out_state e) (set_made r.term c.args.b c.args.x c.in_ok-size.size c.in_ok-there.there c.requires (out_value f) (out_value e))
