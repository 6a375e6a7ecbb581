use Rattle.std.proofs.Common.{◌∙◌, None}
use Rattle.mz_symbol.proofs.ConstantLaws.{out_value, out_state}
use Rattle.mz_symbol_arrays.specs.StepsArrays.{symbol_of}
use Rattle.mz_symbol_arrays.proofs.ItemLaws.{made, truth_made}
use Rattle.mz_symbol_arrays.proofs.items.truth_item.Goals as goal

pub returns-clause-item : goal.returns-clause-item
returns-clause-item c r h =
    let e = c.in_ok-yes.ensures.means r h in
    let f = c.in_ok-term.ensures.settles r (c.in_ok-yes.ensures.goes.back r h) in
    made r c.args.run.now c.truth_node.new.self (symbol_of c.args.b None c.args.x) (symbol_of c.args.b None c.in_ok-term.term) c.symbol.result c.in_ok-yes.yes c.symbol.ensures (f.same ∙ out_state e) (truth_made r.term c.args.b c.args.x c.in_ok-term.term c.in_ok-yes.yes c.requires f.truth f.there (out_value e))
