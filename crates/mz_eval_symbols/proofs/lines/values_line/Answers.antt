use Rattle.std.proofs.Common.{◌∙◌, map}
use Rattle.mz_value.specs.Contents.{content}
use Rattle.mz_symbol.proofs.ConstantLaws.{out_value, out_state}
use Rattle.mz_symbol.proofs.RunLaws.{goes_on}
use Rattle.mz_symbol_rows.proofs.RowLaws.{out_both}
use Rattle.mz_eval_symbols.specs.Steps.{item_cast}
use Rattle.mz_eval_symbols.proofs.LineLaws.{constants_line, constants_whole, goes_items}
use Rattle.mz_eval_symbols.proofs.lines.values_line.Goals as goal

pub push_line-requires : goal.push_line-requires
push_line-requires c = constants_whole c.args.run.now c.constants.new.run c.truth_node.new.self (map (item_cast c.args.cast) (map content c.args.items.now)) c.args.count c.in_ok-yes.yes c.in-Ok.all.items c.in_ok-yes.ensures.goes c.in-Ok.ensures.made

pub returns-in_err-line-clause-goes : goal.returns-in_err-line-clause-goes
returns-in_err-line-clause-goes c = goes_items c.args.count c.args.run.now c.truth_node.new.self c.push_line.new.self c.in-Ok.all.items c.in-Ok.ensures.count (goes_on c.args.run.now c.constants.new.run c.truth_node.new.self c.constants.ensures.goes c.truth_node.ensures.goes) c.push_line.ensures.goes

pub returns-clause-goes : goal.returns-clause-goes
returns-clause-goes c = goes_items c.args.count c.args.run.now c.truth_node.new.self c.push_line.new.self c.in-Ok.all.items c.in-Ok.ensures.count (goes_on c.args.run.now c.constants.new.run c.truth_node.new.self c.constants.ensures.goes c.truth_node.ensures.goes) c.push_line.ensures.goes

pub returns-clause-means : goal.returns-clause-means
returns-clause-means c r h =
    let e = c.in_ok-line.ensures.means r h in
    let h2 = c.in_ok-line.ensures.goes.back r h in
    let f = c.in_ok-yes.ensures.means r h2 in
    let a = c.in-Ok.ensures.made r (c.in_ok-yes.ensures.goes.back r h2) in
    out_both (constants_line r c.args.run.now c.constants.new.run c.args.cast c.args.items.now c.args.count c.in_ok-yes.yes c.in-Ok.all.items a c.requires (out_value f) ∙ out_value e) (a.same ∙ out_state f ∙ out_state e)
