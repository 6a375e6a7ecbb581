use Rattle.std.proofs.Common.{◌∙◌}
use Rattle.mz_symbol.proofs.ConstantLaws.{out_value, out_state}
use Rattle.mz_symbol.proofs.RunLaws.{goes_on}
use Rattle.mz_symbol_rows.proofs.RowLaws.{out_both}
use Rattle.mz_eval_symbols.proofs.LineLaws.{line_undefined, undefined_whole, goes_items}
use Rattle.mz_eval_symbols.proofs.lines.undefined_line.Goals as goal

pub push_line-requires : goal.push_line-requires
push_line-requires c = undefined_whole c.plain_node.new.run c.truth_node.new.self c.in_ok-no.no c.in_ok-all.all.items (λ r h. out_value (c.in_ok-no.ensures.means r h))

pub returns-in_err-line-clause-goes : goal.returns-in_err-line-clause-goes
returns-in_err-line-clause-goes c = goes_items c.args.count c.args.run.now c.truth_node.new.self c.push_line.new.self c.in_ok-all.all.items c.in_ok-all.ensures (goes_on c.args.run.now c.plain_node.new.run c.truth_node.new.self c.plain_node.ensures.goes c.truth_node.ensures.goes) c.push_line.ensures.goes

pub returns-clause-goes : goal.returns-clause-goes
returns-clause-goes c = goes_items c.args.count c.args.run.now c.truth_node.new.self c.push_line.new.self c.in_ok-all.all.items c.in_ok-all.ensures (goes_on c.args.run.now c.plain_node.new.run c.truth_node.new.self c.plain_node.ensures.goes c.truth_node.ensures.goes) c.push_line.ensures.goes

pub returns-clause-means : goal.returns-clause-means
returns-clause-means c r h =
    let e = c.in_ok-line.ensures.means r h in
    let h2 = c.in_ok-line.ensures.goes.back r h in
    let f = c.in_ok-no.ensures.means r h2 in
    let h1 = c.in_ok-no.ensures.goes.back r h2 in
    out_both (line_undefined r.term c.in_ok-no.no c.in_ok-all.all.items (out_value f) ∙ out_value e) (c.in-Ok.ensures.same r h1 ∙ out_state f ∙ out_state e)
