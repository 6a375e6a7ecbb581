use Rattle.std.proofs.Common.{◌∙◌}
use Rattle.mz_symbol.proofs.ConstantLaws.{out_value, out_state}
use Rattle.mz_symbol_rows.proofs.RowLaws.{out_both}
use Rattle.mz_eval_symbols.proofs.LineLaws.{line_undefined, undefined_whole}
use Rattle.mz_eval_branches.proofs.LineLaws.{blank_told, goes_blank}
use Rattle.mz_eval_branches.proofs.lines.blank_line.Goals as goal

pub push_line-requires : goal.push_line-requires
push_line-requires c = undefined_whole c.args.run.now c.truth_node.new.self c.in_ok-no.no c.in_ok-items.items.items (λ r h. out_value (c.in_ok-no.ensures.means r h))

pub returns-in_err-line-clause-goes : goal.returns-in_err-line-clause-goes
returns-in_err-line-clause-goes c = goes_blank c.args.count c.args.run.now c.truth_node.new.self c.push_line.new.self c.in_ok-items.items.items c.in_ok-items.ensures c.truth_node.ensures.goes c.push_line.ensures.goes

pub returns-clause-goes : goal.returns-clause-goes
returns-clause-goes c = goes_blank c.args.count c.args.run.now c.truth_node.new.self c.push_line.new.self c.in_ok-items.items.items c.in_ok-items.ensures c.truth_node.ensures.goes c.push_line.ensures.goes

pub returns-clause-means : goal.returns-clause-means
returns-clause-means c like r h =
    let e = c.in_ok-line.ensures.means r h in
    let f = c.in_ok-no.ensures.means r (c.in_ok-line.ensures.goes.back r h) in
    out_both (blank_told r like c.in_ok-line.line (line_undefined r.term c.in_ok-no.no c.in_ok-items.items.items (out_value f) ∙ out_value e)) (out_state f ∙ out_state e)
