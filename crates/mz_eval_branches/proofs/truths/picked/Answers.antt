use Rattle.std.proofs.Common.{◌∙◌}
use Rattle.mz_symbol.proofs.ConstantLaws.{out_value, out_state}
use Rattle.mz_symbol_rows.proofs.RowLaws.{out_both}
use Rattle.mz_eval_branches.proofs.TruthLaws.{goes_first, goes_nodes, picked_told}
use Rattle.mz_eval_branches.proofs.truths.picked.Goals as goal

pub returns-in_err-yes-clause-goes : goal.returns-in_err-yes-clause-goes
returns-in_err-yes-clause-goes c = goes_first c.args.run.now c.if_node.new.run c.if_node.ensures.goes

pub returns-in_err-defined-clause-goes : goal.returns-in_err-defined-clause-goes
returns-in_err-defined-clause-goes c = goes_nodes c.args.run.now c.if_node.new.run c.if_node-2.new.run c.if_node.ensures.goes c.if_node-2.ensures.goes

pub returns-clause-goes : goal.returns-clause-goes
returns-clause-goes c = goes_nodes c.args.run.now c.if_node.new.run c.if_node-2.new.run c.if_node.ensures.goes c.if_node-2.ensures.goes

pub returns-clause-means : goal.returns-clause-means
returns-clause-means c r h =
    let f = c.in_ok-defined.ensures.means r h in
    let e = c.in_ok-yes.ensures.means r (c.in_ok-defined.ensures.goes.back r h) in
    out_both (picked_told r c.args.id c.args.x c.args.y (c.in_ok-yes.yes, c.in_ok-defined.defined) (out_value e) (out_value f)) (out_state e ∙ out_state f)
