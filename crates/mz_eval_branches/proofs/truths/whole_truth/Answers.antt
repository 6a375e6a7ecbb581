use Rattle.std.proofs.Common.{◌∙◌}
use Rattle.mz_symbol.proofs.ConstantLaws.{out_value, out_state}
use Rattle.mz_symbol_rows.proofs.RowLaws.{out_both}
use Rattle.mz_symbol_rows.specs.RowValues.{argument}
use Rattle.mz_eval_symbols.specs.Taken.{cell_value}
use Rattle.mz_eval_branches.proofs.TruthLaws.{goes_whole, whole_told}
use Rattle.mz_eval_branches.proofs.truths.whole_truth.Goals as goal

pub returns-in_err-yes-clause-goes : goal.returns-in_err-yes-clause-goes
returns-in_err-yes-clause-goes c = goes_whole c.args.run.now c.symbol_in.new.run c.truth_node.new.self c.symbol_in.ensures.goes c.truth_node.ensures.goes

pub returns-clause-goes : goal.returns-clause-goes
returns-clause-goes c = goes_whole c.args.run.now c.symbol_in.new.run c.truth_node.new.self c.symbol_in.ensures.goes c.truth_node.ensures.goes

pub returns-clause-means : goal.returns-clause-means
returns-clause-means c r h =
    let e = c.in_ok-yes.ensures.means r h in
    let f = c.in_ok-s.ensures.means r (c.in_ok-yes.ensures.goes.back r h) in
    out_both (whole_told r (cell_value r c.args.k.now) (argument r c.in_ok-s.s) c.in_ok-id.id c.in_ok-yes.yes (out_value f) (c.in_ok-id.ensures r) (out_value e)) (out_state f ∙ out_state e)
