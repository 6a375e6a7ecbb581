use Rattle.std.proofs.Common.{◌∙◌}
use Rattle.mz_symbol.proofs.ConstantLaws.{out_value, out_state}
use Rattle.mz_symbol_rows.proofs.RowLaws.{out_both}
use Rattle.mz_eval_symbols.specs.Taken.{count_in}
use Rattle.mz_eval_arrays.proofs.BranchLaws.{first_told}
use Rattle.mz_eval_branches.specs.BranchLines.{option_seen}
use Rattle.mz_eval_branches.proofs.FoldLaws.{goes_line, goes_one}
use Rattle.mz_eval_branches.proofs.folding.with_first.Goals as goal

pub returns-in_err-first-clause-goes : goal.returns-in_err-first-clause-goes
returns-in_err-first-clause-goes c = goes_line (count_in c.args.like.now) c.count_in-count.result c.args.run.now c.condition.new.run c.ranged_line.new.run c.count_in-count.ensures c.condition.ensures.goes c.ranged_line.ensures.goes

pub returns-in_err-both-clause-goes : goal.returns-in_err-both-clause-goes
returns-in_err-both-clause-goes c = goes_one (count_in c.args.like.now) c.count_in-count.result c.args.run.now c.condition.new.run c.ranged_line.new.run c.one_option.new.run c.count_in-count.ensures c.condition.ensures.goes c.ranged_line.ensures.goes c.one_option.ensures.goes

pub returns-clause-goes : goal.returns-clause-goes
returns-clause-goes c = goes_one (count_in c.args.like.now) c.count_in-count.result c.args.run.now c.condition.new.run c.ranged_line.new.run c.one_option.new.run c.count_in-count.ensures c.condition.ensures.goes c.ranged_line.ensures.goes c.one_option.ensures.goes

pub returns-clause-means : goal.returns-clause-means
returns-clause-means c r h =
    let e = c.in_ok-both.ensures.means r h in
    let h2 = c.in_ok-both.ensures.goes.back r h in
    let x = c.in_ok-first.ensures.means r h2 in
    let q = c.in-Ok.ensures.holds r (c.in_ok-first.ensures.goes.back r h2) in
    out_both (first_told r c.args.p.now c.in-Ok.id (option_seen c.args.like.now r c.in_ok-first.first) (option_seen c.args.like.now r c.args.rest) q.holds (out_value x) ∙ out_value e) (q.same ∙ out_state x ∙ out_state e)
