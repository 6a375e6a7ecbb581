use Rattle.std.proofs.Common.{◌∙◌}
use Rattle.mz_symbol.proofs.ConstantLaws.{out_value, out_state}
use Rattle.mz_symbol_rows.proofs.RowLaws.{out_both}
use Rattle.mz_eval_arrays.proofs.BranchLaws.{first_told, goes_first, goes_picked}
use Rattle.mz_eval_branches.specs.Truths.{truth_seen}
use Rattle.mz_eval_branches.proofs.truths.with_first.Goals as goal

pub returns-in_err-x-clause-goes : goal.returns-in_err-x-clause-goes
returns-in_err-x-clause-goes c = goes_first c.args.run.now c.condition.new.run c.truth_of.new.run c.condition.ensures.goes c.truth_of.ensures.goes

pub returns-in_err-z-clause-goes : goal.returns-in_err-z-clause-goes
returns-in_err-z-clause-goes c = goes_picked c.args.run.now c.condition.new.run c.truth_of.new.run c.picked.new.run c.condition.ensures.goes c.truth_of.ensures.goes c.picked.ensures.goes

pub returns-clause-goes : goal.returns-clause-goes
returns-clause-goes c = goes_picked c.args.run.now c.condition.new.run c.truth_of.new.run c.picked.new.run c.condition.ensures.goes c.truth_of.ensures.goes c.picked.ensures.goes

pub returns-clause-means : goal.returns-clause-means
returns-clause-means c r h =
    let e = c.in_ok-z.ensures.means r h in
    let h2 = c.in_ok-z.ensures.goes.back r h in
    let x = c.in_ok-x.ensures.means r h2 in
    let q = c.in-Ok.ensures.holds r (c.in_ok-x.ensures.goes.back r h2) in
    out_both (first_told r c.args.p.now c.in-Ok.id (truth_seen r c.in_ok-x.x) (truth_seen r c.args.rest) q.holds (out_value x) ∙ out_value e) (q.same ∙ out_state x ∙ out_state e)
