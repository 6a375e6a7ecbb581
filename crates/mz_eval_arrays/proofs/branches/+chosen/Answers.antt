use Rattle.std.proofs.Common.{◌∙◌, ap, length}
use Rattle.mz_symbol.proofs.ConstantLaws.{out_value, out_state}
use Rattle.mz_symbol_rows.specs.RowValues.{argument}
use Rattle.mz_symbol_rows.proofs.RowLaws.{out_both}
use Rattle.mz_eval_arrays.specs.StepsBranches.{branches_value}
use Rattle.mz_eval_arrays.proofs.BranchLaws.{goes_last, goes_more, goes_rest, more_told}
use Rattle.mz_eval_arrays.proofs.branches.+chosen.Goals as goal

pub returns-then-is_none-clause-goes : goal.returns-then-is_none-clause-goes
returns-then-is_none-clause-goes t c = goes_last (length c.args.branches.now) c.args.run.now c.branch_symbol.new.run c.branch_symbol.ensures.goes

pub returns-then-is_none-clause-means : goal.returns-then-is_none-clause-means
returns-then-is_none-clause-means t c r h = rw (c.is_none.ensures c.if-is_none.true) (c.branch_symbol.ensures.means r h)

pub returns-in_err-rest-clause-goes : goal.returns-in_err-rest-clause-goes
returns-in_err-rest-clause-goes t c = goes_rest c.in-Some.x.0.now c.in-Some.x.1.now c.args.branches.now c.args.run.now c.chosen.new.run c.in-Some.ensures.are c.chosen.ensures.goes

pub returns-in_err-z-clause-goes : goal.returns-in_err-z-clause-goes
returns-in_err-z-clause-goes t c = goes_more c.in-Some.x.0.now c.in-Some.x.1.now c.args.branches.now c.args.run.now c.chosen.new.run c.with_first.new.run c.in-Some.ensures.are c.chosen.ensures.goes c.with_first.ensures.goes

pub returns-clause-goes : goal.returns-clause-goes
returns-clause-goes t c = goes_more c.in-Some.x.0.now c.in-Some.x.1.now c.args.branches.now c.args.run.now c.chosen.new.run c.with_first.new.run c.in-Some.ensures.are c.chosen.ensures.goes c.with_first.ensures.goes

pub returns-clause-means : goal.returns-clause-means
returns-clause-means t c r h =
    let e = c.in_ok-z.ensures.means r h in
    let v = c.in_ok-rest.ensures.means r (c.in_ok-z.ensures.goes.back r h) in
    out_both
    (
    ap (λ ps. branches_value r ps c.args.last.now) c.in-Some.ensures.are
    ∙ more_told r c.in-Some.x.0.now c.in-Some.x.1.now c.args.last.now (argument r c.in_ok-rest.rest) (out_value v)
    ∙ out_value e
    )
    (out_state v ∙ out_state e)
