use Rattle.std.proofs.Common.{◌≡◌, ◌+◌, subst, arith}
use Rattle.mz_symbol_arrays.proofs.LineLaws.{goes_none}
use Rattle.mz_symbol_arrays.specs.StepsSums.{Folds}
use Rattle.mz_symbol_arrays.proofs.SumWalkLaws.{goes_more, goes_same, folds_none, folds_more}
use Rattle.mz_symbol_arrays.proofs.sums.walk.folded.Goals as goal

pub loop-i-init : goal.loop-i-init
loop-i-init c = (goes_none c.args.run.now, λ r h. folds_none r c.args.run.now c.args.op c.args.line c.args.first)

pub loop-i-preserved : goal.loop-i-preserved
loop-i-preserved c =
    let a = c.in_ok-acc.ensures in (
      goes_more c.loop-i.i (c.loop-i.i + 1) c.args.run.now c.loop-i.run c.advanced.new.run (omega arith) c.loop-i.invariant.0 a.goes,
      λ r h. folds_more r c.args.run.now c.loop-i.run c.advanced.new.run c.args.op c.args.line c.loop-i.i (c.loop-i.i + 1) c.args.first c.loop-i.acc c.in_ok-acc.acc (omega arith) (c.loop-i.invariant.1 r (a.goes.back r h)) (a.advances r h),
    )

pub returns-in_err-acc-clause-goes : goal.returns-in_err-acc-clause-goes
returns-in_err-acc-clause-goes c = goes_more c.loop-i.i c.args.count c.args.run.now c.loop-i.run c.advanced.new.run (omega (arith, c.loop-i-test.true)) c.loop-i.invariant.0 c.advanced.ensures.goes

pub returns-clause-goes : goal.returns-clause-goes
returns-clause-goes c = goes_same c.loop-i.i c.args.count c.args.run.now c.loop-i.run (omega (arith, c.loop-i-test.false, c.loop-i.auto.i-end)) c.loop-i.invariant.0

pub returns-clause-folds : goal.returns-clause-folds
returns-clause-folds c =
    let last : c.loop-i.i ≡ c.args.count = omega (arith, c.loop-i-test.false, c.loop-i.auto.i-end) in
    λ r h. subst (λ n. Folds r c.args.run.now c.loop-i.run c.args.op c.args.line n c.args.first c.loop-i.acc) last (c.loop-i.invariant.1 r h)
