use Rattle.std.proofs.Common.{◌≡◌, ◌+◌, subst, arith}
use Rattle.mz_symbol_arrays.specs.StepsUnions.{Folds}
use Rattle.mz_symbol_arrays.proofs.UnionWalkLaws.{made_none, made_more, made_err, made_goes}
use Rattle.mz_symbol_arrays.proofs.unions.walk.folded.Goals as goal

pub loop-i-init : goal.loop-i-init
loop-i-init c = made_none c.args.run.now c.args.op c.args.line c.args.from c.args.count c.args.first c.requires

pub loop-i-preserved : goal.loop-i-preserved
loop-i-preserved c =
    let a = c.in_ok-acc.ensures in
    made_more c.args.run.now c.loop-i.run c.advanced.new.run c.args.op c.args.line c.args.from c.args.count c.loop-i.i (c.loop-i.i + 1) c.args.first c.loop-i.acc c.in_ok-acc.acc (omega arith) (omega (arith, c.loop-i-test.true)) c.loop-i.invariant a.goes a.advances

pub returns-in_err-acc-clause-goes : goal.returns-in_err-acc-clause-goes
returns-in_err-acc-clause-goes c = made_err c.loop-i.i c.args.count c.args.run.now c.loop-i.run c.advanced.new.run (omega (arith, c.loop-i-test.true)) c.loop-i.invariant.goes c.advanced.ensures.goes

pub returns-clause-goes : goal.returns-clause-goes
returns-clause-goes c = made_goes c.loop-i.i c.args.count c.args.run.now c.loop-i.run c.loop-i.invariant.within c.loop-i.invariant.goes

pub returns-clause-folds : goal.returns-clause-folds
returns-clause-folds c =
    let last : c.loop-i.i ≡ c.args.count = omega (arith, c.loop-i-test.false, c.loop-i.invariant.within) in
    λ r h. subst (λ n. Folds r c.args.run.now c.loop-i.run c.args.op c.args.line c.args.from n c.args.first c.loop-i.acc) last (c.loop-i.invariant.folds r h)
