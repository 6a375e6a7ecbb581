use Rattle.std.proofs.Common.{◌≡◌, ◌∙◌, ◌+◌, arith}
use Rattle.mz_symbol_access.proofs.LiftLaws.{lift_err, lift_all, lifts_none, lifts_more, lifts_all}
use Rattle.mz_symbol_access.proofs.lifting.lifted_items.Goals as goal

pub loop-i-init : goal.loop-i-init
loop-i-init c = lifts_none c.args.run.now c.args.items.now c.new-all.result.items c.new-all.ensures.items

pub loop-i-preserved : goal.loop-i-preserved
loop-i-preserved c =
    let a = c.in_ok-all.ensures in
    lifts_more c.args.run.now c.loop-i.run c.push_lifted.new.run c.loop-i.i (c.loop-i.i + 1) c.args.items.now _ _ (omega arith) c.loop-i.invariant a.goes a.pushes

pub returns-in_err-all-clause-goes : goal.returns-in_err-all-clause-goes
returns-in_err-all-clause-goes c = lift_err c.loop-i.i c.args.count c.args.run.now c.loop-i.run c.push_lifted.new.run (omega (arith, c.loop-i-test.true)) c.loop-i.invariant.goes c.push_lifted.ensures.goes

pub returns-clause-goes : goal.returns-clause-goes
returns-clause-goes c = lift_all c.loop-i.i c.args.count c.args.run.now c.loop-i.run (omega (arith, c.loop-i-test.false, c.loop-i.auto.i-end)) c.loop-i.invariant.goes

pub returns-clause-count : goal.returns-clause-count
returns-clause-count c =
    let last : c.loop-i.i ≡ c.args.count = omega (arith, c.loop-i-test.false, c.loop-i.auto.i-end) in
    c.loop-i.invariant.count ∙ last

pub returns-clause-replaces : goal.returns-clause-replaces
returns-clause-replaces c r h =
    let last : c.loop-i.i ≡ c.args.count = omega (arith, c.loop-i-test.false, c.loop-i.auto.i-end) in
    lifts_all r c.args.run.now c.loop-i.run c.loop-i.i c.args.count c.args.items.now _ last c.requires c.loop-i.invariant h
