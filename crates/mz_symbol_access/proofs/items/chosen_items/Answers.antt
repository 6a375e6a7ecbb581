use Rattle.std.proofs.Common.{◌≡◌, ◌∙◌, ◌+◌, arith}
use Rattle.mz_symbol_access.proofs.ItemLaws.{costs_err, costs_all, chooses_none, chooses_more, chooses_all}
use Rattle.mz_symbol_access.proofs.items.chosen_items.Goals as goal

pub loop-i-init : goal.loop-i-init
loop-i-init c = chooses_none c.args.run.now c.args.c c.args.ps.now c.args.qs.now c.new-all.result.items c.new-all.ensures.items

pub loop-i-preserved : goal.loop-i-preserved
loop-i-preserved c =
    let a = c.in_ok-all.ensures in
    chooses_more c.args.run.now c.loop-i.run c.push_either.new.run c.args.c c.loop-i.i (c.loop-i.i + 1) c.args.ps.now c.args.qs.now _ _ (omega arith) c.loop-i.invariant a.goes a.pushes

pub returns-in_err-all-clause-goes : goal.returns-in_err-all-clause-goes
returns-in_err-all-clause-goes c = costs_err c.loop-i.i c.args.count c.args.run.now c.loop-i.run c.push_either.new.run (omega (arith, c.loop-i-test.true)) c.loop-i.invariant.goes c.push_either.ensures.goes

pub returns-clause-goes : goal.returns-clause-goes
returns-clause-goes c = costs_all c.loop-i.i c.args.count c.args.run.now c.loop-i.run (omega (arith, c.loop-i-test.false, c.loop-i.auto.i-end)) c.loop-i.invariant.goes

pub returns-clause-count : goal.returns-clause-count
returns-clause-count c =
    let last : c.loop-i.i ≡ c.args.count = omega (arith, c.loop-i-test.false, c.loop-i.auto.i-end) in
    c.loop-i.invariant.count ∙ last

pub returns-clause-chooses : goal.returns-clause-chooses
returns-clause-chooses c r h =
    let last : c.loop-i.i ≡ c.args.count = omega (arith, c.loop-i-test.false, c.loop-i.auto.i-end) in
    chooses_all r c.args.run.now c.loop-i.run c.args.c c.loop-i.i c.args.count c.args.ps.now c.args.qs.now _ last c.requires.first c.requires.second c.loop-i.invariant h
