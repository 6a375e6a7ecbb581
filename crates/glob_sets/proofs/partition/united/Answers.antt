use Rattle.std.proofs.Common.{◌+◌, ◌*◌, arith}
use Rattle.glob_nodes.proofs.Telling.{goes_less, goes_more}
use Rattle.glob_sets.proofs.Together.{union_begins, union_goes, union_ends}
use Rattle.glob_sets.proofs.partition.united.Goals as goal

pub each-init : goal.each-init
each-init c = union_begins c.args.run.now c.args.none c.args.sets.now

pub each-preserved : goal.each-preserved
each-preserved c = union_goes c.args.run.now c.each.run c.made.new.run c.args.none c.each.k (c.each.k + 1) c.each.acc c.in_ok-acc.acc c.args.sets.now c.each.invariant (omega (arith, c.each-test.true)) (omega arith) c.in_ok-acc.ensures.goes c.in_ok-acc.ensures.gives

pub returns-in_err-acc-clause-goes : goal.returns-in_err-acc-clause-goes
returns-in_err-acc-clause-goes c = goes_more (4 * c.each.k) 4 _ c.args.run.now c.each.run c.made.new.run (omega (arith, c.each-test.true)) c.each.invariant.goes c.made.ensures.goes

pub returns-clause-goes : goal.returns-clause-goes
returns-clause-goes c = goes_less (4 * c.each.k) _ c.args.run.now c.each.run (omega (arith, c.each.invariant.low)) c.each.invariant.goes

pub returns-clause-gives : goal.returns-clause-gives
returns-clause-gives c = union_ends c.args.run.now c.each.run c.args.none c.each.k c.each.acc c.args.sets.now c.each.invariant (omega (arith, c.each-test.false))
