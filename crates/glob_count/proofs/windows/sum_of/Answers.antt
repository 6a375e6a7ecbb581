use Rattle.std.proofs.Common.{◌≡◌, ◌+◌, ◌*◌, length, drop, subst, arith}
use Rattle.glob_nodes.proofs.Telling.{goes_less, goes_more}
use Rattle.glob_count.specs.Windows.{SumOnward}
use Rattle.glob_count.proofs.Sliding.{sum_begins, sum_goes, sum_ends, less_room}
use Rattle.glob_count.proofs.windows.sum_of.Goals as goal

pub loop-k-init : goal.loop-k-init
loop-k-init c = (sum_begins c.args.run.now c.constant.new.run c.args.ids.now c.in_ok-acc.acc c.in_ok-acc.ensures.goes c.in_ok-acc.ensures.is, omega arith)

pub loop-k-preserved : goal.loop-k-preserved
loop-k-preserved c =
    let more : 4 * c.loop-k.k + 4 ≡ 4 * (c.loop-k.k + 1) = omega arith in (
      subst (λ n. SumOnward n c.args.run.now c.plus.new.run c.args.ids.now (drop (c.loop-k.k + 1) c.args.ids.now) c.in_ok-acc-2.acc) more
          (sum_goes (4 * c.loop-k.k) c.args.run.now c.loop-k.run c.plus.new.run c.args.ids.now c.loop-k.k (c.loop-k.k + 1) c.loop-k.acc c.in_ok-acc-2.acc c.loop-k.invariant.0 (omega (arith, c.loop-k-test.true)) (omega arith) c.in_ok-acc-2.ensures.goes c.in_ok-acc-2.ensures.is),
      omega (arith, c.loop-k-test.true),
    )

pub returns-in_err-acc-2-clause-goes : goal.returns-in_err-acc-2-clause-goes
returns-in_err-acc-2-clause-goes c = goes_more (4 * c.loop-k.k) 4 _ c.args.run.now c.loop-k.run c.plus.new.run (omega (arith, c.loop-k-test.true)) c.loop-k.invariant.0.goes c.plus.ensures.goes

pub returns-clause-goes : goal.returns-clause-goes
returns-clause-goes c = goes_less (4 * c.loop-k.k) _ c.args.run.now c.loop-k.run (less_room (length c.args.ids.now) c.loop-k.k c.loop-k.invariant.1) c.loop-k.invariant.0.goes

pub returns-clause-is : goal.returns-clause-is
returns-clause-is c = sum_ends (4 * c.loop-k.k) c.args.run.now c.loop-k.run c.args.ids.now c.loop-k.k c.loop-k.acc c.loop-k.invariant.0 (omega (arith, c.loop-k-test.false))
