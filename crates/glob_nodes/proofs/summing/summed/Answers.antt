use Rattle.std.proofs.Common.{◌≡◌, ◌+◌, ◌*◌, ◌-◌, ◌<◌, length, drop, ap, arith}
use Rattle.glob_nodes.proofs.Telling.{room_left, room_all, no_room, goes_more, goes_less}
use Rattle.glob_nodes.specs.Numbers.{added, plus}
use Rattle.glob_nodes.proofs.IntegerNodes.{sum_from, sum_step, number_like, added_begins, added_goes}
use Rattle.glob_nodes.proofs.summing.summed.Goals as goal

pub loop-k-init : goal.loop-k-init
loop-k-init g c = (
  sum_from ((g.P.Part.room + 4) * (length c.args.items.now - length c.args.items.now)) c.args.run.now c.constant.new.run _ _ c.in_ok-acc.acc c.in_ok-acc.ensures.goes c.in_ok-acc.ensures.is
      (λ v. added_begins (λ x. g.P.Part.amount c.args.p.now x v) c.args.items.now),
  omega arith,
)

pub loop-k-preserved : goal.loop-k-preserved
loop-k-preserved g c =
    let low : 0 < c.loop-k.k = omega (arith, c.loop-k-test.true) in (
      sum_step ((g.P.Part.room + 4) * (length c.args.items.now - c.loop-k.k)) (g.P.Part.room + 4) _ c.args.run.now c.loop-k.run c.one_more.new.run
          (λ v. added (λ x. g.P.Part.amount c.args.p.now x v) (drop c.loop-k.k c.args.items.now))
          _
          (λ v t. plus (g.P.Part.amount c.args.p.now c.index-items-k.result v) t)
          c.loop-k.acc c.in_ok-acc-2.acc
          (room_left (g.P.Part.room + 4) (length c.args.items.now) c.loop-k.k c.loop-k.invariant.1 low)
          c.loop-k.invariant.0 c.in_ok-acc-2.ensures.goes c.in_ok-acc-2.ensures.is
          (λ v. added_goes (λ x. g.P.Part.amount c.args.p.now x v) c.index-items-k.result c.index-items-k.result c.args.items.now c.loop-k.k c.loop-k.invariant.1 low c.index-items-k.is),
      omega (arith, c.loop-k.invariant.1),
    )

pub returns-in_err-acc-2-clause-goes : goal.returns-in_err-acc-2-clause-goes
returns-in_err-acc-2-clause-goes g c = goes_more ((g.P.Part.room + 4) * (length c.args.items.now - c.loop-k.k)) (g.P.Part.room + 4) _ _ _ _ (room_all (g.P.Part.room + 4) (length c.args.items.now) c.loop-k.k c.loop-k.invariant.1 (omega (arith, c.loop-k-test.true))) c.loop-k.invariant.0.goes c.one_more.ensures.goes

pub returns-clause-goes : goal.returns-clause-goes
returns-clause-goes g c = goes_less _ _ c.args.run.now c.loop-k.run (no_room (g.P.Part.room + 4) (length c.args.items.now) c.loop-k.k) c.loop-k.invariant.0.goes

pub returns-clause-is : goal.returns-clause-is
returns-clause-is g c =
    let first : c.loop-k.k ≡ 0 = omega (arith, c.loop-k-test.false) in
    number_like _ _ (λ v. added (λ x. g.P.Part.amount c.args.p.now x v) (drop c.loop-k.k c.args.items.now)) _ _ (λ v. ap (λ i. added (λ x. g.P.Part.amount c.args.p.now x v) (drop i c.args.items.now)) first) c.loop-k.invariant.0.is
