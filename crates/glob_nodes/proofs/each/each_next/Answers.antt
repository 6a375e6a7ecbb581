use Rattle.std.proofs.Common.{◌≡◌, ◌+◌, ◌*◌, ◌-◌, ◌<◌, ◌≤◌, ◌&&◌, true, length, drop, refl, sym, ap, arith}
use Rattle.mz_globals.specs.Lists.{stepwise}
use Rattle.glob_nodes.proofs.Telling.{told_from, told_step, told_like, tells_of, tells_like, steps_begin, steps_go, room_left, room_all, no_room, goes_more}
use Rattle.glob_nodes.proofs.each.each_next.Goals as goal

pub loop-k-init : goal.loop-k-init
loop-k-init g c = (
  told_from ((g.R.Relation.room + 6) * (length c.args.xs.now - length c.args.xs.now)) c.args.run.now c.truth.new.run (λ v. true) _ c.in_ok-acc.acc c.in_ok-acc.ensures.goes c.in_ok-acc.ensures.says
      (λ v. steps_begin (λ x y. g.R.Relation.related c.args.r.now x y v) c.args.xs.now),
  omega arith,
)

pub loop-k-preserved : goal.loop-k-preserved
loop-k-preserved g c =
    let low : 0 < c.loop-k.k = omega (arith, c.loop-k-test.true) in (
      told_step ((g.R.Relation.room + 6) * (length c.args.xs.now - c.loop-k.k)) (g.R.Relation.room + 6) _ c.args.run.now c.loop-k.run c.beside.new.run
          (λ v. stepwise (λ x y. g.R.Relation.related c.args.r.now x y v) (drop (c.loop-k.k - 1) c.args.xs.now))
          _
          (λ v b. g.R.Relation.related c.args.r.now c.index-xs-k.result c.index-xs-k-in-loop-k.result v && b)
          c.loop-k.acc c.in_ok-acc-2.acc
          (room_left (g.R.Relation.room + 6) (length c.args.xs.now) c.loop-k.k c.loop-k.invariant.1 low)
          c.loop-k.invariant.0 c.in_ok-acc-2.ensures.goes
          (tells_of _ _ _ _ c.in_ok-acc-2.ensures.says)
          (λ v. steps_go (λ x y. g.R.Relation.related c.args.r.now x y v) c.index-xs-k.result c.index-xs-k-in-loop-k.result c.index-xs-k.result c.index-xs-k-in-loop-k.result c.args.xs.now c.loop-k.k c.loop-k.invariant.1 (omega (arith, c.loop-k-test.true)) c.index-xs-k.is c.index-xs-k-in-loop-k.is),
      omega (arith, c.loop-k.invariant.1),
    )

pub returns-in_err-acc-2-clause-goes : goal.returns-in_err-acc-2-clause-goes
returns-in_err-acc-2-clause-goes g c = goes_more ((g.R.Relation.room + 6) * (length c.args.xs.now - c.loop-k.k)) (g.R.Relation.room + 6) _ _ _ _ (room_all (g.R.Relation.room + 6) (length c.args.xs.now) c.loop-k.k c.loop-k.invariant.1 (omega (arith, c.loop-k-test.true))) c.loop-k.invariant.0.goes c.beside.ensures.goes

pub returns-clause-goes : goal.returns-clause-goes
returns-clause-goes g c =
    let all = told_like _ _ c.args.run.now c.loop-k.run _ _ c.loop-k.acc (no_room (g.R.Relation.room + 6) (length c.args.xs.now) c.loop-k.k) (λ v. refl) c.loop-k.invariant.0 in
    all.goes

pub returns-clause-tells : goal.returns-clause-tells
returns-clause-tells g c =
    let first : c.loop-k.k - 1 ≡ 0 = omega (arith, c.loop-k-test.false) in
    tells_like _ _ (λ v. stepwise (λ x y. g.R.Relation.related c.args.r.now x y v) (drop (c.loop-k.k - 1) c.args.xs.now)) _ _ (λ v. ap (λ i. stepwise (λ x y. g.R.Relation.related c.args.r.now x y v) (drop i c.args.xs.now)) first) c.loop-k.invariant.0.tells
