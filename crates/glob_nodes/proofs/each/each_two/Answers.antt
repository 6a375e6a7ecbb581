use Rattle.std.proofs.Common.{◌≡◌, ◌+◌, ◌*◌, ◌-◌, ◌<◌, ◌≤◌, true, length, drop, take, refl, sym, ap, subst, arith}
use Rattle.mz_arena.specs.Values.{is_true}
use Rattle.mz_globals.specs.Lists.{pairwise}
use Rattle.mz_symbol.specs.Makes.{GoesOnBy}
use Rattle.glob_nodes.specs.declared.nodes.Join.TheVariants.{Both}
use Rattle.glob_nodes.specs.Says.{Tells, joined_each, pair_count}
use Rattle.glob_nodes.proofs.Telling.{told_from, told_step, tells_of, tells_like, drop_all, tail_is, two_goes, two_room, two_most, goes_more}
use Rattle.glob_nodes.proofs.each.each_two.Goals as goal

pub loop-k-init : goal.loop-k-init
loop-k-init g c = (
  told_from ((g.R.Relation.room + 6) * pair_count (drop (length c.args.xs.now) c.args.xs.now)) c.args.run.now c.truth.new.run (λ v. true) _ c.in_ok-acc.acc c.in_ok-acc.ensures.goes c.in_ok-acc.ensures.says
      (λ v. ap (pairwise (λ x y. g.R.Relation.related c.args.r.now x y v)) (sym (drop_all c.args.xs.now))),
  omega arith,
)

pub loop-k-preserved : goal.loop-k-preserved
loop-k-preserved g c =
    let low : 0 < c.loop-k.k = omega (arith, c.loop-k-test.true) in (
      told_step ((g.R.Relation.room + 6) * pair_count (drop c.loop-k.k c.args.xs.now)) ((g.R.Relation.room + 6) * length (drop c.loop-k.k c.args.xs.now)) _ c.args.run.now c.loop-k.run c.to_each.new.run
          (λ v. pairwise (λ x y. g.R.Relation.related c.args.r.now x y v) (drop c.loop-k.k c.args.xs.now))
          _
          (λ v b. joined_each Both (λ y. g.R.Relation.related c.args.r.now c.index-xs-k.result y v) (drop c.loop-k.k c.args.xs.now) b)
          c.loop-k.acc c.in_ok-acc-2.acc
          (two_room (g.R.Relation.room + 6) c.index-xs-k.result c.index-xs-k.result c.args.xs.now c.loop-k.k c.loop-k.invariant.1 low c.index-xs-k.is)
          c.loop-k.invariant.0
          (subst (λ ys. GoesOnBy ((g.R.Relation.room + 6) * length ys) c.loop-k.run c.to_each.new.run) (tail_is c.loop-k.k c.args.xs.now) c.in_ok-acc-2.ensures.goes)
          (subst (λ ys. Tells c.loop-k.run c.to_each.new.run (λ v. joined_each Both (λ y. g.R.Relation.related c.args.r.now c.index-xs-k.result y v) ys (is_true (v.term c.loop-k.acc))) c.in_ok-acc-2.acc) (tail_is c.loop-k.k c.args.xs.now) c.in_ok-acc-2.ensures.tells)
          (λ v. two_goes (λ x y. g.R.Relation.related c.args.r.now x y v) c.index-xs-k.result c.index-xs-k.result c.args.xs.now c.loop-k.k c.loop-k.invariant.1 low c.index-xs-k.is),
      omega (arith, c.loop-k.invariant.1),
    )

pub returns-in_err-acc-2-clause-goes : goal.returns-in_err-acc-2-clause-goes
returns-in_err-acc-2-clause-goes g c =
    let low : 0 < c.loop-k.k = omega (arith, c.loop-k-test.true) in
    goes_more ((g.R.Relation.room + 6) * pair_count (drop c.loop-k.k c.args.xs.now)) ((g.R.Relation.room + 6) * length (drop c.loop-k.k c.args.xs.now)) _ c.args.run.now c.loop-k.run c.to_each.new.run
    (two_most (g.R.Relation.room + 6) c.index-xs-k.result c.index-xs-k.result c.args.xs.now c.loop-k.k c.loop-k.invariant.1 low c.index-xs-k.is)
    c.loop-k.invariant.0.goes
    (subst (λ ys. GoesOnBy ((g.R.Relation.room + 6) * length ys) c.loop-k.run c.to_each.new.run) (tail_is c.loop-k.k c.args.xs.now) c.to_each.ensures.goes)

pub returns-clause-goes : goal.returns-clause-goes
returns-clause-goes g c =
    let first : c.loop-k.k ≡ 0 = omega (arith, c.loop-k-test.false) in
    subst (λ i. GoesOnBy ((g.R.Relation.room + 6) * pair_count (drop i c.args.xs.now)) c.args.run.now c.loop-k.run) first c.loop-k.invariant.0.goes

pub returns-clause-tells : goal.returns-clause-tells
returns-clause-tells g c =
    let first : c.loop-k.k ≡ 0 = omega (arith, c.loop-k-test.false) in
    tells_like _ _ (λ v. pairwise (λ x y. g.R.Relation.related c.args.r.now x y v) (drop c.loop-k.k c.args.xs.now)) _ _ (λ v. ap (λ i. pairwise (λ x y. g.R.Relation.related c.args.r.now x y v) (drop i c.args.xs.now)) first) c.loop-k.invariant.0.tells
