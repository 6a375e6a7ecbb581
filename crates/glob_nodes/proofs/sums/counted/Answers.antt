use Rattle.std.proofs.Common.{◌≡◌, ◌+◌, ◌*◌, ◌-◌, ◌<◌, ◌≤◌, Some, count_by, length, drop, refl, ap, arith}
use Rattle.mz_operations.specs.declared.row.Arith.TheVariants as arith_row
use Rattle.mz_operations.specs.Views.{number_of_bool}
use Rattle.mz_arena.specs.Values.{arith_term}
use Rattle.mz_arena.specs.Values as terms
use Rattle.glob_nodes.proofs.Telling.{given_step, room_left, room_all, no_room, goes_more, goes_less}
use Rattle.glob_nodes.proofs.Counting.{count_term, given_from, gives_like, count_begins, count_goes}
use Rattle.glob_nodes.proofs.sums.counted.Goals as goal

pub loop-k-init : goal.loop-k-init
loop-k-init g c = (
  given_from ((g.R.Relation.room + 8) * (length c.args.others.now - length c.args.others.now)) c.args.run.now c.number.new.run _ _ c.in_ok-acc.acc c.in_ok-acc.ensures.goes c.in_ok-acc.ensures.gives
      (λ v. count_begins (λ y. g.R.Relation.related c.args.r.now c.args.x.now y v) c.args.others.now),
  omega arith,
)

pub loop-k-preserved : goal.loop-k-preserved
loop-k-preserved g c =
    let low : 0 < c.loop-k.k = omega (arith, c.loop-k-test.true) in (
      given_step ((g.R.Relation.room + 8) * (length c.args.others.now - c.loop-k.k)) (g.R.Relation.room + 8) _ c.args.run.now c.loop-k.run c.one_more.new.run
          (λ v. count_term (count_by (λ y. g.R.Relation.related c.args.r.now c.args.x.now y v) (drop c.loop-k.k c.args.others.now)))
          _
          (λ v t. arith_term arith_row.Add (Some (terms.number (number_of_bool (g.R.Relation.related c.args.r.now c.args.x.now c.index-others-k.result v)))) t)
          c.loop-k.acc c.in_ok-acc-2.acc
          (room_left (g.R.Relation.room + 8) (length c.args.others.now) c.loop-k.k c.loop-k.invariant.1 low)
          c.loop-k.invariant.0 c.in_ok-acc-2.ensures.goes c.in_ok-acc-2.ensures.gives
          (λ v. count_goes (λ y. g.R.Relation.related c.args.r.now c.args.x.now y v) c.index-others-k.result c.index-others-k.result c.args.others.now c.loop-k.k c.loop-k.invariant.1 low c.index-others-k.is),
      omega (arith, c.loop-k.invariant.1),
    )

pub returns-in_err-acc-2-clause-goes : goal.returns-in_err-acc-2-clause-goes
returns-in_err-acc-2-clause-goes g c = goes_more ((g.R.Relation.room + 8) * (length c.args.others.now - c.loop-k.k)) (g.R.Relation.room + 8) _ _ _ _ (room_all (g.R.Relation.room + 8) (length c.args.others.now) c.loop-k.k c.loop-k.invariant.1 (omega (arith, c.loop-k-test.true))) c.loop-k.invariant.0.goes c.one_more.ensures.goes

pub returns-clause-goes : goal.returns-clause-goes
returns-clause-goes g c = goes_less _ _ c.args.run.now c.loop-k.run (no_room (g.R.Relation.room + 8) (length c.args.others.now) c.loop-k.k) c.loop-k.invariant.0.goes

pub returns-clause-gives : goal.returns-clause-gives
returns-clause-gives g c =
    let first : c.loop-k.k ≡ 0 = omega (arith, c.loop-k-test.false) in
    gives_like _ _ (λ v. count_term (count_by (λ y. g.R.Relation.related c.args.r.now c.args.x.now y v) (drop c.loop-k.k c.args.others.now))) _ _ (λ v. ap (λ i. count_term (count_by (λ y. g.R.Relation.related c.args.r.now c.args.x.now y v) (drop i c.args.others.now))) first) c.loop-k.invariant.0.gives
