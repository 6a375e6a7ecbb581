use Rattle.std.proofs.Common.{◌≡◌, ◌+◌, ◌*◌, ◌-◌, ◌<◌, length, drop, refl, ap, arith}
use Rattle.mz_arena.specs.Values.{is_true}
use Rattle.glob_nodes.specs.Says.{joins, joined_each}
use Rattle.glob_nodes.proofs.Telling.{told_start, told_step, told_like, tells_of, tells_like, each_begins, each_goes, room_left, room_all, no_room, goes_more}
use Rattle.glob_nodes.proofs.passing.each_passes.Goals as goal

pub loop-k-init : goal.loop-k-init
loop-k-init g c = (
  told_like 0 ((g.F.Test.room c.args.t.now + 6) * (length c.args.items.now - length c.args.items.now)) c.args.run.now c.args.run.now (λ v. is_true (v.term c.args.told)) _ c.args.told (omega arith)
      (λ v. each_begins c.args.op (λ x. g.F.Test.holds c.args.t.now x v) c.args.items.now (is_true (v.term c.args.told)))
      (told_start c.args.run.now (λ v. is_true (v.term c.args.told)) c.args.told (λ v. refl)),
  omega arith,
)

pub loop-k-preserved : goal.loop-k-preserved
loop-k-preserved g c =
    let low : 0 < c.loop-k.k = omega (arith, c.loop-k-test.true) in (
      told_step ((g.F.Test.room c.args.t.now + 6) * (length c.args.items.now - c.loop-k.k)) (g.F.Test.room c.args.t.now + 6) _ c.args.run.now c.loop-k.run c.one_passes.new.run
          (λ v. joined_each c.args.op (λ x. g.F.Test.holds c.args.t.now x v) (drop c.loop-k.k c.args.items.now) (is_true (v.term c.args.told)))
          _
          (λ v b. joins c.args.op (g.F.Test.holds c.args.t.now c.index-items-k.result v) b)
          c.loop-k.acc c.in_ok-acc.acc
          (room_left (g.F.Test.room c.args.t.now + 6) (length c.args.items.now) c.loop-k.k c.loop-k.invariant.1 low)
          c.loop-k.invariant.0 c.in_ok-acc.ensures.goes
          (tells_of _ _ _ _ c.in_ok-acc.ensures.says)
          (λ v. each_goes c.args.op (λ x. g.F.Test.holds c.args.t.now x v) c.index-items-k.result c.index-items-k.result c.args.items.now c.loop-k.k (is_true (v.term c.args.told)) c.loop-k.invariant.1 low c.index-items-k.is),
      omega (arith, c.loop-k.invariant.1),
    )

pub returns-in_err-acc-clause-goes : goal.returns-in_err-acc-clause-goes
returns-in_err-acc-clause-goes g c = goes_more ((g.F.Test.room c.args.t.now + 6) * (length c.args.items.now - c.loop-k.k)) (g.F.Test.room c.args.t.now + 6) _ _ _ _ (room_all (g.F.Test.room c.args.t.now + 6) (length c.args.items.now) c.loop-k.k c.loop-k.invariant.1 (omega (arith, c.loop-k-test.true))) c.loop-k.invariant.0.goes c.one_passes.ensures.goes

pub returns-clause-goes : goal.returns-clause-goes
returns-clause-goes g c =
    let all = told_like _ _ c.args.run.now c.loop-k.run _ _ c.loop-k.acc (no_room (g.F.Test.room c.args.t.now + 6) (length c.args.items.now) c.loop-k.k) (λ v. refl) c.loop-k.invariant.0 in
    all.goes

pub returns-clause-tells : goal.returns-clause-tells
returns-clause-tells g c =
    let first : c.loop-k.k ≡ 0 = omega (arith, c.loop-k-test.false) in
    tells_like _ _ (λ v. joined_each c.args.op (λ x. g.F.Test.holds c.args.t.now x v) (drop c.loop-k.k c.args.items.now) (is_true (v.term c.args.told))) _ _ (λ v. ap (λ i. joined_each c.args.op (λ x. g.F.Test.holds c.args.t.now x v) (drop i c.args.items.now) (is_true (v.term c.args.told))) first) c.loop-k.invariant.0.tells
