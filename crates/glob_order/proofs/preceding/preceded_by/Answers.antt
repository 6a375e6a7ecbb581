use Rattle.std.proofs.Common.{◌≡◌, ◌*◌, ◌-◌, ◌<◌, ◌&&◌, ◌||◌, true, length, drop, map, slice_index_or, refl, sym, ap, arith}
use Rattle.glob_nodes.specs.declared.nodes.Compare.TheVariants.{Differ, Equal}
use Rattle.glob_nodes.specs.Says.{num, compares}
use Rattle.glob_nodes.proofs.Telling.{drop_all, told_from, told_step, tells_of, tells_like, room_left, room_all, no_room, goes_more, goes_less}
use Rattle.glob_order.specs.Senses.{preceded_by}
use Rattle.glob_order.proofs.Meanings.{precede_goes}
use Rattle.glob_order.proofs.preceding.preceded_by.Goals as goal

pub loop-k-init : goal.loop-k-init
loop-k-init c = (
  told_from (24 * (length c.args.ids.now - length c.args.ids.now)) c.args.run.now c.truth.new.run (λ r. true) _ c.in_ok-acc.acc c.in_ok-acc.ensures.goes c.in_ok-acc.ensures.says
      (λ r. ap (λ is. preceded_by (num r c.args.s) (num r c.args.t) (map (num r) is)) (sym (drop_all c.args.ids.now))),
  omega arith,
)

pub loop-k-preserved : goal.loop-k-preserved
loop-k-preserved c =
    let low : 0 < c.loop-k.k = omega (arith, c.loop-k-test.true) in (
      told_step (24 * (length c.args.ids.now - c.loop-k.k)) 24 _ c.args.run.now c.loop-k.run c.one_before.new.run
          (λ r. preceded_by (num r c.args.s) (num r c.args.t) (map (num r) (drop c.loop-k.k c.args.ids.now)))
          _
          (λ r b. compares Differ (num r c.args.t) (num r (slice_index_or c.args.ids.now (c.loop-k.k - 1) 0)) && (compares Equal (num r c.args.s) (num r (slice_index_or c.args.ids.now (c.loop-k.k - 1) 0)) || b))
          c.loop-k.acc c.in_ok-acc-2.acc
          (room_left 24 (length c.args.ids.now) c.loop-k.k c.loop-k.invariant.1 low)
          c.loop-k.invariant.0 c.in_ok-acc-2.ensures.goes
          (tells_of _ _ _ _ c.in_ok-acc-2.ensures.says)
          (λ r. precede_goes r c.args.s c.args.t _ c.args.ids.now c.loop-k.k c.loop-k.invariant.1 low refl),
      omega (arith, c.loop-k.invariant.1),
    )

pub returns-in_err-acc-2-clause-goes : goal.returns-in_err-acc-2-clause-goes
returns-in_err-acc-2-clause-goes c = goes_more (24 * (length c.args.ids.now - c.loop-k.k)) 24 _ _ _ _ (room_all 24 (length c.args.ids.now) c.loop-k.k c.loop-k.invariant.1 (omega (arith, c.loop-k-test.true))) c.loop-k.invariant.0.goes c.one_before.ensures.goes

pub returns-clause-goes : goal.returns-clause-goes
returns-clause-goes c = goes_less _ _ c.args.run.now c.loop-k.run (no_room 24 (length c.args.ids.now) c.loop-k.k) c.loop-k.invariant.0.goes

pub returns-clause-tells : goal.returns-clause-tells
returns-clause-tells c =
    let first : c.loop-k.k ≡ 0 = omega (arith, c.loop-k-test.false) in
    tells_like _ _ (λ r. preceded_by (num r c.args.s) (num r c.args.t) (map (num r) (drop c.loop-k.k c.args.ids.now))) _ _ (λ r. ap (λ i. preceded_by (num r c.args.s) (num r c.args.t) (map (num r) (drop i c.args.ids.now))) first) c.loop-k.invariant.0.tells
