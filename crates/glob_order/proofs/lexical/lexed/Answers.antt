use Rattle.std.proofs.Common.{◌≡◌, ◌*◌, ◌-◌, ◌<◌, ◌&&◌, ◌||◌, ◌∙◌, length, drop, map, min, slice_index_or, refl, ap, arith}
use Rattle.glob_nodes.specs.declared.nodes.Compare.TheVariants.{AtMost, Less}
use Rattle.glob_nodes.specs.Says.{num, compares}
use Rattle.glob_nodes.proofs.Telling.{told_from, told_step, tells_of, tells_like, room_left, room_all, no_room, goes_more, goes_less}
use Rattle.glob_order.specs.Senses.{lexed}
use Rattle.glob_order.proofs.Meanings.{lex_begins, lex_goes}
use Rattle.glob_order.proofs.lexical.lexed.Goals as goal

pub loop-k-init : goal.loop-k-init
loop-k-init c = (
  told_from (24 * (min (length c.args.xs.now) (length c.args.ys.now) - c.lesser-k.result)) c.args.run.now c.truth.new.run _ _ c.in_ok-acc.acc c.in_ok-acc.ensures.goes c.in_ok-acc.ensures.says
      (λ r. c.begins.ensures ∙ lex_begins c.args.equal r c.args.xs.now c.args.ys.now c.lesser-k.result c.lesser-k.ensures),
  omega (arith, c.lesser-k.ensures),
)

pub loop-k-preserved : goal.loop-k-preserved
loop-k-preserved c =
    let low : 0 < c.loop-k.k = omega (arith, c.loop-k-test.true) in (
      told_step (24 * (min (length c.args.xs.now) (length c.args.ys.now) - c.loop-k.k)) 24 _ c.args.run.now c.loop-k.run c.preceded.new.run
          (λ r. lexed c.args.equal (map (num r) (drop c.loop-k.k c.args.xs.now)) (map (num r) (drop c.loop-k.k c.args.ys.now)))
          _
          (λ r b. compares AtMost (num r (slice_index_or c.args.xs.now (c.loop-k.k - 1) 0)) (num r (slice_index_or c.args.ys.now (c.loop-k.k - 1) 0)) && (compares Less (num r (slice_index_or c.args.xs.now (c.loop-k.k - 1) 0)) (num r (slice_index_or c.args.ys.now (c.loop-k.k - 1) 0)) || b))
          c.loop-k.acc c.in_ok-acc-2.acc
          (room_left 24 (min (length c.args.xs.now) (length c.args.ys.now)) c.loop-k.k c.loop-k.invariant.1 low)
          c.loop-k.invariant.0 c.in_ok-acc-2.ensures.goes
          (tells_of _ _ _ _ c.in_ok-acc-2.ensures.says)
          (λ r. lex_goes c.args.equal r _ _ c.args.xs.now c.args.ys.now c.loop-k.k (omega (arith, c.loop-k.invariant.1)) (omega (arith, c.loop-k.invariant.1)) low refl refl),
      omega (arith, c.loop-k.invariant.1),
    )

pub returns-in_err-acc-2-clause-goes : goal.returns-in_err-acc-2-clause-goes
returns-in_err-acc-2-clause-goes c = goes_more (24 * (min (length c.args.xs.now) (length c.args.ys.now) - c.loop-k.k)) 24 _ _ _ _ (room_all 24 (min (length c.args.xs.now) (length c.args.ys.now)) c.loop-k.k c.loop-k.invariant.1 (omega (arith, c.loop-k-test.true))) c.loop-k.invariant.0.goes c.preceded.ensures.goes

pub returns-clause-goes : goal.returns-clause-goes
returns-clause-goes c = goes_less _ _ c.args.run.now c.loop-k.run (no_room 24 (min (length c.args.xs.now) (length c.args.ys.now)) c.loop-k.k) c.loop-k.invariant.0.goes

pub returns-clause-tells : goal.returns-clause-tells
returns-clause-tells c =
    let first : c.loop-k.k ≡ 0 = omega (arith, c.loop-k-test.false) in
    tells_like _ _ (λ r. lexed c.args.equal (map (num r) (drop c.loop-k.k c.args.xs.now)) (map (num r) (drop c.loop-k.k c.args.ys.now))) _ _ (λ r. ap (λ i. lexed c.args.equal (map (num r) (drop i c.args.xs.now)) (map (num r) (drop i c.args.ys.now))) first) c.loop-k.invariant.0.tells
