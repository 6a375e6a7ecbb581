use Rattle.std.proofs.Common.{◌≡◌, ◌+◌, ◌*◌, ◌-◌, ◌<◌, ◌≤◌, length, drop, slice_index_or, ap, arith}
use Rattle.mz_arena.specs.Values.{cons_term}
use Rattle.mz_symbol.specs.Symbols.{list_term}
use Rattle.glob_nodes.proofs.Telling.{given_step, room_left, room_all, no_room, goes_more, goes_less}
use Rattle.glob_nodes.proofs.Counting.{given_from, gives_like, list_begins, list_goes}
use Rattle.glob_nodes.proofs.listing.list_of.Goals as goal

pub loop-k-init : goal.loop-k-init
loop-k-init c = (
  given_from (8 * (length c.args.items.now - length c.args.items.now)) c.args.run.now c.made.new.run _ _ c.in_ok-acc.acc c.in_ok-acc.ensures.goes c.in_ok-acc.ensures.gives (λ r. list_begins r.term c.args.items.now),
  omega arith,
)

pub loop-k-preserved : goal.loop-k-preserved
loop-k-preserved c =
    let low : 0 < c.loop-k.k = omega (arith, c.loop-k-test.true) in (
      given_step (8 * (length c.args.items.now - c.loop-k.k)) 8 _ c.args.run.now c.loop-k.run c.made-in-loop-k.new.run
          (λ r. list_term r.term (drop c.loop-k.k c.args.items.now))
          _
          (λ r t. cons_term (r.term (slice_index_or c.args.items.now (c.loop-k.k - 1) 0)) t)
          c.loop-k.acc c.in_ok-acc-2.acc
          (room_left 8 (length c.args.items.now) c.loop-k.k c.loop-k.invariant.1 low)
          c.loop-k.invariant.0 c.in_ok-acc-2.ensures.goes c.in_ok-acc-2.ensures.gives
          (λ r. list_goes r.term c.args.items.now c.loop-k.k c.loop-k.invariant.1 low),
      omega (arith, c.loop-k.invariant.1),
    )

pub returns-in_err-acc-2-clause-goes : goal.returns-in_err-acc-2-clause-goes
returns-in_err-acc-2-clause-goes c = goes_more (8 * (length c.args.items.now - c.loop-k.k)) 8 _ _ _ _ (room_all 8 (length c.args.items.now) c.loop-k.k c.loop-k.invariant.1 (omega (arith, c.loop-k-test.true))) c.loop-k.invariant.0.goes c.made-in-loop-k.ensures.goes

pub returns-clause-goes : goal.returns-clause-goes
returns-clause-goes c = goes_less _ _ c.args.run.now c.loop-k.run (no_room 8 (length c.args.items.now) c.loop-k.k) c.loop-k.invariant.0.goes

pub returns-clause-gives : goal.returns-clause-gives
returns-clause-gives c =
    let first : c.loop-k.k ≡ 0 = omega (arith, c.loop-k-test.false) in
    gives_like _ _ (λ r. list_term r.term (drop c.loop-k.k c.args.items.now)) _ _ (λ r. ap (λ i. list_term r.term (drop i c.args.items.now)) first) c.loop-k.invariant.0.gives
