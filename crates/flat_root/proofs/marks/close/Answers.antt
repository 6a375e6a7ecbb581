use Rattle.std.proofs.Common.{◌≡◌, ◌+◌, ◌-◌, sym, subst, arith}
use Rattle.flat_root.specs.Marks.{ClosedFrom, ClosesAt}
use Rattle.flat_root.proofs.Marking.{closes_none, closes_then}
use Rattle.flat_root.proofs.marks.close.Goals as goal

pub down-init : goal.down-init
down-init c = (subst (ClosesAt c.args.arena.now c.args.need.now c.args.need.now) (sym c.len-here.ensures.count) (closes_none c.args.arena.now c.args.need.now c.requires), omega (arith, c.len-here.ensures.count))

pub close_at-requires-clause-place : goal.close_at-requires-clause-place
close_at-requires-clause-place c = omega (arith, c.down-test.true, c.down.invariant.1)

pub close_at-requires-clause-total : goal.close_at-requires-clause-total
close_at-requires-clause-total c = c.down.invariant.0.total

pub close_at-requires-clause-closed : goal.close_at-requires-clause-closed
close_at-requires-clause-closed c =
    let here : c.down.here ≡ (c.down.here - 1) + 1 = omega (arith, c.down-test.true) in
    subst (ClosedFrom c.args.arena.now c.down.need) here c.down.invariant.0.closed

pub down-preserved : goal.down-preserved
down-preserved c =
    let here : c.down.here ≡ (c.down.here - 1) + 1 = omega (arith, c.down-test.true) in
    (closes_then c.args.arena.now c.args.need.now c.down.need c.close_at.new.need (c.down.here - 1) (subst (ClosesAt c.args.arena.now c.args.need.now c.down.need) here c.down.invariant.0) c.in-Ok.ensures, omega (arith, c.down.invariant.1))

pub returns : goal.returns
returns c =
    let none : c.down.here ≡ 0 = omega (arith, c.down-test.false) in
    subst (ClosesAt c.args.arena.now c.args.need.now c.down.need) none c.down.invariant.0
