use Rattle.std.proofs.Common.{◌≡◌, suc, ◌+◌, subst, arith}
use Rattle.flat_reif.specs.States.{state}
use Rattle.flat_reif.specs.Below.{FlattenedBelow}
use Rattle.flat_reif.proofs.Below.{below_none, below_next, due_here, below_place, front_kept}
use Rattle.flat_reif.proofs.flat.Flat.flatten_below.Goals as goal

pub ids-init : goal.ids-init
ids-init c = (below_none (state c.args.self.now) c.args.need.now c.requires.state, omega arith)

pub settle-requires-clause-state : goal.settle-requires-clause-state
settle-requires-clause-state c = c.ids.invariant.0.flattened.state

pub settle-requires-clause-front : goal.settle-requires-clause-front
settle-requires-clause-front c = front_kept (state c.args.self.now) (state c.ids.self) c.ids.invariant.0.flattened c.requires.front

pub settle-requires-clause-place : goal.settle-requires-clause-place
settle-requires-clause-place c = below_place (state c.args.self.now) (state c.ids.self) c.args.need.now c.ids.here c.args.upto c.ids.invariant.0 c.ids-test.true c.requires.upto

pub settle-requires-clause-due : goal.settle-requires-clause-due
settle-requires-clause-due c = due_here (state c.args.self.now) (state c.ids.self) c.args.need.now c.ids.here c.ids.invariant.0 c.requires.need c.has.result (omega (arith, c.ids-test.true, c.requires.upto)) c.has.ensures

pub ids-preserved : goal.ids-preserved
ids-preserved c =
    let next : suc c.ids.here ≡ c.ids.here + 1 = omega arith in
    (subst (FlattenedBelow (state c.args.self.now) (state c.settle.new.self) c.args.need.now) next (below_next (state c.args.self.now) (state c.ids.self) (state c.settle.new.self) c.args.need.now c.ids.here c.has.result c.ids.invariant.0 c.has.ensures c.in-Ok.ensures), omega (arith, c.ids-test.true))

pub returns : goal.returns
returns c =
    let all : c.ids.here ≡ c.args.upto = omega (arith, c.ids-test.false, c.ids.invariant.1) in
    subst (FlattenedBelow (state c.args.self.now) (state c.ids.self) c.args.need.now) all c.ids.invariant.0
