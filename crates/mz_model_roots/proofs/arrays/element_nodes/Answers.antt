use Rattle.std.proofs.Common.{◌≡◌, ◌<◌, ◌+◌, ℕ, List, length, refl, sym, ap, subst, arith}
use Rattle.mz_meaning.specs.Runs.{Out}
use Rattle.mz_symbol.proofs.ConstantLaws.{out_state}
use Rattle.mz_model_roots.specs.StepsEqual.{AreSoFar}
use Rattle.mz_model_roots.proofs.ArrayRoots.{nodes_more, goes_some, goes_all, nodes_all}
use Rattle.mz_model_roots.proofs.arrays.element_nodes.Goals as goal

pub loop-i-preserved : goal.loop-i-preserved
loop-i-preserved c =
    subst (λ (ids : List ℕ). AreSoFar c.args.run.now c.node_at.new.run c.args.places.now c.args.items.now (c.loop-i.i + 1) ids) (sym c.in_ok-push.ensures.items)
    (nodes_more c.args.run.now c.loop-i.run c.node_at.new.run c.args.places.now c.args.items.now c.loop-i.i (c.loop-i.i + 1) c.loop-i.all.items c.in_ok-id.id refl (omega (arith, c.loop-i-test.true)) (omega (arith, c.if-places-items.false)) c.loop-i.invariant c.in_ok-id.ensures.goes (λ r h. out_state (c.in_ok-id.ensures.stays r h)) c.in_ok-id.ensures.equal)

pub returns-clause-goes : goal.returns-clause-goes
returns-clause-goes c = goes_all c.args.run.now c.loop-i.run c.args.places.now c.args.items.now c.loop-i.i c.loop-i.all.items (omega (arith, c.loop-i-test.false, c.loop-i.auto.i-end)) c.loop-i.invariant

pub returns-clause-stays : goal.returns-clause-stays
returns-clause-stays c r h = ap (Out tt) (c.loop-i.invariant.same r h)

pub returns-clause-equal : goal.returns-clause-equal
returns-clause-equal c = nodes_all c.args.run.now c.loop-i.run c.args.places.now c.args.items.now c.loop-i.i c.loop-i.all.items (omega (arith, c.loop-i-test.false, c.loop-i.auto.i-end)) (omega (arith, c.if-places-items.false)) c.loop-i.invariant
