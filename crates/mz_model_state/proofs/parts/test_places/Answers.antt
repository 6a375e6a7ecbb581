use Rattle.std.proofs.Common.{◌≡◌, ◌<◌, ◌+◌, List, length, refl, subst, arith}
use Rattle.mz_arena.specs.Entries.{Entry}
use Rattle.mz_model_state.specs.StepsParts.{IsPlacedAt}
use Rattle.mz_model_state.proofs.PartNodes.{placed_step, placed_all}
use Rattle.mz_model_state.proofs.parts.test_places.Goals as goal

pub loop-i-preserved : goal.loop-i-preserved
loop-i-preserved c =
    placed_step c.args.run.now c.args.number c.loop-i.next c.in_ok-next.next c.loop-i.i (c.loop-i.i + 1) c.args.places.now (omega (arith, c.loop-i-test.true)) refl c.loop-i.invariant
    (subst (λ (es : List Entry). IsPlacedAt es c.loop-i.next c.args.places.now c.loop-i.i c.in_ok-next.next) c.arena-arena.ensures.nodes c.in_ok-next.ensures)

pub returns : goal.returns
returns c = placed_all c.args.run.now c.args.number c.loop-i.next c.loop-i.i c.args.places.now (omega (arith, c.loop-i-test.false, c.loop-i.auto.i-end)) c.loop-i.invariant
