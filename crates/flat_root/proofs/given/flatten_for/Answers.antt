use Rattle.std.proofs.Common.{length, ap, subst, sym, ◌∙◌}
use Rattle.flat_reif.specs.States.{state}
use Rattle.flat_reif.specs.Below.{AreNeeded}
use Rattle.flat_root.specs.Marks.{AreTotalIds}
use Rattle.flat_root.proofs.Rooting.{flattened_for, if_ok_weaker}
use Rattle.flat_root.proofs.given.flatten_for.Goals as goal

pub needed_for-requires : goal.needed_for-requires
needed_for-requires c = subst (λ es. AreTotalIds es c.args.ids.now) (sym c.arena.ensures) c.requires.total

pub flatten_below-requires-clause-need : goal.flatten_below-requires-clause-need
flatten_below-requires-clause-need c = subst (λ es. AreNeeded es c.in-Ok.x) c.arena.ensures c.in-Ok.ensures.needed

pub returns : goal.returns
returns c =
    if_ok_weaker c.flatten_below.result _ _
    (flattened_for (state c.args.flat.now) (state c.flatten_below.new.self) c.in-Ok.x c.len-count.result c.args.ids.now c.requires.total c.in-Ok.ensures.each (c.len-count.ensures.count ∙ ap length c.arena-2.ensures))
    c.flatten_below.ensures
