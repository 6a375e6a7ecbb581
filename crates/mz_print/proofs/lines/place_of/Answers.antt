use Rattle.std.proofs.Common.{◌∙◌, sym}
use Rattle.mz_print.proofs.DefaultLines.{place_begins, place_goes_on, place_is_here, no_place}
use Rattle.mz_print.proofs.lines.place_of.Goals as goal

pub loop-k-init : goal.loop-k-init
loop-k-init c = place_begins c.args.slot c.args.slots.now

pub returns-then-is_at : goal.returns-then-is_at
returns-then-is_at c = place_is_here c.args.slot c.args.slots.now c.loop-k.k c.loop-k-test.true (sym c.is_at.ensures ∙ c.if-is_at.true) c.loop-k.invariant

pub loop-k-preserved : goal.loop-k-preserved
loop-k-preserved c = place_goes_on c.args.slot c.args.slots.now c.loop-k.k c.loop-k-test.true (sym c.is_at.ensures ∙ c.if-is_at.false) c.loop-k.invariant

pub returns : goal.returns
returns c = no_place c.args.slot c.args.slots.now c.loop-k.k c.loop-k-test.false c.loop-k.invariant
