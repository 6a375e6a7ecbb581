use Rattle.std.proofs.Common.{◌∙◌, ap, sym, Some}
use Rattle.std.proofs.lemmas.List.{map_push}
use Rattle.soln_reader.specs.Views.{given, givens}
use Rattle.fz_items.specs.Forms.{form}
use Rattle.soln_reader.proofs.Solutions.{nothing_step, nothing_all}
use Rattle.soln_reader.proofs.block.nothing_for.Goals as goal

pub loop-shape-preserved : goal.loop-shape-preserved
loop-shape-preserved c =
    ap givens c.in_ok-push.ensures.items ∙ map_push given c.loop-shape.gs.items _
    ∙ nothing_step form c.args.shapes.now c.loop-shape._shape-index _ c.loop-shape-test.true c.loop-shape.invariant

pub returns : goal.returns
returns c = ap Some (sym (c.loop-shape.invariant ∙ nothing_all form c.args.shapes.now c.loop-shape._shape-index c.loop-shape-test.false))
