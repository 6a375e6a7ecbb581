use Rattle.std.proofs.Common.{◌≡◌, take}
use Rattle.soln_reader.specs.Views.{givens}
use Rattle.fz_items.specs.Forms.{forms}
use Rattle.soln_reader.specs.Blocks.{nothing_for}
use Rattle.soln_reader.proofs.block.nothing_for.Given as goal

abbrev pub invariant-loop-shape : goal.invariant-loop-shape
invariant-loop-shape l = givens l.gs.items ≡ nothing_for (take l._shape-index (forms l.shapes))
