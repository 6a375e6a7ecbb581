use Rattle.std.proofs.Common.{◌∙◌}
use Rattle.flat.proofs.Stepping.{values_next, values_all}
use Rattle.flat.proofs.arrays.value_ids.Goals as goal

pub cells-preserved : goal.cells-preserved
cells-preserved c = values_next c.args.cells.now c.cells.c-index c.c-item.result _ c.cells.all.items c.push.new.self.items c.cells-test.true c.c-item.is c.cells.invariant c.in_ok-push.ensures.items

pub returns : goal.returns
returns c = c.cells.invariant ∙ values_all c.args.cells.now c.cells.c-index c.cells-test.false
