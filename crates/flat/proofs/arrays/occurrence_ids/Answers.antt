use Rattle.std.proofs.Common.{◌∙◌}
use Rattle.flat.proofs.Stepping.{occurrences_next, occurrences_all}
use Rattle.flat.proofs.arrays.occurrence_ids.Goals as goal

pub cells-preserved : goal.cells-preserved
cells-preserved c = occurrences_next c.args.cells.now c.cells.c-index c.c-item.result _ c.cells.all.items c.push_some.new.all.items c.cells-test.true c.c-item.is c.cells.invariant c.in-Ok.ensures

pub returns : goal.returns
returns c = c.cells.invariant ∙ occurrences_all c.args.cells.now c.cells.c-index c.cells-test.false
