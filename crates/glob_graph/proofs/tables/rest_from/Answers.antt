use Rattle.std.proofs.Common.{arith}
use Rattle.glob_nodes.proofs.Telling.{tail_is}
use Rattle.glob_graph.proofs.Rowwise.{rest_none}
use Rattle.glob_graph.proofs.tables.rest_from.Goals as goal

pub returns-then-at-cells : goal.returns-then-at-cells
returns-then-at-cells c = tail_is c.args.at c.args.cells.now

pub returns-else-at-cells : goal.returns-else-at-cells
returns-else-at-cells c = rest_none c.args.at c.args.cells.now (omega (arith, c.if-at-cells.false))
