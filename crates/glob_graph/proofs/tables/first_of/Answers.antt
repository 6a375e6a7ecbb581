use Rattle.std.proofs.Common.{refl, arith}
use Rattle.glob_graph.proofs.Rowwise.{first_all}
use Rattle.glob_graph.proofs.tables.first_of.Goals as goal

pub returns-then-n-cells : goal.returns-then-n-cells
returns-then-n-cells c = refl

pub returns-else-n-cells : goal.returns-else-n-cells
returns-else-n-cells c = first_all c.args.n c.args.cells.now (omega (arith, c.if-n-cells.false))
