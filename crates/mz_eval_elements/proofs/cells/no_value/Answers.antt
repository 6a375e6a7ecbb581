use Rattle.std.proofs.Common.{ap}
use Rattle.mz_meaning.specs.Cells.{value_of}
use Rattle.mz_eval_elements.proofs.cells.no_value.Goals as goal

pub returns-clause-seen : goal.returns-clause-seen
returns-clause-seen c r = ap value_of (c.in_ok-k.ensures.seen r)
