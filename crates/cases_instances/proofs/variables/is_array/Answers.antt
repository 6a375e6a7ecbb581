use Rattle.cases_instances.proofs.Indexing.{array_given}
use Rattle.cases_instances.proofs.variables.is_array.Goals as goal

pub returns-then-is_index : goal.returns-then-is_index
returns-then-is_index c = array_given c.args.index.now c.args.cells c.has_places.result c.is_index.ensures c.if-is_index.true c.has_places.ensures
