use Rattle.mz_model.specs.Walks.{names_of}
use Rattle.mz_model.proofs.Endings.{halted_stops}
use Rattle.mz_model.proofs.ending.halted.Goals as goal

pub returns : goal.returns
returns c = halted_stops c.walks_are_closed.ensures.stops c.args.task.now c.args.run.now (names_of c.args.names.now) c.args.stop c.arena-nodes.ensures.sound c.in-Ok.ensures (c.are_in_order.ensures c.if-not-are_in_order.false) c.requires
