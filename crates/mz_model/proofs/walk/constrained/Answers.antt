use Rattle.mz_model.proofs.Endings.{aim_halts, in_hand, stops_end}
use Rattle.mz_model.proofs.walk.constrained.Goals as goal

pub halted-requires : goal.halted-requires
halted-requires c = aim_halts c.walks_are_closed.ensures.objective c.args.task.now c.args.run c.aim_of.new.run c.args.names c.args.cs.now c.in-Err.s c.requires c.in-Err.ensures

pub instance_of-requires : goal.instance_of-requires
instance_of-requires c = in_hand c.args.task.now c.args.run c.aim_of.new.run c.args.names c.args.cs.now c.in-Ok.goal c.requires c.in-Ok.ensures

pub returns-in-Err : goal.returns-in-Err
returns-in-Err c = stops_end c.args.task.now c.halted.result c.halted.ensures
