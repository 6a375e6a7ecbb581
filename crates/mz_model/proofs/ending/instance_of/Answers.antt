use Rattle.std.proofs.Common.{◌∙◌}
use Rattle.mz_model.specs.Walks.{names_of}
use Rattle.mz_model.proofs.Endings.{closed_models}
use Rattle.mz_model.proofs.ending.instance_of.Goals as goal

pub returns : goal.returns
returns c = closed_models c.walks_are_closed.ensures.models c.args.task.now c.args.run (names_of c.args.names) c.list_of-list.result.items c.args.cs.now c.deref.result.now c.args.goal c.in_ok-inst.inst c.list_of-list.ensures (c.deref.ensures.value ∙ c.in_ok-roots.ensures) c.requires c.in_ok-inst.ensures (c.is_declared.ensures c.if-not-is_declared.false)
