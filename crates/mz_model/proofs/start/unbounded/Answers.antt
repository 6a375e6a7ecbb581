use Rattle.std.proofs.Common.{sym, subst}
use Rattle.mz_model_meaning.specs.Refusals.{StopsOnce}
use Rattle.mz_model.specs.Walks.{limits_of, program_of}
use Rattle.mz_model.proofs.Starts.{unbounded_stops}
use Rattle.mz_model.proofs.start.unbounded.Goals as goal

pub returns : goal.returns
returns c = subst (StopsOnce (limits_of c.args.task.now) (program_of c.args.task.now)) (sym c.at.ensures) (unbounded_stops c.walks_are_closed.ensures.stops c.declarations_are_walked.ensures.unbounded c.args.task.now c.new-run.result c.args.at c.arena-nodes.ensures.sound c.requires)
