use Rattle.std.proofs.Common.{sym, subst}
use Rattle.mz_model.specs.Walks.{names_of}
use Rattle.mz_model.specs.Ending.{EndsFrom}
use Rattle.mz_model.proofs.Endings.{begun, walk_halts, walk_goes, stops_end}
use Rattle.mz_model.proofs.walk.bounded.Goals as goal

pub walked-requires-clause-begun : goal.walked-requires-clause-begun
walked-requires-clause-begun c = begun c.walks_go_on.ensures.begins c.args.task.now c.new-run.result (names_of c.no_names-names.result) c.new-run.ensures c.no_names-names.ensures.none c.requires

pub halted-requires : goal.halted-requires
halted-requires c = walk_halts c.args.task.now c.walked.new.run (names_of c.walked.new.names) c.in-Err.s c.in-Err.ensures.ends

pub constrained-requires : goal.constrained-requires
constrained-requires c = subst (EndsFrom c.args.task.now c.walked.new.run c.walked.new.names) (sym c.deref.ensures.value) (walk_goes c.args.task.now c.walked.new.run c.walked.new.names c.in-Ok.cs c.in-Ok.ensures.readable c.in-Ok.ensures.ends)

pub returns-in-Err : goal.returns-in-Err
returns-in-Err c = stops_end c.args.task.now c.halted.result c.halted.ensures
