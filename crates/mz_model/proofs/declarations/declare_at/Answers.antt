use Rattle.mz_model.specs.Walks.{names_of}
use Rattle.mz_model.proofs.Declared.{there, not_there, this_number, no_number}
use Rattle.mz_model.proofs.declarations.declare_at.Goals as goal

pub returns-in-None-clause-ends : goal.returns-in-None-clause-ends
returns-in-None-clause-ends c = no_number c.args.task.now c.args.run.now (names_of c.args.names.now) c.args.k (not_there c.deref.result.now c.args.task.now.program.now.decls.items c.args.k c.deref.ensures.value c.in-None.ensures.lookup)

pub returns-in-Some-clause-ends : goal.returns-in-Some-clause-ends
returns-in-Some-clause-ends c = this_number c.args.task.now c.args.run.now c.declare_next.new.run (names_of c.args.names.now) (names_of c.declare_next.new.names) c.args.k c.in-Some.d.now c.declare_next.result (there c.deref.result.now c.args.task.now.program.now.decls.items c.args.k c.in-Some.d c.deref.ensures.value c.in-Some.ensures.lookup) c.declare_next.ensures.ends
