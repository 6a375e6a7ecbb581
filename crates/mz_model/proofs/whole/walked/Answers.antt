use Rattle.mz_model.specs.Walks.{names_of}
use Rattle.mz_model.proofs.Walked.{walked_on, walked_not}
use Rattle.mz_model.proofs.whole.walked.Goals as goal

pub returns-clause-ends : goal.returns-clause-ends
returns-clause-ends c = walked_on c.walks_go_on.ensures.all c.args.task.now c.args.run.now c.declare_each.new.run c.constrain_each.new.run (names_of c.args.names.now) (names_of c.declare_each.new.names) c.as_slice.result.now c.as_slice-2.result.now c.constrain_each.result c.as_slice.ensures.value c.as_slice-2.ensures.value c.requires.begun c.in_ok-declare_each.ensures.ends c.constrain_each.ensures

pub returns-in_err-declare_each-clause-ends : goal.returns-in_err-declare_each-clause-ends
returns-in_err-declare_each-clause-ends c = walked_not c.args.task.now c.args.run.now c.declare_each.new.run (names_of c.args.names.now) (names_of c.declare_each.new.names) c.as_slice.result.now c.from_residual.result c.in_err-declare_each.field-0.0 c.as_slice.ensures.value c.requires.begun c.in_err-declare_each.ensures.ends c.from_residual.ensures.1
