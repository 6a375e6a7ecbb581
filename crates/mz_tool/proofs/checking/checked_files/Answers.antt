use Rattle.mz_tool.specs.declared.checking.Checked.{Checked}
use Rattle.mz_tool.proofs.Refusals.{failure_named, reads_nothing, test_stopped}
use Rattle.mz_tool.proofs.checking.checked_files.Goals as goal

pub returns-in-Ok-clause-program : goal.returns-in-Ok-clause-program
returns-in-Ok-clause-program c = record { typed = c.in-Ok.ensures.typed; named = c.in-Ok.ensures.named; named_in_order = c.in-Ok.ensures.named_in_order }

pub returns-in-Err-clause-refused : goal.returns-in-Err-clause-refused
returns-in-Err-clause-refused c = test_stopped Checked c.args.names.now c.args.read c.in-Err.stop c.stopped.result c.in-Err.ensures.refused (c.stopped.ensures.stops c.args.names.now)

pub returns-in-Err-clause-owner : goal.returns-in-Err-clause-owner
returns-in-Err-clause-owner c = failure_named Checked c.args.names.now c.stopped.result (c.stopped.ensures.named c.args.names.now c.requires)

pub returns-in-Err-clause-no_read_fault : goal.returns-in-Err-clause-no_read_fault
returns-in-Err-clause-no_read_fault c = reads_nothing Checked c.args.names.now c.args.read c.in-Err.stop c.stopped.result (c.stopped.ensures.stops c.args.names.now)
