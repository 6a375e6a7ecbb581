use Rattle.std.specs.Prelude.{Err}
use Rattle.mz_arena.specs.Instances.{instance}
use Rattle.mz_core.specs.Program.{plain_program}
use Rattle.mz_model_meaning.specs.Modeled.{Modeled}
use Rattle.mz_print_model.specs.Given.{ModelEnds}
use Rattle.mz_tool.proofs.Limits.{as_read}
use Rattle.mz_tool.proofs.CompiledLaws.{flattened, refused}
use Rattle.mz_tool.proofs.Spelling.{are_named}
use Rattle.mz_tool.proofs.flat_program.compiled.Goals as goal

pub flattened-requires-clause-instance : goal.flattened-requires-clause-instance
flattened-requires-clause-instance c = c.in-Ok.ensures.sound

pub flattened-requires-clause-named : goal.flattened-requires-clause-named
flattened-requires-clause-named c =
    let p = plain_program c.args.program.now in
    are_named c.args.names.now p.decls p.order (instance c.in-Ok.inst).vars c.requires.spelled c.requires.distinct c.in-Ok.ensures.vars

pub returns-in-Ok : goal.returns-in-Ok
returns-in-Ok c =
    let p = plain_program c.args.program.now in
    flattened (record { budget = c.args.budget; int_range = c.args.int_range }) c.args.names.now p (instance c.in-Ok.inst) c.flattened.result c.requires.numbered
    (as_read (λ n. Modeled (record { budget = c.args.budget; int_range = n }) p (instance c.in-Ok.inst)) c.args.int_range c.requires.from_zero c.requires.in_limit c.in-Ok.ensures)
    c.flattened.ensures

pub returns-in-Err : goal.returns-in-Err
returns-in-Err c =
    let p = plain_program c.args.program.now in
    refused (record { budget = c.args.budget; int_range = c.args.int_range }) c.args.names.now p c.in-Err.stop
    (as_read (λ n. ModelEnds (record { budget = c.args.budget; int_range = n }) p (Err c.in-Err.stop)) c.args.int_range c.requires.from_zero c.requires.in_limit c.in-Err.ensures)
