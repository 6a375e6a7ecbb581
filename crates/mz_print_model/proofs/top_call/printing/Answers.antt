use Rattle.std.specs.Prelude.{Err}
use Rattle.mz_core.specs.Program.{plain_program}
use Rattle.mz_model.specs.Ending.{ModelEnds}
use Rattle.mz_print_model.proofs.Ends.{refused}
use Rattle.mz_print_model.proofs.Limits.{as_read}
use Rattle.mz_print_model.proofs.top_call.printing.Goals as goal

pub returns-in-Err : goal.returns-in-Err
returns-in-Err c =
    let p = plain_program c.args.program.now in
    refused (record { budget = c.args.budget; int_range = c.args.int_range }) c.args.names.now p c.in-Err.stop
    (as_read (λ n. ModelEnds (record { budget = c.args.budget; int_range = n }) p (Err c.in-Err.stop)) c.args.int_range c.requires.from_zero c.requires.in_limit c.in-Err.ensures)
