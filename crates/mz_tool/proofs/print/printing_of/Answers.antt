use Rattle.std.specs.Prelude.{Err}
use Rattle.mz_core.specs.Program.{plain_program}
use Rattle.mz_words.specs.Requests.{settings}
use Rattle.mz_analysis.specs.Analysis.{files_read, items_read}
use Rattle.mz_analysis.proofs.Declared.{typed_numbered}
use Rattle.mz_print_model.specs.declared.top_call.SolutionPrinting.{SolutionPrinting}
use Rattle.mz_print_model.specs.Printing.{IsPrinting, PrintingEnds}
use Rattle.mz_tool.specs.Headline.{limits_of}
use Rattle.mz_tool.proofs.Asked.{as_read, budget_is_small, read_from_zero, read_in_limit}
use Rattle.mz_tool.proofs.Ended.{printing_stops}
use Rattle.mz_tool.proofs.Places.{program_lies}
use Rattle.mz_tool.proofs.Refusals.{evaluation_stopped, failure_named, reads_nothing}
use Rattle.mz_tool.proofs.print.printing_of.Goals as goal

pub printing-requires-clause-small : goal.printing-requires-clause-small
printing-requires-clause-small c = budget_is_small (settings c.args.options.now) c.requires.limits

pub printing-requires-clause-from_zero : goal.printing-requires-clause-from_zero
printing-requires-clause-from_zero c = read_from_zero (settings c.args.options.now) c.requires.limits

pub printing-requires-clause-in_limit : goal.printing-requires-clause-in_limit
printing-requires-clause-in_limit c = read_in_limit (settings c.args.options.now) c.requires.limits

pub printing-requires-clause-numbered : goal.printing-requires-clause-numbered
printing-requires-clause-numbered c =
    let table = c.args.names.now in
    let k = c.args.checked.now in
    typed_numbered table (files_read table k.read) (items_read k.read) (plain_program k.program) c.requires.program.typed

pub printing-requires-clause-known : goal.printing-requires-clause-known
printing-requires-clause-known c = c.requires.program.named

pub returns-in-Ok-clause-printing : goal.returns-in-Ok-clause-printing
returns-in-Ok-clause-printing c =
    as_read (λ l. IsPrinting l c.args.names.now (plain_program c.args.checked.now.program) c.in-Ok.printing) (settings c.args.options.now) c.requires.limits c.in-Ok.ensures

pub returns-in-Err-clause-refused : goal.returns-in-Err-clause-refused
returns-in-Err-clause-refused c =
    let table = c.args.names.now in
    let k = c.args.checked.now in
    let p = plain_program k.program in
    let l = limits_of (settings c.args.options.now) in
    evaluation_stopped SolutionPrinting l table k.read p c.in-Err.stop c.stopped.result c.requires.program.typed (program_lies table k.read p c.requires.read c.requires.program.typed)
    (printing_stops l table p c.in-Err.stop (as_read (λ m. PrintingEnds m table p (Err c.in-Err.stop)) (settings c.args.options.now) c.requires.limits c.in-Err.ensures))
    (c.stopped.ensures.stops table)

pub returns-in-Err-clause-owner : goal.returns-in-Err-clause-owner
returns-in-Err-clause-owner c = failure_named SolutionPrinting c.args.names.now c.stopped.result (c.stopped.ensures.named c.args.names.now c.requires.read)

pub returns-in-Err-clause-no_read_fault : goal.returns-in-Err-clause-no_read_fault
returns-in-Err-clause-no_read_fault c = reads_nothing SolutionPrinting c.args.names.now c.args.checked.now.read c.in-Err.stop c.stopped.result (c.stopped.ensures.stops c.args.names.now)
