use Rattle.mz_words.specs.Requests.{settings}
use Rattle.fz_items.specs.Forms.{forms}
use Rattle.mz_print_model.specs.Given.{solution_texts}
use Rattle.mz_print_model.specs.declared.top_call.SolutionPrinting.{SolutionPrinting}
use Rattle.mz_tool.specs.Headline.{limits_of}
use Rattle.mz_tool.specs.StepsPrinting.{ends_early, ends_late}
use Rattle.mz_tool.proofs.Ended.{failed_counts_out, failed_named}
use Rattle.mz_tool.proofs.Printings.{counts_put, counts_taken, failed_early, failed_input}
use Rattle.std.proofs.Common.{refl}
use Rattle.mz_tool.proofs.print.print_checked.Goals as goal

pub print_by-requires : goal.print_by-requires
print_by-requires g c = c.in-Ok.ensures.printing.takes

pub end_of-requires : goal.end_of-requires
end_of-requires g c = c.requires.read.some

pub returns-in-Ok-clause-printed : goal.returns-in-Ok-clause-printed
returns-in-Ok-clause-printed g c =
    ends_late c.print_by.result (c.end_of.ensures.is c.args.names.now)
    (record { texts = solution_texts c.in-Ok.printing.printer; forms = forms c.in-Ok.printing.shapes.items; has = c.in-Ok.ensures.printing.has; prints = c.print_by.ensures.printed })

pub returns-in-Ok-clause-named : goal.returns-in-Ok-clause-named
returns-in-Ok-clause-named g c = c.end_of.ensures.named c.args.names.now c.requires.read

pub returns-in-Ok-clause-counted : goal.returns-in-Ok-clause-counted
returns-in-Ok-clause-counted g c = counts_taken c.args.names.now c.args.checked.now.read c.print_by.result c.end_of.result _ _ (c.end_of.ensures.is c.args.names.now) c.print_by.ensures.counted

pub returns-in-Ok-clause-counted_out : goal.returns-in-Ok-clause-counted_out
returns-in-Ok-clause-counted_out g c = counts_put c.args.names.now c.args.checked.now.read c.print_by.result c.end_of.result _ _ (c.end_of.ensures.is c.args.names.now) c.print_by.ensures.counted_out

pub returns-in-Err-clause-printed : goal.returns-in-Err-clause-printed
returns-in-Err-clause-printed g c =
    rw c.failed.ensures
    (ends_early (failed_early SolutionPrinting (limits_of (settings c.args.options.now)) c.args.names.now c.args.checked.now c.in-Err.end c.in-Err.ensures.no_read_fault c.in-Err.ensures.refused) refl refl)

pub returns-in-Err-clause-named : goal.returns-in-Err-clause-named
returns-in-Err-clause-named g c = rw c.failed.ensures (failed_named SolutionPrinting c.args.names.now c.in-Err.end c.in-Err.ensures.owner)

pub returns-in-Err-clause-counted : goal.returns-in-Err-clause-counted
returns-in-Err-clause-counted g c = rw c.failed.ensures (failed_input SolutionPrinting _ c.in-Err.end c.in-Err.ensures.no_read_fault)

pub returns-in-Err-clause-counted_out : goal.returns-in-Err-clause-counted_out
returns-in-Err-clause-counted_out g c = rw c.failed.ensures (failed_counts_out _ c.in-Err.end)
