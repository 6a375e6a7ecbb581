use Rattle.std.proofs.Common.{inl, refl}
use Rattle.mz_words.specs.Requests.{settings}
use Rattle.mz_tool.specs.declared.checking.Checked.{Checked}
use Rattle.mz_tool.specs.StepsPrinting.{is_early}
use Rattle.mz_tool.proofs.Ended.{failed_counts, failed_counts_out, failed_named}
use Rattle.mz_tool.proofs.Printings.{counts_read, printed_end, refused_end, unread_early, unread_refused}
use Rattle.mz_tool.proofs.print.print.Goals as goal

pub print_checked-requires-clause-read : goal.print_checked-requires-clause-read
print_checked-requires-clause-read g c = c.in-Ok.ensures.checked.read

pub print_checked-requires-clause-program : goal.print_checked-requires-clause-program
print_checked-requires-clause-program g c = c.in-Ok.ensures.checked.program

pub returns-in-Ok-clause-printed : goal.returns-in-Ok-clause-printed
returns-in-Ok-clause-printed g c =
    printed_end c.checked_model.new.names (g.F.Files.texts c.args.files.now) (settings c.args.options.now) c.in-Ok.checked c.in-Ok.ensures.checked _ _ _ _ c.print_checked.result c.print_checked.ensures.printed

pub returns-in-Ok-clause-refused : goal.returns-in-Ok-clause-refused
returns-in-Ok-clause-refused g c =
    refused_end c.checked_model.new.names (g.F.Files.texts c.args.files.now) (settings c.args.options.now) c.in-Ok.checked c.in-Ok.ensures.checked _ _ _ _ c.print_checked.result c.print_checked.ensures.printed

pub returns-in-Ok-clause-counted : goal.returns-in-Ok-clause-counted
returns-in-Ok-clause-counted g c = counts_read (settings c.args.options.now) _ _ _ _ _ c.in-Ok.ensures.counted c.print_checked.ensures.counted

pub returns-in-Err-clause-printed : goal.returns-in-Err-clause-printed
returns-in-Err-clause-printed g c =
    rw c.failed.ensures (is_early (unread_early Checked c.checked_model.new.names (g.F.Files.texts c.args.files.now) (settings c.args.options.now) c.in-Err.end c.in-Err.ensures.refused) refl refl)

pub returns-in-Err-clause-refused : goal.returns-in-Err-clause-refused
returns-in-Err-clause-refused g c = rw c.failed.ensures (unread_refused Checked c.checked_model.new.names (g.F.Files.texts c.args.files.now) (settings c.args.options.now) c.in-Err.end c.in-Err.ensures.refused)

pub returns-in-Err-clause-named : goal.returns-in-Err-clause-named
returns-in-Err-clause-named g c = rw c.failed.ensures (failed_named Checked c.checked_model.new.names c.in-Err.end c.in-Err.ensures.owner)

pub returns-in-Err-clause-counted : goal.returns-in-Err-clause-counted
returns-in-Err-clause-counted g c = rw c.failed.ensures (inl (failed_counts Checked _ _ c.in-Err.end c.in-Err.ensures.counted, refl))

pub returns-in-Err-clause-output : goal.returns-in-Err-clause-output
returns-in-Err-clause-output g c = rw c.failed.ensures (failed_counts_out _ c.in-Err.end)
