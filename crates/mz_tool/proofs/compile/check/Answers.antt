use Rattle.std.proofs.Common.{refl}
use Rattle.fz_program.specs.declared.program.FzProgram.{FzProgram}
use Rattle.fz_program.specs.Flat.{program}
use Rattle.mz_words.specs.Requests.{check, settings}
use Rattle.mz_tool.proofs.Ended.{checked, failed_counts, failed_counts_out, failed_ends, failed_named}
use Rattle.mz_tool.proofs.compile.check.Goals as goal

pub returns-in-Ok-clause-ended : goal.returns-in-Ok-clause-ended
returns-in-Ok-clause-ended g c = λ h. checked c.flat.new.names (g.F.Files.texts c.args.files.now) (settings c.args.options.now) (program c.in-Ok._flat) h c.in-Ok.ensures.flat

pub returns-in-Ok-clause-writes_nothing : goal.returns-in-Ok-clause-writes_nothing
returns-in-Ok-clause-writes_nothing g c = λ counts. refl

pub returns-in-Err-clause-ended : goal.returns-in-Err-clause-ended
returns-in-Err-clause-ended g c = λ h. rw c.failed.ensures (failed_ends FzProgram c.flat.new.names (g.F.Files.texts c.args.files.now) (check (settings c.args.options.now)) h c.in-Err.end c.in-Err.ensures.refused)

pub returns-in-Err-clause-named : goal.returns-in-Err-clause-named
returns-in-Err-clause-named g c = rw c.failed.ensures (failed_named FzProgram c.flat.new.names c.in-Err.end c.in-Err.ensures.owner)

pub returns-in-Err-clause-files : goal.returns-in-Err-clause-files
returns-in-Err-clause-files g c = rw c.failed.ensures (failed_counts FzProgram _ _ c.in-Err.end c.in-Err.ensures.counted)

pub returns-in-Err-clause-writes_nothing : goal.returns-in-Err-clause-writes_nothing
returns-in-Err-clause-writes_nothing g c = λ counts. rw c.failed.ensures (failed_counts_out counts c.in-Err.end)
