use Rattle.fz_program.specs.declared.program.FzProgram.{FzProgram}
use Rattle.fz_program.specs.Flat.{program}
use Rattle.mz_words.specs.Requests.{compile, settings}
use Rattle.mz_tool.proofs.Ended.{failed_counts, failed_counts_out, failed_ends, failed_named, written, written_counts, written_named}
use Rattle.mz_tool.proofs.compile.compile.Goals as goal

pub write_program-requires : goal.write_program-requires
write_program-requires g c = c.in-Ok.ensures.flat.formed

pub returns-in-Ok-clause-ended : goal.returns-in-Ok-clause-ended
returns-in-Ok-clause-ended g c = written c.flat.new.names (g.F.Files.texts c.args.files.now) (settings c.args.options.now) (program c.in-Ok.flat) _ _ c.write_program.result c.in-Ok.ensures.flat c.write_program.ensures.left

pub returns-in-Ok-clause-named : goal.returns-in-Ok-clause-named
returns-in-Ok-clause-named g c = written_named c.flat.new.names (program c.in-Ok.flat) _ _ c.write_program.result c.write_program.ensures.left

pub returns-in-Ok-clause-files : goal.returns-in-Ok-clause-files
returns-in-Ok-clause-files g c = written_counts (program c.in-Ok.flat) _ _ c.write_program.result _ _ c.write_program.ensures.left c.in-Ok.ensures.counted

pub returns-in-Err-clause-ended : goal.returns-in-Err-clause-ended
returns-in-Err-clause-ended g c = rw c.failed.ensures (failed_ends FzProgram c.flat.new.names (g.F.Files.texts c.args.files.now) (compile (settings c.args.options.now)) _ c.in-Err.end c.in-Err.ensures.refused)

pub returns-in-Err-clause-named : goal.returns-in-Err-clause-named
returns-in-Err-clause-named g c = rw c.failed.ensures (failed_named FzProgram c.flat.new.names c.in-Err.end c.in-Err.ensures.owner)

pub returns-in-Err-clause-files : goal.returns-in-Err-clause-files
returns-in-Err-clause-files g c = rw c.failed.ensures (failed_counts FzProgram _ _ c.in-Err.end c.in-Err.ensures.counted)

pub returns-in-Err-clause-output : goal.returns-in-Err-clause-output
returns-in-Err-clause-output g c = rw c.failed.ensures (failed_counts_out _ c.in-Err.end)
