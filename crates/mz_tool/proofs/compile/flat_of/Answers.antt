use Rattle.std.specs.Prelude.{Err}
use Rattle.mz_core.specs.Program.{plain_program}
use Rattle.mz_words.specs.Requests.{settings}
use Rattle.fz_program.specs.declared.program.FzProgram.{FzProgram}
use Rattle.fz_program.specs.Flat.{program}
use Rattle.mz_analysis.specs.Analysis.{evaluated, files_read, items_read}
use Rattle.mz_analysis.proofs.Declared.{typed_numbered, typed_distinct}
use Rattle.mz_tool.specs.Compiled.{IsCompiled, CompileEnds}
use Rattle.mz_tool.specs.Headline.{limits_of}
use Rattle.mz_tool.proofs.Asked.{as_read, budget_is_small, read_from_zero, read_in_limit}
use Rattle.mz_tool.proofs.Ended.{compile_stops}
use Rattle.mz_tool.proofs.Named.{texts_differ}
use Rattle.mz_tool.proofs.Places.{program_lies}
use Rattle.mz_tool.proofs.Refusals.{evaluation_stopped, failure_named, reads_nothing}
use Rattle.mz_tool.proofs.compile.flat_of.Goals as goal

pub compiled-requires-clause-small : goal.compiled-requires-clause-small
compiled-requires-clause-small c = budget_is_small (settings c.args.options.now) c.requires.limits

pub compiled-requires-clause-from_zero : goal.compiled-requires-clause-from_zero
compiled-requires-clause-from_zero c = read_from_zero (settings c.args.options.now) c.requires.limits

pub compiled-requires-clause-in_limit : goal.compiled-requires-clause-in_limit
compiled-requires-clause-in_limit c = read_in_limit (settings c.args.options.now) c.requires.limits

pub compiled-requires-clause-numbered : goal.compiled-requires-clause-numbered
compiled-requires-clause-numbered c =
    let table = c.args.names.now in
    let k = c.args.checked.now in
    typed_numbered table (files_read table k.read) (items_read k.read) (plain_program k.program) c.requires.program.typed

pub compiled-requires-clause-spelled : goal.compiled-requires-clause-spelled
compiled-requires-clause-spelled c = c.requires.spelled

pub compiled-requires-clause-distinct : goal.compiled-requires-clause-distinct
compiled-requires-clause-distinct c =
    let table = c.args.names.now in
    let k = c.args.checked.now in
    let p = plain_program k.program in
    texts_differ table c.requires.distinct (evaluated p) c.requires.program.named_in_order (typed_distinct table (files_read table k.read) (items_read k.read) p c.requires.program.typed)

pub returns-in-Ok-clause-compiled : goal.returns-in-Ok-clause-compiled
returns-in-Ok-clause-compiled c =
    as_read (λ l. IsCompiled l c.args.names.now (plain_program c.args.checked.now.program) (program c.in-Ok.flat)) (settings c.args.options.now) c.requires.limits c.in-Ok.ensures

pub returns-in-Err-clause-refused : goal.returns-in-Err-clause-refused
returns-in-Err-clause-refused c =
    let table = c.args.names.now in
    let k = c.args.checked.now in
    let p = plain_program k.program in
    let l = limits_of (settings c.args.options.now) in
    evaluation_stopped FzProgram l table k.read p c.in-Err.stop c.stopped.result c.requires.program.typed (program_lies table k.read p c.requires.read c.requires.program.typed)
    (compile_stops l table p c.in-Err.stop (as_read (λ m. CompileEnds m table p (Err c.in-Err.stop)) (settings c.args.options.now) c.requires.limits c.in-Err.ensures))
    (c.stopped.ensures.stops table)

pub returns-in-Err-clause-owner : goal.returns-in-Err-clause-owner
returns-in-Err-clause-owner c = failure_named FzProgram c.args.names.now c.stopped.result (c.stopped.ensures.named c.args.names.now c.requires.read)

pub returns-in-Err-clause-no_read_fault : goal.returns-in-Err-clause-no_read_fault
returns-in-Err-clause-no_read_fault c = reads_nothing FzProgram c.args.names.now c.args.checked.now.read c.in-Err.stop c.stopped.result (c.stopped.ensures.stops c.args.names.now)
