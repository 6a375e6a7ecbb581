use Rattle.mz_words.specs.Requests.{settings}
use Rattle.fz_program.specs.declared.program.FzProgram.{FzProgram}
use Rattle.fz_program.specs.Flat.{program}
use Rattle.mz_tool.proofs.Ended.{failed_counts_out, failed_named, summarized, summarized_named, summarized_sure}
use Rattle.mz_tool.proofs.Made.{failed_made, failed_sure, made_flat, made_within}
use Rattle.mz_tool.proofs.make.make_of.Goals as goal

pub flat-requires : goal.flat-requires
flat-requires g c = made_within (settings c.options-options.result) c.options-options.ensures

pub summarize-requires : goal.summarize-requires
summarize-requires g c = c.in-Ok.ensures.flat.formed

pub returns-in-Ok-clause-ended : goal.returns-in-Ok-clause-ended
returns-in-Ok-clause-ended g c = λ number texts files size.
    summarized c.flat.new.names texts number c.args.model (program c.in-Ok.flat) _ _ c.summarize.result size
    (made_flat c.flat.new.names number c.args.files.now (settings c.options-options.result) (program c.in-Ok.flat) files c.options-options.ensures c.in-Ok.ensures.flat) c.summarize.ensures.left

pub returns-in-Ok-clause-named : goal.returns-in-Ok-clause-named
returns-in-Ok-clause-named g c = summarized_named c.flat.new.names c.args.model (program c.in-Ok.flat) _ _ c.summarize.result c.summarize.ensures.left

pub returns-in-Ok-clause-sure : goal.returns-in-Ok-clause-sure
returns-in-Ok-clause-sure g c = summarized_sure c.args.model (program c.in-Ok.flat) _ _ c.summarize.result c.summarize.ensures.left

pub returns-clause-ended : goal.returns-clause-ended
returns-clause-ended g c = λ number texts files size.
    rw c.failed.ensures
    (failed_made FzProgram c.flat.new.names texts number c.args.files.now (settings c.options-options.result) _ c.in-Err.end files c.options-options.ensures c.in-Err.ensures.refused)

pub returns-clause-named : goal.returns-clause-named
returns-clause-named g c = rw c.failed.ensures (failed_named FzProgram c.flat.new.names c.in-Err.end c.in-Err.ensures.owner)

pub returns-clause-sure : goal.returns-clause-sure
returns-clause-sure g c = rw c.failed.ensures (failed_sure FzProgram c.args.files.now c.flat.new.files c.in-Err.end c.in-Err.ensures.counted)

pub returns-clause-output : goal.returns-clause-output
returns-clause-output g c = rw c.failed.ensures (failed_counts_out _ c.in-Err.end)
