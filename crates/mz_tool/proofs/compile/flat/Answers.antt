use Rattle.std.proofs.lemmas.Result.{IfOk-weaker}
use Rattle.std.proofs.Common.{◌<◌, length}
use Rattle.mz_base.specs.Names.{text_of}
use Rattle.mz_core.specs.Program.{plain_program}
use Rattle.fz_program.specs.declared.program.FzProgram.{FzProgram}
use Rattle.fz_program.specs.Flat.{program}
use Rattle.mz_words.specs.Requests.{settings}
use Rattle.mz_analysis.specs.Analysis.{files_read, items_read}
use Rattle.mz_analysis.proofs.Spelled.{names_own}
use Rattle.mz_tool.specs.declared.checking.Checked.{Checked}
use Rattle.mz_tool.specs.Headline.{limits_of}
use Rattle.mz_tool.specs.Status.{IsRefusal}
use Rattle.mz_tool.proofs.Ended.{is_flat}
use Rattle.mz_tool.proofs.Refusals.{counted_too, counts_after, its_refusals, refused_too}
use Rattle.mz_tool.proofs.compile.flat.Goals as goal

pub flat_of-requires-clause-distinct : goal.flat_of-requires-clause-distinct
flat_of-requires-clause-distinct g c = c.in-Ok.ensures.checked.distinct

pub flat_of-requires-clause-read : goal.flat_of-requires-clause-read
flat_of-requires-clause-read g c = c.in-Ok.ensures.checked.read

pub flat_of-requires-clause-program : goal.flat_of-requires-clause-program
flat_of-requires-clause-program g c = c.in-Ok.ensures.checked.program

pub flat_of-requires-clause-spelled : goal.flat_of-requires-clause-spelled
flat_of-requires-clause-spelled g c =
    let table = c.checked_model.new.names in
    let s = settings c.args.options.now in
    let k = c.in-Ok.checked in
    names_own table (g.F.Files.texts c.args.files.now) s.model (files_read table k.read) (items_read k.read) (plain_program k.program) c.in-Ok.ensures.checked.sources.model c.in-Ok.ensures.checked.program.typed

pub returns-in-Ok-clause-flat : goal.returns-in-Ok-clause-flat
returns-in-Ok-clause-flat g c =
    IfOk-weaker c.flat_of.result _ _
    (λ flat k. is_flat c.checked_model.new.names (g.F.Files.texts c.args.files.now) (settings c.args.options.now) c.in-Ok.checked (program flat) c.in-Ok.ensures.checked k) c.flat_of.ensures.compiled

pub returns-in-Ok-clause-refused : goal.returns-in-Ok-clause-refused
returns-in-Ok-clause-refused g c =
    its_refusals c.checked_model.new.names (g.F.Files.texts c.args.files.now) (settings c.args.options.now) c.in-Ok.checked.read c.in-Ok.ensures.checked.sources c.in-Ok.ensures.checked.given c.flat_of.result c.flat_of.ensures.refused

pub returns-in-Ok-clause-counted : goal.returns-in-Ok-clause-counted
returns-in-Ok-clause-counted g c =
    counts_after (limits_of (settings c.args.options.now)) c.checked_model.new.names c.in-Ok.checked.read _ _ c.flat_of.result c.in-Ok.ensures.counted c.flat_of.ensures.no_read_fault c.flat_of.ensures.refused

pub returns-in-Err-clause-refused : goal.returns-in-Err-clause-refused
returns-in-Err-clause-refused g c =
    let table = c.checked_model.new.names in
    refused_too Checked FzProgram (λ f n. IsRefusal table (g.F.Files.texts c.args.files.now) (settings c.args.options.now) f (text_of table n)) c.in-Err.end c.in-Err.ensures.refused

pub returns-in-Err-clause-owner : goal.returns-in-Err-clause-owner
returns-in-Err-clause-owner g c = refused_too Checked FzProgram (λ f n. n < length c.checked_model.new.names) c.in-Err.end c.in-Err.ensures.owner

pub returns-in-Err-clause-counted : goal.returns-in-Err-clause-counted
returns-in-Err-clause-counted g c = counted_too Checked FzProgram _ _ c.in-Err.end c.in-Err.ensures.counted
