use Rattle.std.proofs.Common.{◌<◌, length}
use Rattle.mz_include.specs.declared.with_data.gathering.SourcesWithData.{SourcesWithData}
use Rattle.mz_words.specs.Requests.{settings}
use Rattle.mz_tool.specs.declared.checking.Checked.{Checked}
use Rattle.mz_tool.specs.Headline.{limits_of}
use Rattle.mz_tool.proofs.Refusals.{checked_so, counted_too, counts_after, its_refusals, refused_too, unread, with_limits}
use Rattle.mz_tool.proofs.checking.checked_model.Goals as goal

pub returns-in-Ok-clause-checked : goal.returns-in-Ok-clause-checked
returns-in-Ok-clause-checked g c =
    let table = c.read_files.new.names in
    checked_so table (g.F.Files.texts c.args.files.now) (settings c.args.options.now) c.in-Ok.read c.checked_files.result c.in-Ok.ensures.sources c.in-Ok.ensures.read c.in-Ok.ensures.given c.in-Ok.ensures.distinct
    c.checked_files.ensures.kept c.checked_files.ensures.program

pub returns-in-Ok-clause-refused : goal.returns-in-Ok-clause-refused
returns-in-Ok-clause-refused g c =
    let table = c.read_files.new.names in
    let s = settings c.args.options.now in
    its_refusals table (g.F.Files.texts c.args.files.now) s c.in-Ok.read c.in-Ok.ensures.sources c.in-Ok.ensures.given c.checked_files.result
    (with_limits (limits_of s) table c.in-Ok.read c.checked_files.result c.checked_files.ensures.refused)

pub returns-in-Ok-clause-counted : goal.returns-in-Ok-clause-counted
returns-in-Ok-clause-counted g c =
    let table = c.read_files.new.names in
    let l = limits_of (settings c.args.options.now) in
    counts_after l table c.in-Ok.read _ _ c.checked_files.result c.in-Ok.ensures.counted c.checked_files.ensures.no_read_fault (with_limits l table c.in-Ok.read c.checked_files.result c.checked_files.ensures.refused)

pub returns-in-Err-clause-refused : goal.returns-in-Err-clause-refused
returns-in-Err-clause-refused g c = unread Checked c.read_files.new.names (g.F.Files.texts c.args.files.now) (settings c.args.options.now) c.in-Err.end c.in-Err.ensures.refused

pub returns-in-Err-clause-owner : goal.returns-in-Err-clause-owner
returns-in-Err-clause-owner g c = refused_too SourcesWithData Checked (λ f n. n < length c.read_files.new.names) c.in-Err.end c.in-Err.ensures.owner

pub returns-in-Err-clause-counted : goal.returns-in-Err-clause-counted
returns-in-Err-clause-counted g c = counted_too SourcesWithData Checked _ _ c.in-Err.end c.in-Err.ensures.counted
