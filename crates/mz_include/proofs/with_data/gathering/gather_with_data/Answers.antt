use Rattle.std.proofs.Common.{length, map}
use Rattle.mz_base.specs.Names.{text_of}
use Rattle.mz_base.proofs.Tables.{grows_on}
use Rattle.mz_tree.specs.declared.source.Sources.{Sources}
use Rattle.mz_tree.specs.Data.{given}
use Rattle.mz_include.specs.Sources.{IsFirstFailure}
use Rattle.mz_include.proofs.KnownFiles.{files_known_later}
use Rattle.mz_include.proofs.ReadFiles.{refused_then}
use Rattle.mz_include.specs.declared.with_data.data_files.DataFiles.{DataFiles}
use Rattle.mz_include.specs.declared.with_data.gathering.SourcesWithData.{SourcesWithData}
use Rattle.mz_include.specs.DataFiles.{FailsFirst}
use Rattle.mz_include.specs.WithData.{FailsWithData, in_the_model, words_of}
use Rattle.mz_include.proofs.Whole.{with_data, data_fails}
use Rattle.mz_include.proofs.with_data.gathering.gather_with_data.Goals as goal

pub returns-in-Err-clause-refused : goal.returns-in-Err-clause-refused
returns-in-Err-clause-refused g c =
    let texts = g.F.Files.texts c.args.files.now in
    refused_then Sources SourcesWithData (λ f n. IsFirstFailure c.gather.new.names texts c.args.model.now f (text_of c.gather.new.names n))
    (λ f n. FailsWithData c.gather.new.names texts c.args.model.now (words_of c.args.data_files.now) f (text_of c.gather.new.names n)) c.in-Err.end (λ f n h. in_the_model h) c.in-Err.ensures.refused

pub returns-in-Err-read_data_files-clause-refused : goal.returns-in-Err-read_data_files-clause-refused
returns-in-Err-read_data_files-clause-refused g c =
    let texts = g.F.Files.texts c.args.files.now in
    let now = g.F.Files.texts c.gather.new.files in
    let mid = c.gather.new.names in
    let new = c.read_data_files.new.names in
    let words = words_of c.args.data_files.now in
    let fs = c.in-Ok.sources.files.items in
    refused_then DataFiles SourcesWithData (λ f n. FailsFirst new now (length fs) words f (text_of new n)) (λ f n. FailsWithData new texts c.args.model.now words f (text_of new n)) c.in-Err-read_data_files.end
    (λ f n h. data_fails mid new c.in-Err-read_data_files.ensures.grows texts now c.in-Ok.ensures.texts c.args.model.now words fs c.in-Ok.ensures.sources f (text_of new n) h) c.in-Err-read_data_files.ensures.refused

pub returns-in-Err-read_data_files-clause-grows : goal.returns-in-Err-read_data_files-clause-grows
returns-in-Err-read_data_files-clause-grows g c = grows_on c.args.names.now c.gather.new.names c.read_data_files.new.names c.in-Ok.ensures.grows c.in-Err-read_data_files.ensures.grows

pub returns-clause-sources : goal.returns-clause-sources
returns-clause-sources g c =
    with_data c.gather.new.names c.read_data_files.new.names c.in-Ok-read_data_files.ensures.grows (g.F.Files.texts c.args.files.now) (g.F.Files.texts c.gather.new.files) c.in-Ok.ensures.texts c.args.model.now (words_of c.args.data_files.now) c.in-Ok.sources.files.items c.in-Ok.ensures.sources
    (map given c.in-Ok-read_data_files.read.items.items) c.in-Ok.ensures.known c.in-Ok-read_data_files.ensures.read

pub returns-clause-known : goal.returns-clause-known
returns-clause-known g c = record {
  files = files_known_later c.gather.new.names c.read_data_files.new.names c.in-Ok-read_data_files.ensures.grows c.in-Ok.sources.files.items c.in-Ok.ensures.known;
  items = c.in-Ok-read_data_files.ensures.items;
  named = c.in-Ok-read_data_files.ensures.named;
  data_files = c.in-Ok-read_data_files.ensures.data_files;
}

pub returns-clause-grows : goal.returns-clause-grows
returns-clause-grows g c = grows_on c.args.names.now c.gather.new.names c.read_data_files.new.names c.in-Ok.ensures.grows c.in-Ok-read_data_files.ensures.grows
