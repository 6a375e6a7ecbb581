use Rattle.std.proofs.Common.{subst}
use Rattle.mz_words.specs.Requests.{settings}
use Rattle.mz_include.specs.WithData.{IsSourcesWithData, AreKnownWithData, words_of}
use Rattle.mz_analysis.specs.Analysis.{files_read, items_read}
use Rattle.mz_tool.proofs.Refusals.{all_read}
use Rattle.mz_tool.proofs.reading.read_files.Goals as goal

pub returns-clause-read : goal.returns-clause-read
returns-clause-read g c =
    let names = c.gather_with_data.new.names in
    let texts = g.F.Files.texts c.args.files.now in
    let s = settings c.args.options.now in
    all_read names texts s.model s.data_files c.in-Ok.read
    (subst (λ ws. IsSourcesWithData names texts s.model (words_of ws) (files_read names c.in-Ok.read) (items_read c.in-Ok.read)) c.as_slice.ensures.value c.in-Ok.ensures.sources)
    (subst (λ ws. AreKnownWithData names (words_of ws) c.in-Ok.read) c.as_slice.ensures.value c.in-Ok.ensures.known)
