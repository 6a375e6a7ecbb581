use Rattle.std.proofs.Common.{◌≡◌, ◌+◌, ◌∙◌, Bor, List, ℕ, [], length, map, take, refl, ap, arith}
use Rattle.std.proofs.lemmas.List.{take_all, map-append}
use Rattle.mz_base.specs.Names.{text_of, Grows}
use Rattle.mz_base.proofs.Tables.{grows_on, grows_same}
use Rattle.mz_tree.specs.declared.data.Data.{Data}
use Rattle.mz_tree.specs.Data.{given}
use Rattle.mz_include.specs.declared.with_data.data_files.DataFiles.{DataFiles}
use Rattle.mz_include.specs.DataFiles.{FailsAsData, FailsFirst}
use Rattle.mz_include.specs.WithData.{words_of}
use Rattle.mz_include.proofs.Reading.{SoFar, none_read, so_far_later, so_far_as, word_read, word_fails, refused_both}
use Rattle.mz_include.proofs.with_data.data_files.read_data_files.Goals as goal

-- what a read past the end would give
abbrev blank : Bor (List ℕ)
blank = record { ref_ptr = (0, 0); now = [] }

pub loop-word-init : goal.loop-word-init
loop-word-init g c = record {
  so_far = rw (c.new.ensures.items, c.new-2.ensures.items) (none_read c.args.names.now (g.F.Files.texts c.args.files.now) (length c.args.sources.now.files.items));
  grows = grows_same c.args.names.now c.args.names.now refl;
  texts = refl;
  counts = refl;
}

pub returns-in-Err-clause-refused : goal.returns-in-Err-clause-refused
returns-in-Err-clause-refused g c =
    let texts = g.F.Files.texts c.args.files.now in
    let start = length c.args.sources.now.files.items in
    let words = c.args.data_files.now in
    let i = c.loop-word.word-index in
    let old = c.loop-word.names in
    let mid = c.intern.new.self in
    let new = c.read_data_file.new.names in
    let name = c.in_ok-name.name in
    let files = c.loop-word.read.names.items in
    let items = map given c.loop-word.read.items.items in
    let grown : Grows old new = grows_on old mid new c.in_ok-name.ensures.grows c.in-Err.ensures.grows in
    let turn : c.len.result + c.len-in-loop-word.result ≡ start + length files = omega (arith, c.len.ensures, c.len-in-loop-word.ensures, c.args.sources.now.files.ok.0, c.loop-word.read.names.ok.0) in
    let so_far : SoFar new texts start (words_of (take i words)) files items = so_far_later old new grown texts start (words_of (take i words)) files items c.loop-word.invariant.so_far in
    refused_both Data DataFiles (λ f n. FailsAsData new (g.F.Files.texts c.loop-word.files) (c.len.result + c.len-in-loop-word.result) (text_of mid name) f) (λ f n. n ≡ name) (λ f n. FailsFirst new texts start (words_of words) f (text_of new n)) c.in-Err.end
    (word_fails mid new c.in-Err.ensures.grows texts (g.F.Files.texts c.loop-word.files) c.loop-word.invariant.texts start words i blank c.loop-word-test.true files items so_far (c.len.result + c.len-in-loop-word.result) name turn c.in_ok-name.ensures.within c.in_ok-name.ensures.named)
    c.in-Err.ensures.refused c.in-Err.ensures.owner

pub returns-in-Err-clause-grows : goal.returns-in-Err-clause-grows
returns-in-Err-clause-grows g c = grows_on c.args.names.now c.loop-word.names c.read_data_file.new.names c.loop-word.invariant.grows (grows_on c.loop-word.names c.intern.new.self c.read_data_file.new.names c.in_ok-name.ensures.grows c.in-Err.ensures.grows)

pub returns-in_err-push-clause-grows : goal.returns-in_err-push-clause-grows
returns-in_err-push-clause-grows g c = grows_on c.args.names.now c.loop-word.names c.read_data_file.new.names c.loop-word.invariant.grows (grows_on c.loop-word.names c.intern.new.self c.read_data_file.new.names c.in_ok-name.ensures.grows c.in-Ok.ensures.grows)

pub loop-word-preserved : goal.loop-word-preserved
loop-word-preserved g c =
    let texts = g.F.Files.texts c.args.files.now in
    let start = length c.args.sources.now.files.items in
    let words = c.args.data_files.now in
    let i = c.loop-word.word-index in
    let old = c.loop-word.names in
    let mid = c.intern.new.self in
    let new = c.read_data_file.new.names in
    let name = c.in_ok-name.name in
    let files = c.loop-word.read.names.items in
    let items = map given c.loop-word.read.items.items in
    let more = map given c.in-Ok.data.items.items in
    let grown : Grows old new = grows_on old mid new c.in_ok-name.ensures.grows c.in-Ok.ensures.grows in
    let turn : c.len.result + c.len-in-loop-word.result ≡ start + length files = omega (arith, c.len.ensures, c.len-in-loop-word.ensures, c.args.sources.now.files.ok.0, c.loop-word.read.names.ok.0) in
    let so_far : SoFar new texts start (words_of (take i words)) files items = so_far_later old new grown texts start (words_of (take i words)) files items c.loop-word.invariant.so_far in
    record {
      so_far = so_far_as new texts start _ _ c.push.new.read.names.items _ (map given c.push.new.read.items.items) c.in_ok-push.ensures.names (ap (map given) c.in_ok-push.ensures.items ∙ map-append given c.loop-word.read.items.items c.in-Ok.data.items.items)
          (word_read mid new c.in-Ok.ensures.grows texts (g.F.Files.texts c.loop-word.files) c.loop-word.invariant.texts start words i blank c.loop-word-test.true files items so_far (c.len.result + c.len-in-loop-word.result) name turn c.in_ok-name.ensures.within c.in_ok-name.ensures.named
          more c.in-Ok.ensures.read c.in-Ok.ensures.within c.in-Ok.ensures.placed);
      grows = grows_on c.args.names.now old new c.loop-word.invariant.grows grown;
      texts = c.in-Ok.ensures.texts ∙ c.loop-word.invariant.texts;
      counts = c.in-Ok.ensures.counted ∙ c.loop-word.invariant.counts;
    }

pub returns-clause-read : goal.returns-clause-read
returns-clause-read g c = rw (take_all c.loop-word.word-index c.args.data_files.now c.loop-word-test.false) at c.loop-word.invariant.so_far.read

pub returns-clause-data_files : goal.returns-clause-data_files
returns-clause-data_files g c = rw (take_all c.loop-word.word-index c.args.data_files.now c.loop-word-test.false) at c.loop-word.invariant.so_far.words_are

pub returns-in_err-name-clause-grows : goal.returns-in_err-name-clause-grows
returns-in_err-name-clause-grows g c = grows_on c.args.names.now c.loop-word.names c.intern.new.self c.loop-word.invariant.grows c.in_err-name.ensures.grows
