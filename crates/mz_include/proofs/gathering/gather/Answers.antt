use Rattle.std.proofs.Common.{◌++◌, ◌∷◌, [], ◌≡◌, ◌∙◌, refl, subst, length}
use Rattle.std.specs.Prelude.{Some, None, slice_get}
use Rattle.mz_base.specs.Names.{text_of, Grows}
use Rattle.mz_base.proofs.Tables.{grows_on}
use Rattle.mz_tree.specs.declared.source.SourceFile.{SourceFile}
use Rattle.mz_tree.specs.declared.source.Sources.{Sources}
use Rattle.mz_include.specs.Sources.{Fails, IsFirstFailure, IsLoaded}
use Rattle.mz_include.specs.Views.{file, mention, IsKnown, IsFileOf}
use Rattle.mz_include.proofs.KnownFiles.{each_included}
use Rattle.mz_include.proofs.Noting.{all_known_later}
use Rattle.mz_include.proofs.ReadFiles.{gathered_at_first, gathered_on, gathered_as, all_read, first_failure, at_turn, loaded_at, fails_at, holds_at, refused_then}
use Rattle.mz_include.proofs.gathering.gather.Goals as goal

pub loop-named-init : goal.loop-named-init
loop-named-init g c = record {
  so_far = rw c.new-read.ensures.items (gathered_at_first c.begin.new.names (g.F.Files.texts c.args.files.now) c.args.first.now c.in_ok-queue.queue c.in_ok-queue.ensures.named c.in_ok-queue.ensures.known);
  grows = c.in_ok-queue.ensures.grows;
  texts = refl;
  counts = refl;
}

pub read_file-requires : goal.read_file-requires
read_file-requires g c = holds_at (IsKnown c.loop-named.names) c.loop-named.queue c.len.result c.in-Some.named c.loop-named.invariant.so_far.known c.in-Some.ensures

pub returns-in-Err-clause-refused : goal.returns-in-Err-clause-refused
returns-in-Err-clause-refused g c =
    let texts = g.F.Files.texts c.args.files.now in
    let old = c.loop-named.names in
    let new = c.read_file.new.names in
    let files = c.loop-named.read.items in
    let m = mention old c.in-Some.named in
    let turn : c.len-in-Some.result ≡ length files = c.len-in-Some.ensures ∙ c.loop-named.read.ok.0 in
    let at : Some c.in-Some.named ≡ slice_get c.loop-named.queue (length files) = at_turn c.loop-named.queue files (Some c.in-Some.named) c.len.result (c.len.ensures ∙ c.loop-named.read.ok.0) c.in-Some.ensures in
    refused_then SourceFile Sources (λ f n. Fails new (g.F.Files.texts c.loop-named.files) c.len-in-Some.result m f (text_of new n)) (λ f n. IsFirstFailure new texts c.args.first.now f (text_of new n)) c.in-Err.end
    (λ f n fails. first_failure old texts c.args.first.now c.loop-named.queue files c.loop-named.invariant.so_far c.in-Some.named at new c.in-Err.ensures.grows f (text_of new n)
    (fails_at new texts (g.F.Files.texts c.loop-named.files) m f (text_of new n) c.len-in-Some.result (length files) turn c.loop-named.invariant.texts fails))
    c.in-Err.ensures.refused

pub returns-in-Err-clause-grows : goal.returns-in-Err-clause-grows
returns-in-Err-clause-grows g c = grows_on c.args.names.now c.loop-named.names c.read_file.new.names c.loop-named.invariant.grows c.in-Err.ensures.grows

pub note_included-requires-clause-owner : goal.note_included-requires-clause-owner
note_included-requires-clause-owner g c =
    let known : IsKnown c.loop-named.names c.in-Some.named = holds_at (IsKnown c.loop-named.names) c.loop-named.queue c.len.result c.in-Some.named c.loop-named.invariant.so_far.known c.in-Some.ensures in
    rw c.in-Ok.ensures.name (c.in-Ok.ensures.grows c.in-Some.named.name known.name).0

pub note_included-requires-clause-items : goal.note_included-requires-clause-items
note_included-requires-clause-items g c = rw c.as_slice.ensures.value (each_included c.read_file.new.names c.len-in-Some.result c.in-Ok.file.items.items c.in-Ok.ensures.known.items)

pub note_included-requires-clause-known : goal.note_included-requires-clause-known
note_included-requires-clause-known g c = all_known_later c.loop-named.names c.read_file.new.names c.in-Ok.ensures.grows c.loop-named.queue c.loop-named.invariant.so_far.known

pub returns-in_err-note_included-clause-grows : goal.returns-in_err-note_included-clause-grows
returns-in_err-note_included-clause-grows g c =
    grows_on c.args.names.now c.loop-named.names c.note_included.new.names c.loop-named.invariant.grows (grows_on c.loop-named.names c.read_file.new.names c.note_included.new.names c.in-Ok.ensures.grows c.in_err-note_included.ensures.grows)

pub loop-named-preserved : goal.loop-named-preserved
loop-named-preserved g c =
    let texts = g.F.Files.texts c.args.files.now in
    let old = c.loop-named.names in
    let mid = c.read_file.new.names in
    let new = c.note_included.new.names in
    let files = c.loop-named.read.items in
    let f = c.in-Ok.file in
    let m = mention old c.in-Some.named in
    let turn : c.len-in-Some.result ≡ length files = c.len-in-Some.ensures ∙ c.loop-named.read.ok.0 in
    let at : Some c.in-Some.named ≡ slice_get c.loop-named.queue (length files) = at_turn c.loop-named.queue files (Some c.in-Some.named) c.len.result (c.len.ensures ∙ c.loop-named.read.ok.0) c.in-Some.ensures in
    let of : IsFileOf mid (length files) f = subst (λ k. IsFileOf mid k f) turn c.in-Ok.ensures.known in
    let loaded : IsLoaded mid texts (length files) m (file mid f) =
    loaded_at mid texts (g.F.Files.texts c.loop-named.files) m (file mid f) c.len-in-Some.result (length files) turn c.loop-named.invariant.texts c.in-Ok.ensures.read in
    let grown : Grows old new = grows_on old mid new c.in-Ok.ensures.grows c.in_ok-note_included.ensures.grows in
    record {
      so_far = gathered_as new texts c.args.first.now c.note_included.new.queue (files ++ f ∷ []) c.push.new.self.items c.in_ok-push.ensures.items
          (gathered_on old texts c.args.first.now c.loop-named.queue files c.loop-named.invariant.so_far c.in-Some.named at mid new c.in-Ok.ensures.grows c.in_ok-note_included.ensures.grows grown f of loaded
          c.note_included.new.queue (rw c.as_slice.ensures.value at c.in_ok-note_included.ensures.noted) c.in_ok-note_included.ensures.known);
      grows = grows_on c.args.names.now old new c.loop-named.invariant.grows grown;
      texts = c.in-Ok.ensures.texts ∙ c.loop-named.invariant.texts;
      counts = c.in-Ok.ensures.counted ∙ c.loop-named.invariant.counts;
    }

pub returns-in_err-push-clause-grows : goal.returns-in_err-push-clause-grows
returns-in_err-push-clause-grows g c =
    grows_on c.args.names.now c.loop-named.names c.note_included.new.names c.loop-named.invariant.grows (grows_on c.loop-named.names c.read_file.new.names c.note_included.new.names c.in-Ok.ensures.grows c.in_ok-note_included.ensures.grows)

pub returns-clause-sources : goal.returns-clause-sources
returns-clause-sources g c =
    all_read c.loop-named.names (g.F.Files.texts c.args.files.now) c.args.first.now c.loop-named.queue c.loop-named.read.items c.loop-named.invariant.so_far
    (at_turn c.loop-named.queue c.loop-named.read.items None c.len.result (c.len.ensures ∙ c.loop-named.read.ok.0) c.in_default.ensures)
