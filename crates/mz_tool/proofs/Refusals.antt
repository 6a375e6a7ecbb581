-- Why the files of a model are refused, and what that counts.
use Rattle.std.proofs.Common.{◌≡◌, ◌∙◌, ℕ, ◌+◌, ◌<◌, true, List, [], ◌∷◌, length, map, refl, sym, ap, subst, arith}
use Rattle.std.specs.Prelude.{IfOk, Result, Ok, Err}
use Rattle.std.proofs.lemmas.List.{length-map}
use Rattle.mz_base.specs.declared.fault.Fault.{Fault}
use Rattle.mz_base.specs.declared.kind.Kind.{Kind}
use Rattle.mz_base.specs.declared.kind.Kind.TheVariants as kind
use Rattle.mz_base.specs.declared.stop.Stop.{Stop}
use Rattle.mz_base.specs.declared.stop.Stop.TheVariants as stop
use Rattle.mz_base.specs.Faults as stops
use Rattle.mz_base.specs.Names.{AreDistinct, text_of}
use Rattle.mz_io.specs.Files.{Texts, FileCounts}
use Rattle.mz_tree.specs.Data.{Given}
use Rattle.mz_tree.specs.declared.source.SourceFile.{SourceFile}
use Rattle.mz_include.specs.Naming.{File, named, first_mentions, with_mention}
use Rattle.mz_include.specs.Sources.{IsSources}
use Rattle.mz_include.specs.Views.{file}
use Rattle.mz_include.specs.declared.end.GatherEnd.{GatherEnd}
use Rattle.mz_include.specs.declared.end.GatherEnd.TheVariants as gathered
use Rattle.mz_include.specs.Ends as gather
use Rattle.mz_include.specs.Ends.{CountsRefusal}
use Rattle.mz_include.specs.declared.with_data.gathering.SourcesWithData.{SourcesWithData}
use Rattle.mz_include.specs.WithData.{IsSourcesWithData, FailsWithData, AreKnownWithData}
use Rattle.mz_words.specs.Requests.{Settings}
use Rattle.fz_program.specs.Names.{Name}
use Rattle.mz_core.specs.Program.{PlainProgram}
use Rattle.mz_meaning.specs.Walk.{Limits}
use Rattle.mz_model_meaning.specs.Refusals.{is_walk_kind}
use Rattle.mz_model_meaning.specs.Refusals as walks
use Rattle.mz_analysis.specs.Analysis.{FailsTest, IsOfTests, IsRead, IsTypedModel, file_name, files_read, items_read}
use Rattle.mz_analysis.specs.PlacePromise.{LiesIn}
use Rattle.mz_tool.specs.declared.checking.Checked.{Checked}
use Rattle.mz_tool.specs.Headline.{limits_of}
use Rattle.mz_tool.specs.Status.{owner_of, IsRefusal, a_file_fails, a_test_fails, not_compiled}
use Rattle.mz_tool.specs.StepsChecking.{HasProgram, IsChecked, IsEarlyRefusal, IsNamedFailure, IsNamedRefusal, IsRefusedAs, Stops, as_stopped, by_a_test, data_names, name_in}
use Rattle.mz_tool.proofs.Places.{in_its_own, evaluation_placed}

-- ---- counts: a kind of the tests raises no count of the files

raises_none : (k : Kind) (counts : FileCounts) → IsOfTests k → CountsRefusal k counts counts
raises_none kind.ReservedName counts h = refl
raises_none kind.DuplicateName counts h = refl
raises_none kind.SolveItems counts h = refl
raises_none kind.UnknownName counts h = refl
raises_none kind.DataForm counts h = refl
raises_none kind.MissingData counts h = refl
raises_none kind.Cyclic counts h = refl
raises_none kind.TypeMismatch counts h = refl
raises_none kind.NoOverload counts h = refl
raises_none kind.Ambiguous counts h = refl
raises_none kind.LeftOut counts h = refl
raises_none kind.Syntax counts h = refl
raises_none _ counts h = absurd h

-- nor does a kind of evaluation
walk_raises_none : (k : Kind) (counts : FileCounts) → is_walk_kind k ≡ true → CountsRefusal k counts counts
walk_raises_none kind.MissingFile counts h = absurd (cc)
walk_raises_none kind.TooLong counts h = absurd (cc)
walk_raises_none _ counts h = refl

refusal_counts : (l : Limits) (table : List Name) (files : List File) (data_files : List Name) (items : List Given) (counts : FileCounts) (f : Fault) → IsRefusedAs l table files data_files items f → CountsRefusal f.kind counts counts
refusal_counts l table files data_files items counts f (by_a_test fails) = raises_none f.kind counts fails.kind
refusal_counts l table files data_files items counts f (as_stopped p typed is placed) = walk_raises_none f.kind counts is.kind

-- what follows the files leaves their counts
module _ {X : Type 0} (l : Limits) (table : List Name) (read : SourcesWithData) where
  counts_kept : (counts : FileCounts) (r : Result X GatherEnd) → gather.OnReadFault r ⊥ → gather.IfRefused r (IsNamedRefusal l table read) → gather.CountsFiles counts counts r
  counts_kept counts (Ok x) none refused = refl
  counts_kept counts (Err (gathered.Refused f n)) none refused = refusal_counts l table (files_read table read) (data_names table read) (items_read read) counts f refused.refused
  counts_kept counts (Err gathered.ReadFault) none refused = absurd none
  counts_kept counts (Err gathered.Memory) none refused = refl

  pub counts_after : (old new : FileCounts) (r : Result X GatherEnd) → new ≡ old → gather.OnReadFault r ⊥ → gather.IfRefused r (IsNamedRefusal l table read) → gather.CountsFiles old new r
  counts_after old new r same none refused = subst (λ n. gather.CountsFiles old n r) (sym same) (counts_kept old r none refused)

-- ---- what stopping gives

module _ (l : Limits) (table : List Name) (read : SourcesWithData) where
  abbrev IsRefusedHere : Fault → Type 0
  IsRefusedHere f = IsRefusedAs l table (files_read table read) (data_names table read) (items_read read) f

  named_refusal : (f g : Fault) (n : ℕ) → g ≡ f → text_of table n ≡ name_in table read f → IsRefusedHere f → IsNamedRefusal l table read g n
  named_refusal f g n same named refused = record { refused = subst IsRefusedHere (sym same) refused; named = named ∙ ap (name_in table read) (sym same) }

  pub stopped : (X : Type 0) (s : Stop) (e : GatherEnd) → stops.IfRefused s IsRefusedHere → Stops table read s e → gather.IfRefused {X = X} (Err e) (IsNamedRefusal l table read)
  stopped X (stop.Refused f) (gathered.Refused g n) refused made = named_refusal f g n made.0 made.1 refused
  stopped X (stop.Refused f) gathered.ReadFault refused made = absurd made
  stopped X (stop.Refused f) gathered.Memory refused made = absurd made
  stopped X stop.Memory gathered.Memory refused made = tt
  stopped X stop.Memory (gathered.Refused g n) refused made = absurd made
  stopped X stop.Memory gathered.ReadFault refused made = absurd made

-- no file is read then
pub reads_nothing : (X : Type 0) (table : List Name) (read : SourcesWithData) (s : Stop) (e : GatherEnd) → Stops table read s e → gather.OnReadFault {X = X} (Err e) ⊥
reads_nothing X table read (stop.Refused f) (gathered.Refused g n) made = tt
reads_nothing X table read (stop.Refused f) gathered.ReadFault made = made
reads_nothing X table read (stop.Refused f) gathered.Memory made = absurd made
reads_nothing X table read stop.Memory gathered.Memory made = tt
reads_nothing X table read stop.Memory (gathered.Refused g n) made = absurd made
reads_nothing X table read stop.Memory gathered.ReadFault made = made

pub failure_named : (X : Type 0) (table : List Name) (e : GatherEnd) → IsNamedFailure table e → gather.IfRefused {X = X} (Err e) (λ f n. n < length table)
failure_named X table (gathered.Refused f n) named = named
failure_named X table gathered.ReadFault named = tt
failure_named X table gathered.Memory named = tt

-- the same of another answer that ends so
pub refused_too : (X Y : Type 0) (P : Fault → ℕ → Type 0) (e : GatherEnd) → gather.IfRefused {X = X} (Err e) P → gather.IfRefused {X = Y} (Err e) P
refused_too X Y P (gathered.Refused f n) refused = refused
refused_too X Y P gathered.ReadFault refused = tt
refused_too X Y P gathered.Memory refused = tt

pub counted_too : (X Y : Type 0) (old new : FileCounts) (e : GatherEnd) → gather.CountsFiles {X = X} old new (Err e) → gather.CountsFiles {X = Y} old new (Err e)
counted_too X Y old new (gathered.Refused f n) counted = counted
counted_too X Y old new gathered.ReadFault counted = counted
counted_too X Y old new gathered.Memory counted = counted

-- by a test; by evaluation
fails_among : (table : List Name) (files : List File) (names : List ℕ) (items : List Given) (s : Stop) → stops.IfRefused s (FailsTest table files (length names) items) → stops.IfRefused s (FailsTest table files (length (map (text_of table) names)) items)
fails_among table files names items s refused = subst (λ k. stops.IfRefused s (FailsTest table files k items)) (sym (length-map names (text_of table))) refused

as_test : (l : Limits) (table : List Name) (read : SourcesWithData) (s : Stop) → stops.IfRefused s (FailsTest table (files_read table read) (length (data_names table read)) (items_read read)) → stops.IfRefused s (IsRefusedHere l table read)
as_test l table read (stop.Refused f) fails = by_a_test fails
as_test l table read stop.Memory fails = tt

pub test_stopped : (X : Type 0) (table : List Name) (read : SourcesWithData) (s : Stop) (e : GatherEnd) → stops.IfRefused s (FailsTest table (files_read table read) (length read.data_files.items) (items_read read)) → Stops table read s e → gather.IfRefused {X = X} (Err e) (IsEarlyRefusal table read)
test_stopped X table read s e fails made = early e (λ l. stopped l table read X s e (as_test l table read s (fails_among table (files_read table read) read.data_files.items (items_read read) s fails)) made)
  where
    early : (e : GatherEnd) → ((l : Limits) → gather.IfRefused {X = X} (Err e) (IsNamedRefusal l table read)) → gather.IfRefused {X = X} (Err e) (IsEarlyRefusal table read)
    early (gathered.Refused f n) by = record { by = by }
    early gathered.ReadFault by = tt
    early gathered.Memory by = tt

as_evaluated : (l : Limits) (table : List Name) (read : SourcesWithData) (p : PlainProgram) (s : Stop) → IsTypedModel table (files_read table read) (items_read read) p → LiesIn (length (files_read table read) + length (data_names table read)) p → stops.IfRefused s (walks.Stops l p) → stops.IfRefused s (IsRefusedHere l table read)
as_evaluated l table read p (stop.Refused f) typed lies why = as_stopped p typed why (evaluation_placed l p (length (files_read table read) + length (data_names table read)) f lies why)
as_evaluated l table read p stop.Memory typed lies why = tt

pub evaluation_stopped : (X : Type 0) (l : Limits) (table : List Name) (read : SourcesWithData) (p : PlainProgram) (s : Stop) (e : GatherEnd) → IsTypedModel table (files_read table read) (items_read read) p → LiesIn (length (files_read table read) + length (data_names table read)) p → stops.IfRefused s (walks.Stops l p)
    → Stops table read s e → gather.IfRefused {X = X} (Err e) (IsNamedRefusal l table read)
evaluation_stopped X l table read p s e typed lies why made = stopped l table read X s e (as_evaluated l table read p s typed lies why) made

-- an early refusal is one with these limits
pub with_limits : {X : Type 0} (l : Limits) (table : List Name) (read : SourcesWithData) (r : Result X GatherEnd) → gather.IfRefused r (IsEarlyRefusal table read) → gather.IfRefused r (IsNamedRefusal l table read)
with_limits l table read (Ok x) early = tt
with_limits l table read (Err (gathered.Refused f n)) early = early.by l
with_limits l table read (Err gathered.ReadFault) early = tt
with_limits l table read (Err gathered.Memory) early = tt

-- ---- the files are those of the settings

module _ (table : List Name) (texts : Texts) (s : Settings) (read : SourcesWithData) (sources : IsSourcesWithData table texts s.model s.data_files (files_read table read) (items_read read)) (given : data_names table read ≡ s.data_files) where
  abbrev TheFiles : List File
  TheFiles = files_read table read

  its_owner : (f : Fault) (n : ℕ) → text_of table n ≡ name_in table read f → owner_of s TheFiles f.span.file ≡ text_of table n
  its_owner f n named = sym (named ∙ ap (λ ds. file_name TheFiles ds f.span.file) given)

  as_refusal : (f : Fault) → IsRefusedAs (limits_of s) table TheFiles (data_names table read) (items_read read) f → IsRefusal table texts s f (owner_of s TheFiles f.span.file)
  as_refusal f (by_a_test fails) = a_test_fails TheFiles (items_read read) sources (subst (λ ds. FailsTest table TheFiles (length ds) (items_read read) f) given fails)
  as_refusal f (as_stopped p typed is placed) = not_compiled TheFiles (items_read read) p sources typed is (subst (λ ds. f.span.file < length TheFiles + length ds) given placed)

  pub its_refusal : (f : Fault) (n : ℕ) → IsNamedRefusal (limits_of s) table read f n → IsRefusal table texts s f (text_of table n)
  its_refusal f n is = subst (IsRefusal table texts s f) (its_owner f n is.named) (as_refusal f is.refused)

  pub its_refusals : {X : Type 0} (r : Result X GatherEnd) → gather.IfRefused r (IsNamedRefusal (limits_of s) table read) → gather.IfRefused r (λ f n. IsRefusal table texts s f (text_of table n))
  its_refusals (Ok x) is = tt
  its_refusals (Err (gathered.Refused f n)) is = its_refusal f n is
  its_refusals (Err gathered.ReadFault) is = tt
  its_refusals (Err gathered.Memory) is = tt

-- where the files weren't all read
pub unread : (X : Type 0) (table : List Name) (texts : Texts) (s : Settings) (e : GatherEnd) → gather.IfRefused {X = SourcesWithData} (Err e) (λ f n. FailsWithData table texts s.model s.data_files f (text_of table n)) → gather.IfRefused {X = X} (Err e) (λ f n. IsRefusal table texts s f (text_of table n))
unread X table texts s (gathered.Refused f n) fails = a_file_fails fails (in_its_own table texts s f (text_of table n) fails)
unread X table texts s gathered.ReadFault fails = tt
unread X table texts s gathered.Memory fails = tt

-- ---- what is known of the files that were read

-- a model has a file
some_files : (table : List Name) (texts : Texts) (name : Name) (files : List File) → IsSources table texts name files → 0 < length files
unfolding named first_mentions with_mention
some_files table texts name [] sources = let nothing = sources.all in cc
some_files table texts name (f ∷ fs) sources = omega arith

some_sources : (table : List Name) (texts : Texts) (name : Name) (files : List SourceFile) → IsSources table texts name (map (file table) files) → 0 < length files
some_sources table texts name files sources = let some = some_files table texts name (map (file table) files) sources in omega (arith, some, length-map files (file table))

pub all_read : (table : List Name) (texts : Texts) (name : Name) (data_files : List Name) (read : SourcesWithData) → IsSourcesWithData table texts name data_files (files_read table read) (items_read read) → AreKnownWithData table data_files read → IsRead table read
all_read table texts name data_files read sources known = record {
  some = some_sources table texts name read.sources.files.items sources.model;
  files = known.files;
  items = known.items;
  named = known.named;
}

-- the program of these files

is_checked : (table : List Name) (texts : Texts) (s : Settings) (read : SourcesWithData) (c : Checked) → c.read ≡ read → HasProgram table c → IsSourcesWithData table texts s.model s.data_files (files_read table read) (items_read read) → IsRead table read → data_names table read ≡ s.data_files → AreDistinct table → IsChecked table texts s c
is_checked table texts s read c same program sources known given distinct = record {
  sources = subst (λ r. IsSourcesWithData table texts s.model s.data_files (files_read table r) (items_read r)) (sym same) sources;
  read = subst (IsRead table) (sym same) known;
  given = subst (λ r. data_names table r ≡ s.data_files) (sym same) given;
  distinct = distinct;
  program = program;
}

pub checked_so : (table : List Name) (texts : Texts) (s : Settings) (read : SourcesWithData) (r : Result Checked GatherEnd) → IsSourcesWithData table texts s.model s.data_files (files_read table read) (items_read read) → IsRead table read → data_names table read ≡ s.data_files → AreDistinct table
    → IfOk r (λ c. c.read ≡ read) → IfOk r (HasProgram table) → IfOk r (IsChecked table texts s)
checked_so table texts s read (Ok c) sources known given distinct same program = is_checked table texts s read c same program sources known given distinct
checked_so table texts s read (Err e) sources known given distinct same program = tt
