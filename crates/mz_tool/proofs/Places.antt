-- The places of faults: what fails is in its own file, and what evaluating a program stops at is in the program's files.
use Rattle.std.proofs.Common.{◌≡◌, ℕ, ◌<◌, ◌+◌, List, None, length, subst, arith}
use Rattle.std.specs.List.{Contains}
use Rattle.std.proofs.lemmas.List.{length-map}
use Rattle.std.proofs.lemmas.List.Elements.{All-contains}
use Rattle.mz_base.specs.declared.fault.Fault.{Fault}
use Rattle.mz_base.specs.declared.fault.Span.{Span}
use Rattle.mz_base.specs.Names.{text_of}
use Rattle.mz_include.specs.declared.with_data.gathering.SourcesWithData.{SourcesWithData}
use Rattle.mz_include.specs.WithData.{FailsWithData, in_the_model, in_the_data}
use Rattle.mz_include.proofs.Numbers.{failure_there as data_failure_there}
use Rattle.mz_include.specs.Views.{file}
use Rattle.mz_include.proofs.Owners.{failure_there}
use Rattle.mz_io.specs.Files.{Texts}
use Rattle.mz_words.specs.Requests.{Settings}
use Rattle.mz_value.specs.Contents.{absent}
use Rattle.mz_core.specs.Program.{PlainProgram}
use Rattle.fz_program.specs.Names.{Name}
use Rattle.mz_meaning.specs.Runs.{Answer, Out, Stopped, start}
use Rattle.mz_meaning.specs.Cells.{Given}
use Rattle.mz_meaning.specs.Contexts.{Positive}
use Rattle.mz_meaning.specs.Walk.{Limits, Assignment, walk}
use Rattle.mz_meaning_laws.specs.Places.{places_of}
use Rattle.mz_meaning_laws.specs.Stopping.{StopsAmong}
use Rattle.mz_meaning_laws.proofs.PlaceWalks.{walks_stop}
use Rattle.mz_model_meaning.specs.Refusals.{Stops}
use Rattle.mz_analysis.specs.Analysis.{IsTypedModel, IsRead, files_read, items_read, count_read}
use Rattle.mz_analysis.specs.PlacePromise.{LiesIn}
use Rattle.mz_analysis.proofs.PlacePrograms.{programs_lie_in_their_files}
use Rattle.mz_tool.specs.Status.{IsInItsOwn}
use Rattle.mz_tool.specs.StepsChecking.{data_names}

pub in_its_own : (table : List Name) (texts : Texts) (s : Settings) (f : Fault) (owner : Name) (fails : FailsWithData table texts s.model s.data_files f owner) → IsInItsOwn table texts s f owner fails
in_its_own table texts s f owner (in_the_model h) = failure_there table texts s.model f owner h
in_its_own table texts s f owner (in_the_data files sources h) = data_failure_there table texts (length files) s.data_files f owner h

stopped_among : {A : Type 0} (ps : List Span) (x : Answer A) (f : Fault) → x ≡ Stopped f → StopsAmong ps x → Contains ps f.span
stopped_among ps (Out v s) f is h = absurd (cc)
stopped_among ps (Stopped g) f is h = let same : g ≡ f = cc in subst (λ (k : Fault). Contains ps k.span) same h

-- no decision variable has a value
abbrev pub no_values : Assignment
no_values s = None

pub evaluation_placed : (l : Limits) (p : PlainProgram) (n : ℕ) (f : Fault) → LiesIn n p → Stops l p f → f.span.file < n
evaluation_placed l p n f lies stops =
    All-contains (λ at. at.file < n) (places_of p) f.span lies
    (stopped_among (places_of p) (walk Positive l (Given (λ k. absent)) no_values p start) f (stops.stops no_values (λ k. absent)) (walks_stop Positive l (Given (λ k. absent)) no_values p start))

-- a typed program lies in the files that were read
pub program_lies : (table : List Name) (read : SourcesWithData) (p : PlainProgram) → IsRead table read → IsTypedModel table (files_read table read) (items_read read) p → LiesIn (length (files_read table read) + length (data_names table read)) p
program_lies table read p known typed =
    let files = length-map read.sources.files.items (file table) in
    let data_files = length-map read.data_files.items (text_of table) in
    let same : count_read read ≡ length (files_read table read) + length (data_names table read) = omega (arith, files, data_files) in
    subst (λ n. LiesIn n p) same (programs_lie_in_their_files table read p known typed)
