-- What a run answers, and the line that it writes of it.
use Rattle.std.specs.Prelude.{◌≡◌, ◌<◌, ◌≤◌, ◌+◌, ◌⊎◌, ℕ, ℤ, List, [], ◌++◌, length, Option, Some, None, codes, decimal, nat_eq, if◌then◌else◌}
use Rattle.std.specs.Fmt.{signed_decimal}
use Rattle.std.specs.Borrow.{Bor}
use Rattle.mz_base.specs.declared.fault.Fault.{Fault}
use Rattle.mz_base.specs.declared.kind.Kind.{Kind}
use Rattle.mz_base.specs.Kind.{name_of, shows_number}
use Rattle.mz_base.specs.Names.{AreDistinct, Grows}
use Rattle.mz_io.specs.Counts.{Rose}
use Rattle.mz_io.specs.Files.{Texts, FileCounts}
use Rattle.mz_io.specs.Sink.{Held, SinkCounts, Adds}
use Rattle.mz_io.specs.Source.{Left}
use Rattle.mz_tree.specs.Data as datum
use Rattle.mz_include.specs.Naming.{File}
use Rattle.mz_include.specs.Sources.{IsInItsFile}
use Rattle.mz_include.specs.DataFiles.{HasDataNumber}
use Rattle.mz_include.specs.WithData.{IsSourcesWithData, FailsWithData, in_the_model, in_the_data}
use Rattle.mz_words.specs.Requests.{Settings, Asked, compile, check, print, make}
use Rattle.mz_include.specs.Ends.{CountsRefusal}
use Rattle.fz_program.specs.Names.{Name}
use Rattle.mz_value.specs.Contents.{Content}
use Rattle.mz_core.specs.Program.{PlainProgram}
use Rattle.mz_meaning.specs.Runs.{Answer, Out, Stopped, start}
use Rattle.mz_meaning.specs.Cells.{Given}
use Rattle.mz_meaning.specs.Contexts.{Positive}
use Rattle.mz_meaning.specs.Walk.{Limits, Assignment, walk}
use Rattle.mz_model_meaning.specs.Refusals.{Stops}
use Rattle.fz_items.specs.Forms.{Form}
use Rattle.mz_print_stream.specs.Printing as printing
use Rattle.mz_print_model.specs.Printing.{HasTexts}
use Rattle.mz_analysis.specs.Analysis.{FailsTest, IsTypedModel, file_name}
use Rattle.mz_tool.specs.Words.{settings_in, texts_in}
use Rattle.mz_tool.specs.Headline.{limits_of}
use Rattle.mz_tool.specs.Printable.{IsPrintable}
use Rattle.mz_tool.specs.declared.print.TheConstants.{STREAM_LIMIT}
use Rattle.mz_tool.specs.declared.status.Status.{Status}
use Rattle.mz_tool.specs.declared.status.Status.TheVariants.{Done, Refused, Usage, ReadFault, WriteFault, Memory}

-- the number after a kind, where the line shows one
abbrev pub number_text : Kind → ℤ → List ℕ
number_text kind n = if shows_number kind then codes " " ++ signed_decimal n else []

-- `FILE:LINE:COL: KIND`, for some kinds with a number
abbrev pub refusal_line : Name → Fault → List ℕ
refusal_line file f =
    file ++ codes ":" ++ decimal f.span.line ++ codes ":" ++ decimal f.span.col ++ codes ": " ++ name_of f.kind ++ number_text f.kind f.number ++ codes "\n"

-- the line that a run writes to its notes, none where all went well
abbrev pub line_of : Name → Status → List ℕ
line_of file Done = []
line_of file (Refused f) = refusal_line file f
line_of file Usage = codes "usage: mzc compile|check|print MODEL [DATA ...] [--budget N] [--int-range N] | mzc make N\n"
line_of file ReadFault = codes "mzc: read fault\n"
line_of file WriteFault = codes "mzc: write fault\n"
line_of file Memory = codes "mzc: out of memory\n"

-- a prefix of the line was added to the bytes held: all of it, or a put failed or ran out of memory
pub record Notes (old new : Held) (before after : SinkCounts) (line : List ℕ) : Type 0 where
  pub prefix : List ℕ
  pub back : List ℕ
  pub whole : line ≡ prefix ++ back
  pub adds : Adds old new prefix
  pub cut : (back ≡ []) ⊎ (Rose before.faults after.faults ⊎ Rose before.shortages after.shortages)

-- what a run leaves in its notes, where a refusal names this file
abbrev pub IsLineNoted : Held → Held → SinkCounts → SinkCounts → Name → Status → Type 0
IsLineNoted old new before after file Done = (new ≡ old) × (after ≡ before)
IsLineNoted old new before after file status = Notes old new before after (line_of file status)

-- the told texts are these files of the model of these settings, and these items of its data
abbrev pub AreAskedFiles : List Name → Texts → Settings → List File → List datum.Given → Type 0
AreAskedFiles table texts s files items = IsSourcesWithData table texts s.model s.data_files files items

-- the name of the file of this number, among these files and the data files that are asked for
abbrev pub owner_of : Settings → List File → ℕ → Name
owner_of s files k = file_name files s.data_files k

-- The number in the place of a failure is that of the file with the owner's name: among the model's files, in the order in which they are
-- first named, or among the data files, which are numbered after all of the model.
abbrev pub IsInItsOwn : (table : List Name) (texts : Texts) (s : Settings) (f : Fault) (file : Name) → FailsWithData table texts s.model s.data_files f file → Type 0
IsInItsOwn table texts s f file (in_the_model h) = IsInItsFile table texts s.model f file h
IsInItsOwn table texts s f file (in_the_data files sources h) = HasDataNumber (length files) s.data_files f.span.file file

-- a fault's place is in one of these files, or in one of the data files that are asked for, which are numbered after them
abbrev pub IsInTheFiles : Settings → List File → Fault → Type 0
IsInTheFiles s files f = f.span.file < length files + length s.data_files

-- Why the model of these settings is refused, and the name of the file of the fault's place: a file of the model or of its data fails; or
-- a test of names, of types or of data fails; or the model is typed, and each walk over it stops, whatever its variables' values are, and
-- nothing solves it.
pub data IsRefusal (table : List Name) (texts : Texts) (s : Settings) : Fault → Name → Type 0 where
  a_file_fails : {f : Fault} {file : Name} (fails : FailsWithData table texts s.model s.data_files f file) → IsInItsOwn table texts s f file fails → IsRefusal table texts s f file
  a_test_fails : {f : Fault} (files : List File) (items : List datum.Given) → AreAskedFiles table texts s files items → FailsTest table files (length s.data_files) items f → IsRefusal table texts s f (owner_of s files f.span.file)
  not_compiled : {f : Fault} (files : List File) (items : List datum.Given) (p : PlainProgram) → AreAskedFiles table texts s files items → IsTypedModel table files items p → Stops (limits_of s) p f → IsInTheFiles s files f
      → IsRefusal table texts s f (owner_of s files f.span.file)

-- the number of the stream among the files
abbrev pub stream_number : ℕ
stream_number = 18446744073709551615

-- the name of the stream, or of the file of this number
abbrev pub stream_owner : Settings → List File → ℕ → Name
stream_owner s files k = if nat_eq k stream_number then codes "-" else owner_of s files k

-- a place is in the stream, or in one of the files
abbrev pub IsInTheStream : Settings → List File → Fault → Type 0
IsInTheStream s files f = (f.span.file ≡ stream_number) ⊎ IsInTheFiles s files f

-- Why a stream isn't printed: the model is refused; or its solutions can be printed, and some stream isn't, by a fault of a line or of the
-- whole stream, or by that of a solution's text.
pub data IsPrintRefusal (table : List Name) (texts : Texts) (s : Settings) : Fault → Name → Type 0 where
  as_checked : {f : Fault} {file : Name} → IsRefusal table texts s f file → IsPrintRefusal table texts s f file
  of_the_stream : {f : Fault} (ts : printing.Texts) (fs : List Form) (is : IsPrintable table texts s ts fs) (stream out : List ℕ) → printing.Prints ts fs STREAM_LIMIT stream out (printing.refused f) → IsInTheStream s is.files f
      → IsPrintRefusal table texts s f (stream_owner s is.files f.span.file)

-- why what is asked for is refused
abbrev pub IsRefusedBy : List Name → Texts → Asked → Fault → Name → Type 0
IsRefusedBy table texts (compile s) f file = IsRefusal table texts s f file
IsRefusedBy table texts (check s) f file = IsRefusal table texts s f file
IsRefusedBy table texts (print s) f file = IsPrintRefusal table texts s f file
IsRefusedBy table texts (make n) f file = IsRefusal table (texts_in texts (make n)) (settings_in (make n)) f file

-- by some table of names, whose texts are distinct, this holds
pub record ByDistinctNames (P : List Name → Type 0) : Type 0 where
  pub table : List Name
  pub distinct : AreDistinct table
  pub holds : P table

-- the file that the line of a refusal names
abbrev pub IsOwnerOf : Texts → Option Asked → Fault → Name → Type 0
IsOwnerOf texts None f file = ⊥
IsOwnerOf texts (Some a) f file = ByDistinctNames (λ table. IsRefusedBy table texts a f file)

-- the file that an answer's line names
abbrev pub IsOwner : Texts → Option Asked → Status → Name → Type 0
IsOwner texts asked (Refused f) file = IsOwnerOf texts asked f file
IsOwner texts asked _ file = Unit {0}

-- what a run leaves in its notes
pub record IsNoted (texts : Texts) (asked : Option Asked) (status : Status) (old new : Held) (before after : SinkCounts) : Type 0 where
  pub file : Name
  pub owner : IsOwner texts asked status file
  pub line : IsLineNoted old new before after file status

-- where it answers so, this holds
abbrev pub OnDone : Status → Type 0 → Type 0
OnDone Done P = P
OnDone _ P = Unit {0}

abbrev pub IfRefused : Status → (Fault → Type 0) → Type 0
IfRefused (Refused f) P = P f
IfRefused _ P = Unit {0}

abbrev pub OnReadFault : Status → Type 0 → Type 0
OnReadFault ReadFault P = P
OnReadFault _ P = Unit {0}

abbrev pub OnWriteFault : Status → Type 0 → Type 0
OnWriteFault WriteFault P = P
OnWriteFault _ P = Unit {0}

-- where it neither wrote nor tried to write
abbrev pub OnNothingWritten : Status → Type 0 → Type 0
OnNothingWritten Done P = Unit {0}
OnNothingWritten WriteFault P = Unit {0}
OnNothingWritten _ P = P

abbrev pub IsDoneOrMemory : Status → Type 0
IsDoneOrMemory Done = Unit {0}
IsDoneOrMemory Memory = Unit {0}
IsDoneOrMemory _ = ⊥

-- the one count of the files that an answer raises
abbrev pub CountsFiles : FileCounts → FileCounts → Status → Type 0
CountsFiles old new (Refused f) = CountsRefusal f.kind old new
CountsFiles old new ReadFault = Rose old.faults new.faults × (new.misses ≡ old.misses) × (new.overruns ≡ old.overruns)
CountsFiles old new _ = new ≡ old

-- the count of the stream that is read, which ReadFault alone raises
abbrev pub CountsInput : ℕ → ℕ → Status → Type 0
CountsInput before after ReadFault = Rose before after
CountsInput before after _ = after ≡ before

abbrev pub IsNoReadFault : Status → Type 0
IsNoReadFault ReadFault = ⊥
IsNoReadFault _ = Unit {0}

-- The one count that an answer raises of what is read: of the files, and where these were all read, of the stream. `make` reads nothing of
-- either.
abbrev pub CountsRead : Asked → FileCounts → FileCounts → ℕ → ℕ → Status → Type 0
CountsRead (compile s) old new before after x = CountsFiles old new x × (after ≡ before)
CountsRead (check s) old new before after x = CountsFiles old new x × (after ≡ before)
CountsRead (print s) old new before after x = (CountsFiles old new x × (after ≡ before)) ⊎ ((new ≡ old) × CountsInput before after x)
CountsRead (make n) old new before after x = IsNoReadFault x × (new ≡ old) × (after ≡ before)

abbrev pub CountsReadIf : Option Asked → FileCounts → FileCounts → ℕ → ℕ → Status → Type 0
CountsReadIf None old new before after x = IsNoReadFault x × (new ≡ old) × (after ≡ before)
CountsReadIf (Some a) old new before after x = CountsRead a old new before after x

-- the one count of the output that an answer raises
abbrev pub CountsOut : SinkCounts → SinkCounts → Status → Type 0
CountsOut old new WriteFault = Rose old.faults new.faults × (new.shortages ≡ old.shortages)
CountsOut old new Memory = (new.faults ≡ old.faults) × (old.shortages ≤ new.shortages)
CountsOut old new _ = new ≡ old

-- a run goes through
abbrev pub GoesThrough : {A : Type 0} → Answer A → Type 0
GoesThrough (Out x t) = Unit {0}
GoesThrough (Stopped f) = ⊥

-- The told texts are a model with its data that is typed to a program, by this table; and evaluating it goes through. Files with their
-- data have at most one typed program.
pub record IsToldModel (table : List Name) (texts : Texts) (s : Settings) : Type 0 where
  pub told : List ℕ → Option (List ℕ)
  pub is_told : texts ≡ Some told
  pub files : List File
  pub items : List datum.Given
  pub sources : AreAskedFiles table texts s files items
  pub program : PlainProgram
  pub typed : IsTypedModel table files items program
  pub evaluates : (values : Assignment) (choices : ℕ → Content) → GoesThrough (walk Positive (limits_of s) (Given choices) values program start)

-- the told texts are files of a model and items of its data, by this table
pub record AreToldFiles (table : List Name) (texts : Texts) (s : Settings) (files : List File) (items : List datum.Given) : Type 0 where
  pub told : List ℕ → Option (List ℕ)
  pub is_told : texts ≡ Some told
  pub distinct : AreDistinct table
  pub sources : AreAskedFiles table texts s files items

-- the stream is told, and is printed whole by the texts of a program's solutions
pub record IsToldStream (table : List Name) (l : Limits) (p : PlainProgram) (source : Left) : Type 0 where
  pub stream : List ℕ
  pub is_told : source ≡ Some stream
  pub whole : (ts : printing.Texts) (fs : List Form) → HasTexts l table p ts fs → (out : List ℕ) × printing.Prints ts fs STREAM_LIMIT stream out printing.all_written

-- what `print` asks of the stream of a program's solutions
abbrev pub HasStream : List Name → Asked → PlainProgram → Left → Type 0
HasStream table (compile s) p source = Unit {0}
HasStream table (check s) p source = Unit {0}
HasStream table (print s) p source = IsToldStream table (limits_of s) p source
HasStream table (make n) p source = Unit {0}

-- What a run makes of a told model, by its own table of names: it is compiled, or a told stream of its solutions is printed. Which name has
-- which number is nothing to the model: the files that are read by some table that goes on from this one are read by this one too.
pub record Completes (known : List Name) (texts : Texts) (a : Asked) (source : Left) (status : Status) : Type 0 where
  pub distinct : AreDistinct known
  pub whole : (table : List Name) (files : List File) (items : List datum.Given) → Grows known table → AreToldFiles table (texts_in texts a) (settings_in a) files items
      → AreAskedFiles known (texts_in texts a) (settings_in a) files items ⊎ IsDoneOrMemory status
  pub done : (told : IsToldModel known (texts_in texts a) (settings_in a)) → HasStream known a told.program source → IsDoneOrMemory status

-- A told model is compiled, or its told stream printed, unless a count of faults rose or memory ran out.
abbrev pub IsComplete : Texts → Option Asked → Left → FileCounts → FileCounts → ℕ → ℕ → SinkCounts → SinkCounts → Status → Type 0
IsComplete texts asked source old new taken now_taken before after status =
    (a : Asked) → asked ≡ Some a → (Rose old.faults new.faults → ⊥) → (Rose taken now_taken → ⊥) → (Rose before.faults after.faults → ⊥) → (known : List Name) × Completes known texts a source status

-- what a reference to bytes points to
abbrev pub now : Bor (List ℕ) → List ℕ
now piece = piece.now
