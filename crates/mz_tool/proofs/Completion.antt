-- A told model is compiled, and a told stream of its solutions printed.
use Rattle.std.proofs.Common.{◌≡◌, ℕ, List, refl, sym, subst, inl, inr}
use Rattle.std.specs.Prelude.{◌⊎◌, Some}
use Rattle.mz_base.specs.declared.fault.Fault.{Fault}
use Rattle.mz_base.specs.Names.{AreDistinct, Grows}
use Rattle.mz_io.specs.Counts.{Rose}
use Rattle.mz_io.specs.Files.{Texts, FileCounts}
use Rattle.mz_io.specs.Sink.{Held, SinkCounts}
use Rattle.mz_io.specs.Source.{Left}
use Rattle.mz_tree.specs.Data.{Given}
use Rattle.mz_include.specs.Naming.{File}
use Rattle.mz_include.specs.WithData.{IsSourcesWithData, FailsWithData}
use Rattle.mz_include.proofs.OneData.{one_sources, sources_or_failure}
use Rattle.mz_include.proofs.LaterData.{sources_later, failure_later}
use Rattle.mz_words.specs.Requests.{Settings, Asked, compile, check, print, make}
use Rattle.fz_program.specs.Names.{Name}
use Rattle.mz_value.specs.Contents.{absent}
use Rattle.mz_core.specs.Program.{PlainProgram}
use Rattle.mz_meaning.specs.Runs.{Answer, Out, Stopped, start}
use Rattle.mz_meaning.specs.Cells as cells
use Rattle.mz_meaning.specs.Contexts.{Positive}
use Rattle.mz_meaning.specs.Walk.{walk}
use Rattle.mz_model_meaning.specs.Refusals.{Stops}
use Rattle.fz_items.specs.Forms.{Form}
use Rattle.mz_print_stream.specs.Printing as printing
use Rattle.mz_print_stream.specs.Promises.{Has}
use Rattle.mz_print_stream.specs.declared.printed.Printed.TheVariants as ended
use Rattle.mz_print_stream.proofs.Outputs.{one_printing}
use Rattle.mz_print_model.specs.Printing.{HasTexts}
use Rattle.mz_analysis.specs.Analysis.{IsRefused, IsTypedModel}
use Rattle.mz_analysis.proofs.Single.{not_refused, one_typed}
use Rattle.mz_tool.specs.declared.print.TheConstants.{STREAM_LIMIT}
use Rattle.mz_tool.specs.declared.end.Owner.{Owner}
use Rattle.mz_tool.specs.declared.end.End.{End}
use Rattle.mz_tool.specs.declared.end.End.TheVariants as end
use Rattle.mz_tool.specs.declared.status.Status.TheVariants as status
use Rattle.mz_tool.specs.Words.{OnPrint, settings_in, texts_in}
use Rattle.mz_tool.specs.Headline.{limits_of}
use Rattle.mz_tool.specs.Printable.{IsPrintable}
use Rattle.mz_tool.specs.Status.{GoesThrough, AreAskedFiles, IsRefusal, a_file_fails, a_test_fails, not_compiled, IsPrintRefusal, as_checked, of_the_stream, IsRefusedBy, CountsRead, CountsOut, IsToldModel, IsToldStream, HasStream, AreToldFiles, Completes, IsDoneOrMemory}
use Rattle.mz_tool.specs.StepsEnding.{owner_name, status_of}
use Rattle.mz_tool.specs.StepsPrinting.{PrintedEnd, is_early, is_late}
use Rattle.mz_tool.proofs.Places.{no_values}
use Rattle.mz_tool.proofs.Endings.{RefusedSo}

-- ---- files that are read by a later table are read by this one, unless a file fails

module _ (known table : List Name) (texts : Texts) (s : Settings) (files : List File) (items : List Given) (grows : Grows known table) (are : AreToldFiles table texts s files items) where
  abbrev Told : Texts
  Told = Some are.told

  abbrev AreSources : List Name → Texts → List File → List Given → Type 0
  AreSources names ts fs gs = IsSourcesWithData names ts s.model s.data_files fs gs

  its_sources : AreSources table Told files items
  its_sources = subst (λ t. AreSources table t files items) are.is_told are.sources

  same_files : (others : List File) (more : List Given) → AreSources known texts others more → AreSources known texts files items
  same_files others more sources =
      let later : AreSources table Told others more = subst (λ t. AreSources table t others more) are.is_told (sources_later known table grows texts s.model s.data_files others more sources) in
      let same : (others ≡ files) × (more ≡ items) = one_sources table are.distinct are.told s.model s.data_files others files more items later its_sources in
      subst (λ gs. AreSources known texts files gs) same.1 (subst (λ fs. AreSources known texts fs more) same.0 sources)

  files_of_refusal : (f : Fault) (owner : Name) → IsRefusal known texts s f owner → AreSources known texts files items
  files_of_refusal f owner (a_file_fails h placed) =
      absurd (sources_or_failure table are.distinct are.told s.model s.data_files files items f owner its_sources (subst (λ t. FailsWithData table t s.model s.data_files f owner) are.is_told (failure_later known table grows texts s.model s.data_files f owner h)))
  files_of_refusal f _ (a_test_fails others more sources refused) = same_files others more sources
  files_of_refusal f _ (not_compiled others more p sources typed is placed) = same_files others more sources

  files_of_print : (f : Fault) (owner : Name) → IsPrintRefusal known texts s f owner → AreSources known texts files items
  files_of_print f owner (as_checked refused) = files_of_refusal f owner refused
  files_of_print f _ (of_the_stream ts fs is stream out prints placed) = same_files is.files is.items is.sources

its_files : (known table : List Name) (texts : Texts) (a : Asked) (files : List File) (items : List Given) → Grows known table → AreToldFiles table (texts_in texts a) (settings_in a) files items → (f : Fault) (owner : Name) → IsRefusedBy known texts a f owner → AreAskedFiles known (texts_in texts a) (settings_in a) files items
its_files known table texts (compile s) files items grows are f owner refused = files_of_refusal known table texts s files items grows are f owner refused
its_files known table texts (check s) files items grows are f owner refused = files_of_refusal known table texts s files items grows are f owner refused
its_files known table texts (print s) files items grows are f owner refused = files_of_print known table texts s files items grows are f owner refused
its_files known table texts (make n) files items grows are f owner refused = files_of_refusal known table (texts_in texts (make n)) (settings_in (make n)) files items grows are f owner refused

-- ---- a told model isn't refused

module _ (known : List Name) (distinct : AreDistinct known) (texts : Texts) (s : Settings) (told : IsToldModel known texts s) where
  abbrev AreFiles : List File → List Given → Type 0
  AreFiles files items = AreAskedFiles known texts s files items

  of_told : (files : List File) (items : List Given) → AreFiles files items → IsSourcesWithData known (Some told.told) s.model s.data_files files items
  of_told files items sources = subst (λ t. IsSourcesWithData known t s.model s.data_files files items) told.is_told sources

  its_own : (files : List File) (items : List Given) → AreFiles files items → (files ≡ told.files) × (items ≡ told.items)
  its_own files items sources = one_sources known distinct told.told s.model s.data_files files told.files items told.items (of_told files items sources) (of_told told.files told.items told.sources)

  its_program : (files : List File) (items : List Given) (p : PlainProgram) → AreFiles files items → IsTypedModel known files items p → p ≡ told.program
  its_program files items p sources typed =
      let same = its_own files items sources in
      one_typed known told.files told.items p told.program (subst (λ gs. IsTypedModel known told.files gs p) same.1 (subst (λ fs. IsTypedModel known fs items p) same.0 typed)) told.typed

  not_through : {A : Type 0} (x : Answer A) (f : Fault) → GoesThrough x → x ≡ Stopped f → ⊥
  not_through (Out v t) f through stops = cc
  not_through (Stopped g) f through stops = through

  -- its program goes through
  not_stopped : (f : Fault) → Stops (limits_of s) told.program f → ⊥
  not_stopped f is =
      not_through (walk Positive (limits_of s) (cells.Given (λ k. absent)) no_values told.program start) f (told.evaluates no_values (λ k. absent)) (is.stops no_values (λ k. absent))

  not_refused_here : (files : List File) (items : List Given) (f : Fault) → (files ≡ told.files) × (items ≡ told.items) → IsRefused known files items f → ⊥
  not_refused_here files items f same refused =
      not_refused known told.files told.items f (told.program, told.typed) (subst (λ gs. IsRefused known told.files gs f) same.1 (subst (λ fs. IsRefused known fs items f) same.0 refused))

  model_is_not_refused : (f : Fault) (owner : Name) → IsRefusal known texts s f owner → ⊥
  model_is_not_refused f owner (a_file_fails h placed) =
      sources_or_failure known distinct told.told s.model s.data_files told.files told.items f owner (of_told told.files told.items told.sources) (subst (λ t. FailsWithData known t s.model s.data_files f owner) told.is_told h)
  model_is_not_refused f _ (a_test_fails files items sources refused) = not_refused_here files items f (its_own files items sources) refused.refused
  model_is_not_refused f _ (not_compiled files items p sources typed is placed) = not_stopped f (subst (λ q. Stops (limits_of s) q f) (its_program files items p sources typed) is)

  -- ---- nor is a told stream of its solutions

  module _ (source : Left) (stream : IsToldStream known (limits_of s) told.program source) where
    same_stream : (bytes : List ℕ) → Has source bytes → stream.stream ≡ bytes
    same_stream bytes has = subst (λ o. Has o bytes) stream.is_told has

    not_both : (f : Fault) → printing.all_written ≡ printing.refused f → ⊥
    not_both f same = cc

    its_texts : (ts : printing.Texts) (fs : List Form) → IsPrintable known texts s ts fs → HasTexts (limits_of s) known told.program ts fs
    its_texts ts fs is = subst (λ p. HasTexts (limits_of s) known p ts fs) (its_program is.files is.items is.model is.sources is.typed) is.has

    not_printed : (ts : printing.Texts) (fs : List Form) (bytes out : List ℕ) (f : Fault) → IsPrintable known texts s ts fs → Has source bytes → printing.Prints ts fs STREAM_LIMIT bytes out (printing.refused f) → ⊥
    not_printed ts fs bytes out f is has prints =
        let whole = stream.whole ts fs (its_texts ts fs is) in
        let same : printing.Prints ts fs STREAM_LIMIT stream.stream out (printing.refused f) = subst (λ bs. printing.Prints ts fs STREAM_LIMIT bs out (printing.refused f)) (sym (same_stream bytes has)) prints in
        not_both f (one_printing ts fs STREAM_LIMIT stream.stream whole.0 out printing.all_written (printing.refused f) whole.1 same).1

    stream_is_not_refused : (left : Left) (old new : Held) (f : Fault) (o : Owner) → PrintedEnd known texts s source left old new (end.Refused f o) → ⊥
    stream_is_not_refused left old new f o (is_early refused taken put) = model_is_not_refused f (owner_name known o) refused
    stream_is_not_refused left old new f o (is_late ended.Done same is) = absurd (cc)
    stream_is_not_refused left old new f o (is_late (ended.Refused g) same is) = not_printed is.its_texts is.its_forms is.prints.stream is.prints.out g is.printable is.prints.told is.prints.prints
    stream_is_not_refused left old new f o (is_late ended.ReadFault same is) = absurd (cc)
    stream_is_not_refused left old new f o (is_late ended.WriteFault same is) = absurd (cc)
    stream_is_not_refused left old new f o (is_late ended.Memory same is) = absurd (cc)

-- ---- where no count of faults rose, a run ends with Done, with Memory or refused

no_read_fault : (a : Asked) (old new : FileCounts) (before after : ℕ) → CountsRead a old new before after status.ReadFault → (Rose old.faults new.faults → ⊥) → (Rose before after → ⊥) → ⊥
no_read_fault (compile s) old new before after counted read taken = read counted.0.0
no_read_fault (check s) old new before after counted read taken = read counted.0.0
no_read_fault (print s) old new before after (inl counted) read taken = read counted.0.0
no_read_fault (print s) old new before after (inr counted) read taken = taken counted.1
no_read_fault (make n) old new before after counted read taken = counted.0

unless_refused : (a : Asked) (P : Type 0) (old new : FileCounts) (before after : ℕ) (held left : SinkCounts) (e : End) → (Rose old.faults new.faults → ⊥) → (Rose before after → ⊥) → (Rose held.faults left.faults → ⊥)
    → CountsRead a old new before after (status_of e) → CountsOut held left (status_of e) → ((f : Fault) (o : Owner) → e ≡ end.Refused f o → P) → P ⊎ IsDoneOrMemory (status_of e)
unless_refused a P old new before after held left end.Done read taken write counted out then = inr tt
unless_refused a P old new before after held left (end.Refused f o) read taken write counted out then = inl (then f o refl)
unless_refused a P old new before after held left end.ReadFault read taken write counted out then = absurd (no_read_fault a old new before after counted read taken)
unless_refused a P old new before after held left end.WriteFault read taken write counted out then = absurd (write out.0)
unless_refused a P old new before after held left end.Memory read taken write counted out then = inr tt

not_left : {P : Type 0} → ⊥ ⊎ P → P
not_left (inl no_way) = absurd no_way
not_left (inr p) = p

so_refused : (known : List Name) (distinct : AreDistinct known) (texts : Texts) (a : Asked) (e : End) (f : Fault) (o : Owner) → RefusedSo known distinct texts a e → e ≡ end.Refused f o → IsRefusedBy known texts a f (owner_name known o)
so_refused known distinct texts a e f o so is = subst (RefusedSo known distinct texts a) is so

-- what was told isn't refused, whatever was asked for
not_refused_so : (known : List Name) (distinct : AreDistinct known) (texts : Texts) (a : Asked) (source left : Left) (old new : Held) (e : End) (f : Fault) (o : Owner) → (told : IsToldModel known (texts_in texts a) (settings_in a)) → HasStream known a told.program source
    → RefusedSo known distinct texts a e → OnPrint (Some a) (λ s. PrintedEnd known texts s source left old new e) → e ≡ end.Refused f o → ⊥
not_refused_so known distinct texts (compile s) source left old new e f o told stream so printed is = model_is_not_refused known distinct texts s told f (owner_name known o) (so_refused known distinct texts (compile s) e f o so is)
not_refused_so known distinct texts (check s) source left old new e f o told stream so printed is = model_is_not_refused known distinct texts s told f (owner_name known o) (so_refused known distinct texts (check s) e f o so is)
not_refused_so known distinct texts (print s) source left old new e f o told stream so printed is =
    stream_is_not_refused known distinct texts s told source stream left old new f o (subst (PrintedEnd known texts s source left old new) is printed)
not_refused_so known distinct texts (make n) source left old new e f o told stream so printed is =
    model_is_not_refused known distinct (texts_in texts (make n)) (settings_in (make n)) told f (owner_name known o) (so_refused known distinct texts (make n) e f o so is)

pub completes : (known : List Name) (distinct : AreDistinct known) (texts : Texts) (a : Asked) (source rest : Left) (old_held new_held : Held) (old new : FileCounts) (before after : ℕ) (held left : SinkCounts) (e : End) → (Rose old.faults new.faults → ⊥) → (Rose before after → ⊥) → (Rose held.faults left.faults → ⊥)
    → RefusedSo known distinct texts a e → OnPrint (Some a) (λ s. PrintedEnd known texts s source rest old_held new_held e) → CountsRead a old new before after (status_of e) → CountsOut held left (status_of e) → Completes known texts a source (status_of e)
completes known distinct texts a source rest old_held new_held old new before after held left e read taken write so printed counted out = record {
  distinct = distinct;
  whole = λ table files items grows are.
      unless_refused a (AreAskedFiles known (texts_in texts a) (settings_in a) files items) old new before after held left e read taken write counted out
      (λ f o is. its_files known table texts a files items grows are f (owner_name known o) (so_refused known distinct texts a e f o so is));
  done = λ told stream.
      not_left (unless_refused a ⊥ old new before after held left e read taken write counted out
      (λ f o is. not_refused_so known distinct texts a source rest old_held new_held e f o told stream so printed is));
}
