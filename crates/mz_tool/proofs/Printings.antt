-- How `print` ends: before the stream is read, or with the stream.
use Rattle.std.proofs.Common.{◌≡◌, ◌∙◌, ℕ, ◌+◌, Bool, true, false, List, length, refl, sym, ap, subst, inr, if◌then◌else◌}
use Rattle.std.specs.Prelude.{Err, nat_eq, codes}
use Rattle.std.proofs.lemmas.Bool.{eq-eqb}
use Rattle.std.proofs.lemmas.Bool.Decides.{Decides-eqb}
use Rattle.mz_base.specs.declared.fault.Fault.{Fault}
use Rattle.mz_base.specs.Names.{text_of}
use Rattle.mz_io.specs.Files.{Texts, FileCounts}
use Rattle.mz_io.specs.Sink.{Held, SinkCounts}
use Rattle.mz_io.specs.Source.{Left}
use Rattle.mz_include.specs.declared.end.GatherEnd.{GatherEnd}
use Rattle.mz_include.specs.declared.end.GatherEnd.TheVariants as gathered
use Rattle.mz_include.specs.Ends as gather
use Rattle.mz_include.specs.declared.with_data.gathering.SourcesWithData.{SourcesWithData}
use Rattle.mz_analysis.specs.Analysis.{file_name, files_read, items_read}
use Rattle.mz_analysis.specs.PlacePromise.{LiesIn}
use Rattle.mz_words.specs.Requests.{Settings, print}
use Rattle.mz_core.specs.Program.{plain_program}
use Rattle.mz_meaning.specs.Walk.{Limits}
use Rattle.fz_program.specs.Names.{Name}
use Rattle.mz_print_stream.specs.Promises as promises
use Rattle.mz_print_stream.specs.Printing as printing
use Rattle.mz_print_stream.specs.declared.printed.Printed.{Printed}
use Rattle.mz_print_stream.specs.declared.printed.Printed.TheVariants as ended
use Rattle.fz_items.specs.Forms.{Form}
use Rattle.mz_print_model.specs.Printing.{HasTexts}
use Rattle.mz_tool.specs.declared.print.TheConstants.{STREAM_LIMIT}
use Rattle.mz_tool.specs.declared.checking.Checked.{Checked}
use Rattle.mz_tool.specs.declared.end.Owner.{Owner}
use Rattle.mz_tool.specs.declared.end.Owner.TheVariants as owner
use Rattle.mz_tool.specs.declared.end.End.{End}
use Rattle.mz_tool.specs.declared.end.End.TheVariants as end
use Rattle.mz_tool.specs.declared.status.Status.{Status}
use Rattle.mz_tool.specs.Headline.{limits_of}
use Rattle.mz_tool.specs.Printable.{IsPrintable}
use Rattle.mz_tool.specs.Printed.{status_by}
use Rattle.mz_tool.specs.Status.{CountsInput, CountsOut, CountsRead, IsPrintRefusal, IsRefusal, as_checked, of_the_stream, stream_number, stream_owner, owner_of, IsInTheStream}
use Rattle.mz_tool.specs.StepsChecking.{IsChecked, IsNamedRefusal}
use Rattle.mz_tool.specs.StepsEnding.{failed_end, owner_name, status_of}
use Rattle.mz_tool.specs.StepsPrinting.{EarlyEnd, EarlyOf, IsEndOf, IsPrintedBy, IsStreamOwner, PrintedEnd, PrintsChecked, RefusedEnd, ends_early, ends_late, is_early, is_late}
use Rattle.mz_tool.proofs.Refusals.{its_refusal}
use Rattle.mz_tool.proofs.Places.{program_lies}
use Rattle.mz_tool.proofs.TextPlaces.{stream_placed}

other_number : (n m : ℕ) → (n ≡ m → ⊥) → nat_eq n m ≡ false
other_number n m other = by (nat_eq n m) refl
  where
    by : (b : Bool) → nat_eq n m ≡ b → nat_eq n m ≡ false
    by true h = absurd (other ((Decides-eqb n m).0 h))
    by false h = h

-- ---- the end of a printing

pub end_status : (table : List Name) (read : SourcesWithData) (p : Printed) (e : End) → IsEndOf table read p e → status_of e ≡ status_by p
end_status table read ended.Done e is = ap status_of is
end_status table read (ended.Refused f) e (o, is, owned) = ap status_of is
end_status table read ended.ReadFault e is = ap status_of is
end_status table read ended.WriteFault e is = ap status_of is
end_status table read ended.Memory e is = ap status_of is

-- a refusal, with the owner of its place
pub refused_at : (table : List Name) (read : SourcesWithData) (f : Fault) (o : Owner) → IsStreamOwner table read f o → IsEndOf table read (ended.Refused f) (end.Refused f o)
refused_at table read f o owned = (o, refl, owned)

input_counted : (before after : ℕ) (p : Printed) → promises.CountsIn before after p → CountsInput before after (status_by p)
input_counted before after ended.Done counted = counted
input_counted before after (ended.Refused f) counted = counted
input_counted before after ended.ReadFault counted = counted
input_counted before after ended.WriteFault counted = counted
input_counted before after ended.Memory counted = counted

output_counted : (old new : SinkCounts) (p : Printed) → promises.CountsOut old new p → CountsOut old new (status_by p)
output_counted old new ended.Done counted = counted
output_counted old new (ended.Refused f) counted = counted
output_counted old new ended.ReadFault counted = counted
output_counted old new ended.WriteFault counted = counted
output_counted old new ended.Memory counted = counted

pub counts_taken : (table : List Name) (read : SourcesWithData) (p : Printed) (e : End) (before after : ℕ) → IsEndOf table read p e → promises.CountsIn before after p → CountsInput before after (status_of e)
counts_taken table read p e before after is counted = subst (CountsInput before after) (sym (end_status table read p e is)) (input_counted before after p counted)

pub counts_put : (table : List Name) (read : SourcesWithData) (p : Printed) (e : End) (old new : SinkCounts) → IsEndOf table read p e → promises.CountsOut old new p → CountsOut old new (status_of e)
counts_put table read p e old new is counted = subst (CountsOut old new) (sym (end_status table read p e is)) (output_counted old new p counted)

-- ---- before the stream is read

pub failed_early : (X : Type 0) (l : Limits) (table : List Name) (c : Checked) (e : GatherEnd) → gather.OnReadFault {X = X} (Err e) ⊥ → gather.IfRefused {X = X} (Err e) (IsNamedRefusal l table c.read) → EarlyOf l table c (failed_end e)
failed_early X l table c (gathered.Refused f n) none refused = refused
failed_early X l table c gathered.ReadFault none refused = none
failed_early X l table c gathered.Memory none refused = tt

pub failed_input : (X : Type 0) (count : ℕ) (e : GatherEnd) → gather.OnReadFault {X = X} (Err e) ⊥ → CountsInput count count (status_of (failed_end e))
failed_input X count (gathered.Refused f n) none = refl
failed_input X count gathered.ReadFault none = absurd none
failed_input X count gathered.Memory none = refl

pub unread_early : (X : Type 0) (table : List Name) (texts : Texts) (s : Settings) (e : GatherEnd) → gather.IfRefused {X = X} (Err e) (λ f n. IsRefusal table texts s f (text_of table n)) → EarlyEnd table texts s (failed_end e)
unread_early X table texts s (gathered.Refused f n) refused = refused
unread_early X table texts s gathered.ReadFault refused = tt
unread_early X table texts s gathered.Memory refused = tt

pub unread_refused : (X : Type 0) (table : List Name) (texts : Texts) (s : Settings) (e : GatherEnd) → gather.IfRefused {X = X} (Err e) (λ f n. IsRefusal table texts s f (text_of table n)) → RefusedEnd table texts s (failed_end e)
unread_refused X table texts s (gathered.Refused f n) refused = as_checked refused
unread_refused X table texts s gathered.ReadFault refused = tt
unread_refused X table texts s gathered.Memory refused = tt

-- ---- the files are those of the settings

module _ (table : List Name) (texts : Texts) (s : Settings) (c : Checked) (is : IsChecked table texts s c) where
  early_refusal : (e : End) → EarlyOf (limits_of s) table c e → EarlyEnd table texts s e
  early_refusal (end.Refused f (owner.File n)) refused = its_refusal table texts s c.read is.sources is.given f n refused
  early_refusal (end.Refused f owner.Stream) refused = absurd refused
  early_refusal end.Done refused = refused
  early_refusal end.ReadFault refused = absurd refused
  early_refusal end.WriteFault refused = refused
  early_refusal end.Memory refused = tt

  abbrev printable : (ts : printing.Texts) (fs : List Form) → HasTexts (limits_of s) table (plain_program c.program) ts fs → IsPrintable table texts s ts fs
  printable ts fs has = record { files = files_read table c.read; items = items_read c.read; sources = is.sources; model = plain_program c.program; typed = is.program.typed; has = has }

  pub printed_end : (source left : Left) (old new : Held) (e : End) → PrintsChecked (limits_of s) table c source left old new e → PrintedEnd table texts s source left old new e
  printed_end source left old new e (ends_early refused taken put) = is_early (early_refusal e refused) taken put
  printed_end source left old new e (ends_late p ends by) = is_late p (end_status table c.read p e ends) (record { its_texts = by.texts; its_forms = by.forms; printable = printable by.texts by.forms by.has; prints = by.prints })

  -- ---- why it is refused

  early_refused : (e : End) → EarlyOf (limits_of s) table c e → RefusedEnd table texts s e
  early_refused (end.Refused f (owner.File n)) refused = as_checked (its_refusal table texts s c.read is.sources is.given f n refused)
  early_refused (end.Refused f owner.Stream) refused = absurd refused
  early_refused end.Done refused = tt
  early_refused end.ReadFault refused = tt
  early_refused end.WriteFault refused = tt
  early_refused end.Memory refused = tt

  abbrev TheOwner : Fault → Name
  TheOwner f = stream_owner s (files_read table c.read) f.span.file

  its_owner : (f : Fault) (o : Owner) → IsStreamOwner table c.read f o → TheOwner f ≡ owner_name table o
  its_owner f owner.Stream is_stream = ap (λ b. if b then codes "-" else owner_of s (files_read table c.read) f.span.file) (eq-eqb f.span.file stream_number is_stream)
  its_owner f (owner.File n) (other, named) =
      ap (λ b. if b then codes "-" else owner_of s (files_read table c.read) f.span.file) (other_number f.span.file stream_number other)
      ∙ ap (λ ds. file_name (files_read table c.read) ds f.span.file) (sym is.given) ∙ sym named

  lies : LiesIn (length (files_read table c.read) + length s.data_files) (plain_program c.program)
  lies = subst (λ ds. LiesIn (length (files_read table c.read) + length ds) (plain_program c.program)) is.given (program_lies table c.read (plain_program c.program) is.read is.program.typed)

  placed : (ts : printing.Texts) (fs : List Form) (has : HasTexts (limits_of s) table (plain_program c.program) ts fs) (stream out : List ℕ) (f : Fault) → printing.Prints ts fs STREAM_LIMIT stream out (printing.refused f) → IsInTheStream s (files_read table c.read) f
  placed ts fs has stream out f prints = stream_placed table (limits_of s) (plain_program c.program) has.names ts (length (files_read table c.read) + length s.data_files) has.texts lies fs STREAM_LIMIT stream out f prints

  late_refused : (source left : Left) (old new : Held) (p : Printed) (e : End) → IsEndOf table c.read p e → IsPrintedBy (limits_of s) table c source left old new p → RefusedEnd table texts s e
  late_refused source left old new ended.Done e ends by = subst (RefusedEnd table texts s) (sym ends) tt
  late_refused source left old new (ended.Refused f) e (o, ends, owned) by =
      let why = of_the_stream by.texts by.forms (printable by.texts by.forms by.has) by.prints.stream by.prints.out by.prints.prints (placed by.texts by.forms by.has by.prints.stream by.prints.out f by.prints.prints) in
      subst (RefusedEnd table texts s) (sym ends) (subst (IsPrintRefusal table texts s f) (its_owner f o owned) why)
  late_refused source left old new ended.ReadFault e ends by = subst (RefusedEnd table texts s) (sym ends) tt
  late_refused source left old new ended.WriteFault e ends by = subst (RefusedEnd table texts s) (sym ends) tt
  late_refused source left old new ended.Memory e ends by = subst (RefusedEnd table texts s) (sym ends) tt

  pub refused_end : (source left : Left) (old new : Held) (e : End) → PrintsChecked (limits_of s) table c source left old new e → RefusedEnd table texts s e
  refused_end source left old new e (ends_early refused taken put) = early_refused e refused
  refused_end source left old new e (ends_late p ends by) = late_refused source left old new p e ends by

-- ---- counts

pub counts_read : (s : Settings) (old new : FileCounts) (before after : ℕ) (x : Status) → new ≡ old → CountsInput before after x → CountsRead (print s) old new before after x
counts_read s old new before after x same counted = inr (same, counted)
