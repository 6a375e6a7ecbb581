-- Mirror of src/print.rt; private clauses only.
use Rattle.std.specs.Prelude.{◌≡◌, List}
use Rattle.mz_base.specs.declared.fault.Fault.{Fault}
use Rattle.mz_base.specs.Names.{text_of}
use Rattle.mz_io.specs.Files.{Texts}
use Rattle.mz_io.specs.Sink.{Held}
use Rattle.mz_io.specs.Source.{Left}
use Rattle.mz_include.specs.declared.with_data.gathering.SourcesWithData.{SourcesWithData}
use Rattle.mz_words.specs.Requests.{Settings}
use Rattle.mz_core.specs.Program.{plain_program}
use Rattle.mz_meaning.specs.Walk.{Limits}
use Rattle.fz_items.specs.Forms.{Form}
use Rattle.fz_program.specs.Names.{Name}
use Rattle.mz_print_stream.specs.Printing as printing
use Rattle.mz_print_stream.specs.Promises.{Promises}
use Rattle.mz_print_stream.specs.declared.printed.Printed.{Printed}
use Rattle.mz_print_stream.specs.declared.printed.Printed.TheVariants as printed
use Rattle.mz_print_model.specs.Printing.{HasTexts}
use Rattle.mz_tool.specs.declared.print.TheConstants.{STREAM_LIMIT}
use Rattle.mz_tool.specs.declared.checking.Checked.{Checked}
use Rattle.mz_tool.specs.declared.end.Owner.{Owner}
use Rattle.mz_tool.specs.declared.end.Owner.TheVariants as owner
use Rattle.mz_tool.specs.declared.end.End.{End}
use Rattle.mz_tool.specs.declared.end.End.TheVariants as end
use Rattle.mz_tool.specs.Printed.{IsPrinted, status_by}
use Rattle.mz_tool.specs.Status.{IsPrintRefusal, IsRefusal, stream_number}
use Rattle.mz_tool.specs.StepsChecking.{IsNamedRefusal, name_in}
use Rattle.mz_tool.specs.StepsEnding.{owner_name, status_of}

-- the owner of a fault's place: the stream, or a file that was read
abbrev pub IsStreamOwner : List Name → SourcesWithData → Fault → Owner → Type 0
IsStreamOwner table read f owner.Stream = f.span.file ≡ stream_number
IsStreamOwner table read f (owner.File n) = (f.span.file ≡ stream_number → ⊥) × (text_of table n ≡ name_in table read f)

-- how the command ends, where the printing of the stream ends so
abbrev pub IsEndOf : List Name → SourcesWithData → Printed → End → Type 0
IsEndOf table read printed.Done e = e ≡ end.Done
IsEndOf table read (printed.Refused f) e = (o : Owner) × (e ≡ end.Refused f o) × IsStreamOwner table read f o
IsEndOf table read printed.ReadFault e = e ≡ end.ReadFault
IsEndOf table read printed.WriteFault e = e ≡ end.WriteFault
IsEndOf table read printed.Memory e = e ≡ end.Memory

-- why it is refused, where it is
abbrev pub RefusedEnd : List Name → Texts → Settings → End → Type 0
RefusedEnd table texts s (end.Refused f o) = IsPrintRefusal table texts s f (owner_name table o)
RefusedEnd table texts s _ = Unit {0}

-- it ends before the stream is read
abbrev pub EarlyEnd : List Name → Texts → Settings → End → Type 0
EarlyEnd table texts s (end.Refused f o) = IsRefusal table texts s f (owner_name table o)
EarlyEnd table texts s end.ReadFault = Unit {0}
EarlyEnd table texts s end.Memory = Unit {0}
EarlyEnd table texts s _ = ⊥

-- nothing is taken or written; or the stream is printed
pub data PrintedEnd (table : List Name) (texts : Texts) (s : Settings) (source left : Left) (old new : Held) (e : End) : Type 0 where
  is_early : EarlyEnd table texts s e → left ≡ source → new ≡ old → PrintedEnd table texts s source left old new e
  is_late : (p : Printed) → status_of e ≡ status_by p → IsPrinted table texts s source left old new p → PrintedEnd table texts s source left old new e

-- the same by the texts of a checked model
pub record IsPrintedBy (l : Limits) (table : List Name) (c : Checked) (source left : Left) (old new : Held) (p : Printed) : Type 0 where
  pub texts : printing.Texts
  pub forms : List Form
  pub has : HasTexts l table (plain_program c.program) texts forms
  pub prints : Promises texts forms STREAM_LIMIT source left old new p

abbrev pub EarlyOf : Limits → List Name → Checked → End → Type 0
EarlyOf l table c (end.Refused f (owner.File n)) = IsNamedRefusal l table c.read f n
EarlyOf l table c (end.Refused f owner.Stream) = ⊥
EarlyOf l table c end.Memory = Unit {0}
EarlyOf l table c _ = ⊥

pub data PrintsChecked (l : Limits) (table : List Name) (c : Checked) (source left : Left) (old new : Held) (e : End) : Type 0 where
  ends_early : EarlyOf l table c e → left ≡ source → new ≡ old → PrintsChecked l table c source left old new e
  ends_late : (p : Printed) → IsEndOf table c.read p e → IsPrintedBy l table c source left old new p → PrintsChecked l table c source left old new e
