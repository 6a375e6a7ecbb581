-- WHAT `print` WRITES of a solver's stream.
use Rattle.std.specs.Prelude.{◌≡◌, List}
use Rattle.mz_base.specs.declared.fault.Fault.{Fault}
use Rattle.mz_io.specs.Files.{Texts}
use Rattle.mz_io.specs.Sink.{Held}
use Rattle.mz_io.specs.Source.{Left}
use Rattle.mz_words.specs.Requests.{Settings}
use Rattle.fz_items.specs.Forms.{Form}
use Rattle.fz_program.specs.Names.{Name}
use Rattle.mz_print_stream.specs.Printing as printing
use Rattle.mz_print_stream.specs.Promises.{Promises}
use Rattle.mz_print_stream.specs.declared.printed.Printed.{Printed}
use Rattle.mz_print_stream.specs.declared.printed.Printed.TheVariants as printed
use Rattle.mz_tool.specs.Printable.{IsPrintable}
use Rattle.mz_tool.specs.Status.{ByDistinctNames, IsRefusal}
use Rattle.mz_tool.specs.declared.print.TheConstants.{STREAM_LIMIT}
use Rattle.mz_tool.specs.declared.status.Status.{Status}
use Rattle.mz_tool.specs.declared.status.Status.TheVariants.{Done, Refused, ReadFault, WriteFault, Memory}

-- the answer to how the printing of a stream ends
abbrev pub status_by : Printed → Status
status_by printed.Done = Done
status_by (printed.Refused f) = Refused f
status_by printed.ReadFault = ReadFault
status_by printed.WriteFault = WriteFault
status_by printed.Memory = Memory

-- the stream is printed by the texts of the model's solutions, up to where the printing ends so
pub record IsPrinted (table : List Name) (texts : Texts) (s : Settings) (source left : Left) (old new : Held) (end : Printed) : Type 0 where
  pub its_texts : printing.Texts
  pub its_forms : List Form
  pub printable : IsPrintable table texts s its_texts its_forms
  pub prints : Promises its_texts its_forms STREAM_LIMIT source left old new end

-- the answers before the stream is read, where this holds of a refusal
abbrev pub IsEarly : (Fault → Type 0) → Status → Type 0
IsEarly P (Refused f) = P f
IsEarly P ReadFault = Unit {0}
IsEarly P Memory = Unit {0}
IsEarly P _ = ⊥

-- WHAT IS TAKEN AND WRITTEN: nothing, where the model is refused, or isn't read or walked to its end; or the stream is printed. The bytes
-- are those of its events, however it was cut into pieces
pub data PrintEnds (texts : Texts) (s : Settings) (source left : Left) (old new : Held) : Status → Type 0 where
  before_the_stream : {x : Status} → IsEarly (λ f. ByDistinctNames (λ table. (file : Name) × IsRefusal table texts s f file)) x → left ≡ source → new ≡ old → PrintEnds texts s source left old new x
  at_the_stream : (end : Printed) → ByDistinctNames (λ table. IsPrinted table texts s source left old new end) → PrintEnds texts s source left old new (status_by end)
