-- ALL THAT A RUN PROMISES OF ITS ANSWER, by what the files, the input, the output and the notes were before and are after.
use Rattle.std.specs.Prelude.{◌≡◌, ◌<◌, ◌⊎◌, ℕ, List, Option, IsSomeAnd}
use Rattle.mz_io.specs.Counts.{Rose}
use Rattle.mz_io.specs.Files.{Texts, FileCounts}
use Rattle.mz_io.specs.Sink.{Held, SinkCounts}
use Rattle.mz_io.specs.Source.{Left}
use Rattle.mz_words.specs.Requests.{Asked}
use Rattle.mz_tool.specs.Words.{IsUsage, OnPrint, UnlessPrint}
use Rattle.mz_tool.specs.Headline.{Writes, WritesPrefix}
use Rattle.mz_tool.specs.Printed.{PrintEnds}
use Rattle.mz_tool.specs.Status.{OnDone, IfRefused, OnReadFault, OnWriteFault, OnNothingWritten, IsRefusedBy, ByDistinctNames, CountsReadIf, CountsOut, IsComplete, IsNoted}
use Rattle.mz_tool.specs.declared.status.Status.{Status}
use Rattle.mz_tool.specs.declared.status.Status.TheVariants.{ReadFault, WriteFault}

-- what a run finds outside itself, or leaves there: how the files' calls went, what the input has left, and what the output and the notes
-- hold, with their counts
pub record Outside : Type 0 where
  pub files : FileCounts
  pub input : Left
  pub input_faults : ℕ
  pub out : Held
  pub out_counts : SinkCounts
  pub notes : Held
  pub note_counts : SinkCounts

pub record Promises (texts : Texts) (asked : Option Asked) (old new : Outside) (answer : Status) : Type 0 where
  pub headline : UnlessPrint asked (OnDone answer (IsSomeAnd asked (λ a. ByDistinctNames (λ table. Writes table texts a old.out new.out))))
  pub printed : OnPrint asked (λ s. PrintEnds texts s old.input new.input old.out new.out answer)
  -- each other answer has its cause
  pub usage : IsUsage asked answer
  pub refused : IfRefused answer (λ fault. IsSomeAnd asked (λ a. ByDistinctNames (λ table. (file : List ℕ) × IsRefusedBy table texts a fault file)))
  pub read_fault : OnReadFault answer (Rose old.files.faults new.files.faults ⊎ Rose old.input_faults new.input_faults)
  pub write_fault : OnWriteFault answer (Rose old.out_counts.faults new.out_counts.faults)
  -- and each failure its answer
  pub failed_fetch : old.files.faults < new.files.faults → answer ≡ ReadFault
  pub failed_take : old.input_faults < new.input_faults → answer ≡ ReadFault
  pub failed_put : old.out_counts.faults < new.out_counts.faults → answer ≡ WriteFault
  pub counted : CountsReadIf asked old.files new.files old.input_faults new.input_faults answer
  pub counted_out : CountsOut old.out_counts new.out_counts answer
  pub complete : IsComplete texts asked old.input old.files new.files old.input_faults new.input_faults old.out_counts new.out_counts answer
  -- what an answer leaves
  pub cut_short : UnlessPrint asked (OnWriteFault answer (IsSomeAnd asked (λ a. ByDistinctNames (λ table. WritesPrefix table texts a old.out new.out))))
  pub untouched : UnlessPrint asked (OnNothingWritten answer (new.out ≡ old.out))
  pub noted : IsNoted texts asked answer old.notes new.notes old.note_counts new.note_counts
