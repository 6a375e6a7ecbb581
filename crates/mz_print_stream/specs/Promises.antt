-- What printing a solver's stream promises of the source that it reads and of the sink that it writes to.
use Rattle.std.specs.Prelude.{◌≡◌, ◌≤◌, ℕ, List, [], ◌++◌, Bool, true, Some, None}
use Rattle.mz_io.specs.Counts.{Rose}
use Rattle.mz_io.specs.Sink.{Held, SinkCounts, Adds}
use Rattle.mz_io.specs.Source.{Left}
use Rattle.fz_items.specs.Forms.{Form}
use Rattle.mz_print_stream.specs.Printing.{Texts, End, all_written, refused, Prints, PrintsSoFar, PrintsCut}
use Rattle.mz_print_stream.specs.declared.printed.Printed.{Printed}
use Rattle.mz_print_stream.specs.declared.printed.Printed.TheVariants as printed

-- these are the bytes that a source has left, where they are told
abbrev pub Has : Left → List ℕ → Type 0
Has None bytes = Unit {0}
Has (Some left) bytes = left ≡ bytes

-- a source gave these bytes, where they are told
abbrev pub Gave : Left → Left → List ℕ → Type 0
Gave None new taken = new ≡ None
Gave (Some left) new taken = (rest : List ℕ) × (left ≡ taken ++ rest) × (new ≡ Some rest)

-- the stream that the source has is printed
pub record IsPrinted (ts : Texts) (fs : List Form) (limit : ℕ) (source : Left) (old new : Held) (end : End) : Type 0 where
  pub stream : List ℕ
  pub told : Has source stream
  pub out : List ℕ
  pub prints : Prints ts fs limit stream out end
  pub adds : Adds old new out

-- the bytes that it gave are printed, so that more may come
pub record IsPrintedSoFar (ts : Texts) (fs : List Form) (limit : ℕ) (source left : Left) (old new : Held) : Type 0 where
  pub taken : List ℕ
  pub gave : Gave source left taken
  pub out : List ℕ
  pub prints : PrintsSoFar ts fs limit taken out
  pub adds : Adds old new out

-- of the bytes that it gave, the last may be printed in part
pub record IsPrintedCut (ts : Texts) (fs : List Form) (limit : ℕ) (source left : Left) (old new : Held) : Type 0 where
  pub taken : List ℕ
  pub gave : Gave source left taken
  pub ended : Bool
  pub over : ended ≡ true → Has left []
  pub out : List ℕ
  pub prints : PrintsCut ts fs limit ended taken out
  pub adds : Adds old new out

-- WHAT PRINTING A STREAM PROMISES, by its answer
abbrev pub Promises : Texts → List Form → ℕ → Left → Left → Held → Held → Printed → Type 0
Promises ts fs limit source left old new printed.Done = IsPrinted ts fs limit source old new all_written × Has left []
Promises ts fs limit source left old new (printed.Refused f) = IsPrinted ts fs limit source old new (refused f)
Promises ts fs limit source left old new printed.ReadFault = IsPrintedSoFar ts fs limit source left old new
Promises ts fs limit source left old new printed.WriteFault = IsPrintedCut ts fs limit source left old new
Promises ts fs limit source left old new printed.Memory = IsPrintedCut ts fs limit source left old new

-- the source's count of faults rises where the answer is ReadFault, and nowhere else
abbrev pub CountsIn : ℕ → ℕ → Printed → Type 0
CountsIn old new printed.ReadFault = Rose old new
CountsIn old new _ = new ≡ old

-- the sink's count of faults rises where the answer is WriteFault, and nowhere else; that of its shortages may where it is
-- Memory, and nowhere else
abbrev pub CountsOut : SinkCounts → SinkCounts → Printed → Type 0
CountsOut old new printed.WriteFault = Rose old.faults new.faults × (new.shortages ≡ old.shortages)
CountsOut old new printed.Memory = (new.faults ≡ old.faults) × (old.shortages ≤ new.shortages)
CountsOut old new _ = new ≡ old
