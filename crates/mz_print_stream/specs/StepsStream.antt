-- Mirror of src/stream.rt; private clauses only.
use Rattle.std.specs.Prelude.{◌≡◌, ◌≤◌, ℕ, ◌+◌, List, [], ◌++◌, length, take, Bool, true, false}
use Rattle.mz_io.specs.Sink.{Held}
use Rattle.mz_io.specs.Source.{Left}
use Rattle.fz_items.specs.Forms.{Form}
use Rattle.soln_reader.specs.Reader.{State}
use Rattle.mz_print_stream.specs.Reading.{Reads, first_place, cut}
use Rattle.mz_print_stream.specs.Printing.{Texts, output, PrintsSoFar, piece}
use Rattle.mz_print_stream.specs.Promises.{Has, Gave}
use Rattle.mz_print_stream.specs.StepsDrain.{Stands}

-- WHAT THE LOOP OF PIECES KEEPS: the bytes taken were fed and read, what they give is written, and so many more may be fed
pub record Pieces (ts : Texts) (fs : List Form) (limit : ℕ) (source left : Left) (base held : Held) (s : State) (n room : ℕ) : Type 0 where
  pub taken : List ℕ
  pub gave : Gave source left taken
  pub stands : Stands ts false fs taken s n base held
  pub reads : Reads fs false first_place taken stands.events cut
  pub counted : length taken + room ≡ limit
  pub lines : s.lines + length s.bytes ≤ length taken
  pub blocks : n + length s.bytes ≤ length taken

-- a piece is taken and fed as far as the limit allows, or the end is found, and nothing of it is drained yet
pub record Reached (ts : Texts) (ended : Bool) (fs : List Form) (limit : ℕ) (source left : Left) (base held : Held) (s : State) (n : ℕ) : Type 0 where
  pub earlier : List ℕ
  pub last : List ℕ
  pub short : length last ≤ piece
  pub gave : Gave source left (earlier ++ last)
  pub over : ended ≡ true → Has left [] × (length (earlier ++ last) ≤ limit)
  pub bytes : List ℕ
  pub is : bytes ≡ take limit (earlier ++ last)
  pub stands : Stands ts ended fs bytes s n base held
  pub kept : PrintsSoFar ts fs limit earlier (output ts 0 stands.events).bytes
