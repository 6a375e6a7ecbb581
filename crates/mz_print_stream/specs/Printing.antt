-- What is written of a solver's stream.
use Rattle.std.specs.Prelude.{◌≡◌, ℕ, ◌+◌, ◌-◌, ◌≤◌, List, [], ◌∷◌, ◌++◌, length, take, Bool, false, nat_eq, nat_le, nat_lt, not, ◌&&◌, Option, Some, None, codes, if◌then◌else◌, slice_index, pos, Result, Ok, Err, Vec}
use Rattle.std.specs.declared.alloc.Global.{Global}
use Rattle.mz_base.specs.declared.fault.Fault.{Fault}
use Rattle.mz_base.specs.declared.kind.Kind.TheVariants.{TooLong}
use Rattle.mz_base.specs.declared.stop.Stop.{Stop}
use Rattle.mz_base.specs.declared.stop.Stop.TheVariants as stop
use Rattle.mz_value.specs.Contents.{Content}
use Rattle.fz_items.specs.Forms.{Form}
use Rattle.soln_reader.specs.declared.next.Mark.{Mark}
use Rattle.soln_reader.specs.declared.next.Mark.TheVariants.{Complete, Unsatisfiable, Unknown, Unbounded, UnsatOrUnbounded, Error}
use Rattle.soln_reader.specs.Stream.{Event, block, mark, mark_of}
use Rattle.soln_reader.specs.Values.{AreValues}
use Rattle.soln_reader.specs.Reader.{bad_line}
use Rattle.mz_print_stream.specs.Reading.{Close, complete, bad_at, cut, Reads, first_place}

-- texts

-- a solution's text, or why it has none
pub data Text : Type 0 where
  says : List ℕ → Text
  refuses : Fault → Text

-- the text of each solution, by its values and its number among the stream's blocks, from 1
abbrev pub Texts : Type 0
Texts = List Content → ℕ → Text

-- what is answered for a text; out of memory says nothing
abbrev pub Says : Text → Result (Vec ℕ Global) Stop → Type 0
Says t (Ok bytes) = t ≡ says bytes.items
Says t (Err (stop.Refused f)) = t ≡ refuses f
Says t (Err stop.Memory) = Unit {0}

-- values of some forms that a printer takes
pub record AreTaken (takes : List Form → Type 0) (xs : List Content) : Type 0 where
  pub forms : List Form
  pub taken : takes forms
  pub fit : AreValues forms xs

-- a text that isn't empty and doesn't end with a newline
abbrev pub lacks_newline : List ℕ → Bool
lacks_newline t = nat_lt 0 (length t) && not (nat_eq (slice_index t (length t - 1)) 10)

abbrev pub with_newline : List ℕ → List ℕ
with_newline t = if lacks_newline t then t ++ codes "\n" else t

-- a block is written as its text and the line that ends it
abbrev pub block_lines : List ℕ → List ℕ
block_lines t = with_newline t ++ codes "----------\n"

abbrev pub mark_text : Mark → List ℕ
mark_text Complete = codes "=========="
mark_text Unsatisfiable = codes "=====UNSATISFIABLE====="
mark_text Unknown = codes "=====UNKNOWN====="
mark_text Unbounded = codes "=====UNBOUNDED====="
mark_text UnsatOrUnbounded = codes "=====UNSATorUNBOUNDED====="
mark_text Error = codes "=====ERROR====="

abbrev pub mark_line : Mark → List ℕ
mark_line m = mark_text m ++ codes "\n"

-- what is written of some events, how many blocks there were up to there, and the fault of a text that ends it
pub record Written : Type 0 where
  pub bytes : List ℕ
  pub blocks : ℕ
  pub fault : Option Fault

abbrev pub nothing_written : ℕ → Written
nothing_written n = record { bytes = []; blocks = n; fault = None }

-- bytes, and then what is written
abbrev pub before : List ℕ → Written → Written
before bs w = record { bytes = bs ++ w.bytes; blocks = w.blocks; fault = w.fault }

-- the block with this number, and then what is written of those after it; nothing is after a text that is refused
abbrev pub block_before : Text → ℕ → Written → Written
block_before (says t) n w = before (block_lines t) w
block_before (refuses f) n w = record { bytes = []; blocks = n; fault = Some f }

-- WHAT IS WRITTEN OF THESE EVENTS, of which the first block is the one after this number
unfoldable pub output : Texts → ℕ → List Event → Written
output ts n [] = nothing_written n
output ts n (block xs ∷ es) = block_before (ts xs (n + 1)) (n + 1) (output ts (n + 1) es)
output ts n (mark m ∷ es) = before (mark_line m) (output ts n es)

-- whole streams

-- how the printing of a stream ends
pub data End : Type 0 where
  all_written : End
  refused : Fault → End

-- a stream of more bytes than its limit
abbrev pub too_long : Fault
too_long = record { kind = TooLong; span = record { file = 18446744073709551615; line = 1; col = 1; byte = 0 }; number = pos 0 }

abbrev pub end_by : Option Fault → Close → End
end_by (Some f) x = refused f
end_by None complete = all_written
end_by None (bad_at n) = refused (bad_line n)
end_by None cut = refused too_long

-- A WHOLE STREAM IS PRINTED as these bytes, and the printing ends so. Of one that is too long the bytes within the limit
-- count, as bytes after which more may come
pub record Prints (ts : Texts) (fs : List Form) (limit : ℕ) (stream out : List ℕ) (end : End) : Type 0 where
  pub events : List Event
  pub close : Close
  pub reads : Reads fs (nat_le (length stream) limit) first_place (take limit stream) events close
  pub bytes : out ≡ (output ts 0 events).bytes
  pub ends : end ≡ end_by (output ts 0 events).fault close

-- THE BYTES THAT WERE TAKEN ARE PRINTED, before more are: each block and mark of theirs is written
pub record PrintsSoFar (ts : Texts) (fs : List Form) (limit : ℕ) (taken out : List ℕ) : Type 0 where
  pub events : List Event
  pub within : length taken ≤ limit
  pub reads : Reads fs false first_place taken events cut
  pub bytes : out ≡ (output ts 0 events).bytes
  pub goes_on : (output ts 0 events).fault ≡ None

-- the most bytes that are taken at once
abbrev pub piece : ℕ
piece = 65536

-- THE PRINTING IS CUT SHORT: a prefix is written of what is to be written of the bytes that were taken, and in it all
-- that is to be written of those before the last piece. `ended` says that no more bytes come
pub record PrintsCut (ts : Texts) (fs : List Form) (limit : ℕ) (ended : Bool) (taken out : List ℕ) : Type 0 where
  pub events : List Event
  pub close : Close
  pub reads : Reads fs ended first_place (take limit taken) events close
  pub unwritten : List ℕ
  pub prefix : (output ts 0 events).bytes ≡ out ++ unwritten
  -- the bytes before the last piece, and what is written of them
  pub earlier : List ℕ
  pub last : List ℕ
  pub pieces : taken ≡ earlier ++ last
  pub short : length last ≤ piece
  pub text : List ℕ
  pub kept : PrintsSoFar ts fs limit earlier text
  pub more : List ℕ
  pub holds : out ≡ text ++ more

-- laws

-- a stream is printed in one way
abbrev pub HasOnePrinting : Type 0
HasOnePrinting = (ts : Texts) (fs : List Form) (limit : ℕ) (stream out other : List ℕ) (x y : End) → Prints ts fs limit stream out x → Prints ts fs limit stream other y → (out ≡ other) × (x ≡ y)

-- a mark that is written is read as that mark
abbrev pub MarksAreRead : Type 0
MarksAreRead = (m : Mark) → mark_of (mark_text m) ≡ Some m
