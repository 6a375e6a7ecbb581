-- What is read of a solver's stream, or of those of its bytes that have come: blocks and marks, and where they leave off.
use Rattle.std.specs.Prelude.{◌≡◌, ℕ, ◌+◌, List, [], ◌∷◌, ◌++◌, Bool, true, false, Some, None}
use Rattle.fz_items.specs.Forms.{Form}
use Rattle.soln_reader.specs.Blocks.{Block}
use Rattle.soln_reader.specs.Stream.{Place, next_place, Event, Ending, whole, bad, Stream, leaves, gives, is_bad, has_line, after_line, line_outcome}

-- where a reading leaves off: the stream is over and no block is open, a line with this number is bad, or more bytes may
-- come and no whole line is left
pub data Close : Type 0 where
  complete : Close
  bad_at : ℕ → Close
  cut : Close

-- the end of a stream: its last line is bad where a block is open
abbrev pub at_end : ℕ → Block → Close
at_end n None = complete
at_end n (Some gs) = bad_at n

-- where no whole line is left
abbrev pub close_at : Bool → Place → Close
close_at false p = cut
close_at true p = at_end p.lines p.block

-- FROM A PLACE ON, THE BYTES ARE READ TO THESE BLOCKS AND MARKS. `ended` says that no more bytes come; without it the
-- bytes after the last newline are no line
pub data Reads (fs : List Form) (ended : Bool) : Place → List ℕ → List Event → Close → Type 0 where
  no_line : {p : Place} {bs : List ℕ} → has_line ended bs ≡ false → Reads fs ended p bs [] (close_at ended p)
  passes : {p : Place} {bs : List ℕ} {b : Block} {es : List Event} {x : Close} → has_line ended bs ≡ true → line_outcome fs p.block bs ≡ leaves b → Reads fs ended (next_place p b) (after_line bs) es x → Reads fs ended p bs es x
  an_event : {p : Place} {bs : List ℕ} {e : Event} {es : List Event} {x : Close} → has_line ended bs ≡ true → line_outcome fs p.block bs ≡ gives e → Reads fs ended (next_place p None) (after_line bs) es x → Reads fs ended p bs (e ∷ es) x
  a_bad_line : {p : Place} {bs : List ℕ} → has_line ended bs ≡ true → line_outcome fs p.block bs ≡ is_bad → Reads fs ended p bs [] (bad_at (p.lines + 1))

-- where a stream begins
abbrev pub first_place : Place
first_place = record { lines = 0; block = None }

-- laws

-- an ending of a whole stream, as a reading's close
abbrev pub IsEnding : Close → Ending → Type 0
IsEnding complete y = y ≡ whole
IsEnding (bad_at n) y = y ≡ bad n
IsEnding cut y = ⊥

-- what is read where no more bytes come is the stream
abbrev pub ReadsTheStream : Type 0
ReadsTheStream = (fs : List Form) (p : Place) (bs : List ℕ) (es : List Event) (x : Close) → Reads fs true p bs es x → (y : Ending) × IsEnding x y × Stream fs p bs es y

-- bytes are read in one way
abbrev pub HasOneReading : Type 0
HasOneReading = (fs : List Form) (ended : Bool) (p : Place) (bs : List ℕ) (es ds : List Event) (x y : Close) → Reads fs ended p bs es x → Reads fs ended p bs ds y → (es ≡ ds) × (x ≡ y)

-- a reading of these bytes
pub record IsRead (fs : List Form) (ended : Bool) (p : Place) (bs : List ℕ) : Type 0 where
  pub events : List Event
  pub close : Close
  pub reads : Reads fs ended p bs events close

-- all bytes are read in some way
abbrev pub EachIsRead : Type 0
EachIsRead = (fs : List Form) (ended : Bool) (p : Place) (bs : List ℕ) → IsRead fs ended p bs

-- as more bytes come, events are added to those before
abbrev pub AddsEvents : Type 0
AddsEvents = (fs : List Form) (ended : Bool) (p : Place) (bs more : List ℕ) (es ds : List Event) (x y : Close) → Reads fs false p bs es x → Reads fs ended p (bs ++ more) ds y → (later : List Event) × (ds ≡ es ++ later)
