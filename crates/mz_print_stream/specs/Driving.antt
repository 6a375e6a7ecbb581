-- What a reader that is fed pieces has been fed and has given.
use Rattle.std.specs.Prelude.{◌≡◌, ℕ, List, [], ◌∷◌, ◌++◌, Bool, true, false, None}
use Rattle.fz_items.specs.Forms.{Form}
use Rattle.soln_reader.specs.Stream.{Event}
use Rattle.soln_reader.specs.Reader.{State, place, start, fed, GivesEvent, Needs, Ends, FindsBad}
use Rattle.mz_print_stream.specs.Reading.{Close, complete, bad_at, cut, Reads, first_place}

-- the bytes that may come where it is said whether more come: where none do, there are none
abbrev pub Agrees : Bool → Bool → List ℕ → Type 0
Agrees false e more = Unit {0}
Agrees true e more = (e ≡ true) × (more ≡ [])

-- A READER WAS FED THESE BYTES AND GAVE THESE EVENTS: all bytes are read to these events, and then to what the bytes that
-- it holds are read to, whichever bytes come after them
pub record SoFar (ended : Bool) (fs : List Form) (taken : List ℕ) (es : List Event) (s : State) : Type 0 where
  pub fresh : s.bad ≡ None
  pub forms : s.forms ≡ fs
  pub on : (e : Bool) (more : List ℕ) (ds : List Event) (x : Close) → Agrees ended e more → Reads fs e (place s) (s.bytes ++ more) ds x → Reads fs e first_place (taken ++ more) (es ++ ds) x

-- laws: how it begins, what keeps it, and what it tells of all that was taken

abbrev pub BeginsSo : Type 0
BeginsSo = (fs : List Form) → SoFar false fs [] [] (start fs)

abbrev pub StaysAsFed : Type 0
StaysAsFed = (fs : List Form) (taken piece : List ℕ) (es : List Event) (s : State) → SoFar false fs taken es s → SoFar false fs (taken ++ piece) es (fed s piece)

abbrev pub StaysAtTheEnd : Type 0
StaysAtTheEnd = (fs : List Form) (taken : List ℕ) (es : List Event) (s : State) → SoFar false fs taken es s → SoFar true fs taken es s

abbrev pub StaysAsGiven : Type 0
StaysAsGiven = (ended : Bool) (fs : List Form) (taken : List ℕ) (es : List Event) (s u : State) (e : Event) → SoFar ended fs taken es s → GivesEvent ended s e u → SoFar ended fs taken (es ++ e ∷ []) u

abbrev pub StaysAsNeeded : Type 0
StaysAsNeeded = (fs : List Form) (taken : List ℕ) (es : List Event) (s u : State) → SoFar false fs taken es s → Needs false s u → SoFar false fs taken es u

-- where more bytes are needed, all events were given
abbrev pub IsCutThere : Type 0
IsCutThere = (fs : List Form) (taken : List ℕ) (es : List Event) (s u : State) → SoFar false fs taken es s → Needs false s u → Reads fs false first_place taken es cut

-- so too at the end
abbrev pub IsCompleteThere : Type 0
IsCompleteThere = (fs : List Form) (taken : List ℕ) (es : List Event) (s u : State) → SoFar true fs taken es s → Ends true s u → Reads fs true first_place taken es complete

-- and at a bad line, whichever bytes come after it
abbrev pub IsBadThere : Type 0
IsBadThere = (ended : Bool) (fs : List Form) (taken : List ℕ) (es : List Event) (s u : State) (n : ℕ) → SoFar ended fs taken es s → FindsBad ended s n u → (e : Bool) (more : List ℕ) → Agrees ended e more → Reads fs e first_place (taken ++ more) es (bad_at n)
