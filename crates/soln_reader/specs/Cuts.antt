-- A stream in pieces.
use Rattle.std.specs.Prelude.{◌≡◌, ℕ, List, [], ◌∷◌, ◌++◌, true, false, None}
use Rattle.fz_items.specs.Forms.{Form}
use Rattle.soln_reader.specs.Stream.{Place, Event, Ending, whole, bad, Stream}
use Rattle.soln_reader.specs.Reader.{State, start, fed, GivesEvent, Needs, Ends, FindsBad, Stops}

-- from a state on, a reader is fed these bytes, in pieces, is asked at any time, and is told the end after the last piece:
-- it gives these events, up to the end or to the first bad line
pub data Session : State → List ℕ → List Event → Ending → Type 0 where
  feeds : {s : State} (piece : List ℕ) {bytes : List ℕ} {es : List Event} {x : Ending} → Session (fed s piece) bytes es x → Session s (piece ++ bytes) es x
  gives_one : {s u : State} {e : Event} {bytes : List ℕ} {es : List Event} {x : Ending} → GivesEvent false s e u → Session u bytes es x → Session s bytes (e ∷ es) x
  needs_more : {s u : State} {bytes : List ℕ} {es : List Event} {x : Ending} → Needs false s u → Session u bytes es x → Session s bytes es x
  runs_short : {s u : State} {bytes : List ℕ} {es : List Event} {x : Ending} → Stops s u → Session u bytes es x → Session s bytes es x
  finds_bad : {s u : State} {n : ℕ} (bytes : List ℕ) → FindsBad false s n u → Session s bytes [] (bad n)
  gives_last : {s u : State} {e : Event} {es : List Event} {x : Ending} → GivesEvent true s e u → Session u [] es x → Session s [] (e ∷ es) x
  runs_short_last : {s u : State} {es : List Event} {x : Ending} → Stops s u → Session u [] es x → Session s [] es x
  finds_bad_last : {s u : State} {n : ℕ} → FindsBad true s n u → Session s [] [] (bad n)
  ends : {s u : State} → Ends true s u → Session s [] [] whole

-- a place and bytes have one list of events and one end
abbrev pub HasOneReading : Type 0
HasOneReading = (fs : List Form) (p : Place) (bs : List ℕ) (es ds : List Event) (x y : Ending) → Stream fs p bs es x → Stream fs p bs ds y → (es ≡ ds) × (x ≡ y)

-- what a reader gives of a stream is the stream's, however it was cut into pieces, and whenever the reader was asked
abbrev pub IsCutFreely : Type 0
IsCutFreely = (fs : List Form) (bytes : List ℕ) (es : List Event) (x : Ending) → Session (start fs) bytes es x → Stream fs (record { lines = 0; block = None }) bytes es x

-- two readings of the same bytes give the same, however they were cut
abbrev pub HasSameEvents : Type 0
HasSameEvents = (fs : List Form) (bytes : List ℕ) (es ds : List Event) (x y : Ending) → Session (start fs) bytes es x → Session (start fs) bytes ds y → (es ≡ ds) × (x ≡ y)
