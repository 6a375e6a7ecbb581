-- Mirror of src/send.rt and src/drain.rt; private clauses only, and the law `drained_on`.
use Rattle.std.specs.Prelude.{◌≡◌, ◌≤◌, ◌⊎◌, ℕ, ◌+◌, List, [], ◌∷◌, ◌++◌, length, Bool, true, false, None, Result, Ok, Err}
use Rattle.mz_base.specs.declared.fault.Fault.{Fault}
use Rattle.mz_io.specs.Sink.{Held, SinkCounts, Adds, AddsPrefix}
use Rattle.mz_value.specs.Contents.{Content}
use Rattle.fz_items.specs.Forms.{Form}
use Rattle.soln_reader.specs.Stream.{Event, block}
use Rattle.soln_reader.specs.Values.{StateFits}
use Rattle.soln_reader.specs.Reader.{State, GivesEvent, Needs, Ends, FindsBad, bad_line}
use Rattle.mz_print_stream.specs.Reading.{Reads, first_place, cut}
use Rattle.mz_print_stream.specs.Printing.{Text, says, refuses, Texts, output, block_lines}
use Rattle.mz_print_stream.specs.Driving.{SoFar}
use Rattle.mz_print_stream.specs.Promises.{CountsOut}
use Rattle.mz_print_stream.specs.declared.printed.Printed.{Printed}
use Rattle.mz_print_stream.specs.declared.printed.Printed.TheVariants as printed

-- one piece, one text

-- whether some bytes go out, with the bytes that the sink held and holds
abbrev pub Sends : List ℕ → Held → Held → Result (Unit {0}) Printed → Type 0
Sends bytes old new (Ok x) = Adds old new bytes
Sends bytes old new (Err printed.WriteFault) = AddsPrefix old new bytes
Sends bytes old new (Err printed.Memory) = new ≡ old
Sends bytes old new (Err _) = ⊥

-- whether a block goes out
abbrev pub SendsBlock : Text → Held → Held → Result (Unit {0}) Printed → Type 0
SendsBlock t old new (Ok x) = (bytes : List ℕ) × (t ≡ says bytes) × Adds old new (block_lines bytes)
SendsBlock t old new (Err (printed.Refused f)) = (t ≡ refuses f) × (new ≡ old)
SendsBlock t old new (Err printed.WriteFault) = (bytes : List ℕ) × (t ≡ says bytes) × AddsPrefix old new (block_lines bytes)
SendsBlock t old new (Err printed.Memory) = new ≡ old
SendsBlock t old new (Err _) = ⊥

-- the count that an answer raises
abbrev pub CountsSent : SinkCounts → SinkCounts → Result (Unit {0}) Printed → Type 0
CountsSent old new (Ok x) = new ≡ old
CountsSent old new (Err end) = CountsOut old new end

-- a drain

-- a reader gives these events, one after the other
pub data GivesAll (ended : Bool) : State → List Event → State → Type 0 where
  none_yet : {s : State} → GivesAll ended s [] s
  one_more : {s u v : State} {es : List Event} {e : Event} → GivesAll ended s es u → GivesEvent ended u e v → GivesAll ended s (es ++ e ∷ []) v

-- these events, of which the first block is the one after number n, are given and written
pub record Drained (ts : Texts) (ended : Bool) (s : State) (n : ℕ) (old : Held) (es : List Event) (u : State) (m : ℕ) (new : Held) : Type 0 where
  pub given : GivesAll ended s es u
  pub goes_on : (output ts n es).fault ≡ None
  pub blocks : m ≡ (output ts n es).blocks
  pub adds : Adds old new (output ts n es).bytes

-- the reader has no event left
abbrev pub Waits : Bool → State → State → Type 0
Waits false u v = Needs false u v
Waits true u v = Ends true u v

-- why the stream is refused at a state after m blocks: a bad line, or a block whose text is refused
abbrev pub IsRefused : Texts → Bool → ℕ → State → Fault → Type 0
IsRefused ts ended m u f =
    ((n : ℕ) × (v : State) × (f ≡ bad_line n) × FindsBad ended u n v)
    ⊎ ((xs : List Content) × (v : State) × GivesEvent ended u (block xs) v × (ts xs (m + 1) ≡ refuses f))

-- a prefix goes out of what is to be written of some events
pub record CutIn (ts : Texts) (ended : Bool) (s : State) (n : ℕ) (old new : Held) : Type 0 where
  pub events : List Event
  pub after : State
  pub given : GivesAll ended s events after
  pub adds : AddsPrefix old new (output ts n events).bytes

-- some events are drained
pub record Drain (ts : Texts) (ended : Bool) (s : State) (n : ℕ) (old new : Held) : Type 0 where
  pub events : List Event
  pub at : State
  pub blocks : ℕ
  pub drained : Drained ts ended s n old events at blocks new

-- what a drain does, by its answer: from a state and a number of blocks to a state and a number of blocks
abbrev pub Drains : Texts → Bool → State → ℕ → Held → State → ℕ → Held → Result (Unit {0}) Printed → Type 0
Drains ts ended s n old v m new (Ok x) = (es : List Event) × (u : State) × Drained ts ended s n old es u m new × Waits ended u v
Drains ts ended s n old v m new (Err (printed.Refused f)) = (d : Drain ts ended s n old new) × IsRefused ts ended d.blocks d.at f
Drains ts ended s n old v m new (Err printed.WriteFault) = CutIn ts ended s n old new
Drains ts ended s n old v m new (Err printed.Memory) = Drain ts ended s n old new
Drains ts ended s n old v m new (Err _) = ⊥

-- how many blocks and lines there may be: each takes a byte or more
pub record IsFew (s : State) (n : ℕ) (u : State) (m : ℕ) : Type 0 where
  pub blocks : m + length u.bytes ≤ n + length s.bytes
  pub lines : u.lines + length u.bytes ≤ s.lines + length s.bytes

-- a reader of forms that the printer takes, which holds of the open block what fits them
pub record IsReady (takes : List Form → Type 0) (s : State) : Type 0 where
  pub taken : takes s.forms
  pub fits : StateFits s

-- what a drain's loop keeps
pub record Keeps (ts : Texts) (ended : Bool) (s : State) (n : ℕ) (old : Held) (u : State) (m : ℕ) (new : Held) : Type 0 where
  pub events : List Event
  pub drained : Drained ts ended s n old events u m new
  pub few : IsFew s n u m

-- pieces

-- A READER AND A SINK AFTER THESE BYTES: what was given of them is written
pub record Stands (ts : Texts) (ended : Bool) (fs : List Form) (taken : List ℕ) (s : State) (n : ℕ) (base held : Held) : Type 0 where
  pub events : List Event
  pub so_far : SoFar ended fs taken events s
  pub goes_on : (output ts 0 events).fault ≡ None
  pub blocks : n ≡ (output ts 0 events).blocks
  pub adds : Adds base held (output ts 0 events).bytes

-- the law: a drain of these bytes after which more are needed stands there again, and all of them is read and written
abbrev pub StandsOn : Type 0
StandsOn = (ts : Texts) (fs : List Form) (taken : List ℕ) (s u v : State) (n m : ℕ) (base old new : Held) (es : List Event) → Stands ts false fs taken s n base old → Drained ts false s n old es u m new → Needs false u v → (k : Stands ts false fs taken v m base new) × Reads fs false first_place taken k.events cut
