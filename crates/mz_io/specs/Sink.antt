-- What a sink tells of the bytes that it holds.
use Rattle.std.specs.Prelude.{◌≡◌, ◌++◌, ℕ, List, Option, Some, None}
use Rattle.mz_io.specs.declared.sink.Sent.{Sent}
use Rattle.mz_io.specs.declared.sink.Sent.TheVariants.{All, Failed, Memory}
use Rattle.mz_io.specs.Counts.{Rose, raised}

-- the bytes held; None where nothing is told
abbrev pub Held : Type 0
Held = Option (List ℕ)

-- how often a put failed, and how often it ran out of memory
pub record SinkCounts : Type 0 where
  pub faults : ℕ
  pub shortages : ℕ

-- the bytes held are those before and the piece, where they are told
abbrev pub Adds : Held → Held → List ℕ → Type 0
Adds None new piece = new ≡ None
Adds (Some old) new piece = new ≡ Some (old ++ piece)

-- the bytes held are those before and a prefix of the piece, where they are told
pub record AddsPrefix (old new : Held) (piece : List ℕ) : Type 0 where
  pub prefix : List ℕ
  pub back : List ℕ
  pub whole : piece ≡ prefix ++ back
  pub adds : Adds old new prefix

-- what an answer says of the bytes held
abbrev pub Puts : Held → Held → List ℕ → Sent → Type 0
Puts old new piece All = Adds old new piece
Puts old new piece Failed = AddsPrefix old new piece
Puts old new piece Memory = new ≡ old

-- the one count that an answer raises
abbrev pub Counts : SinkCounts → SinkCounts → Sent → Type 0
Counts old new All = new ≡ old
Counts old new Failed = Rose old.faults new.faults × (new.shortages ≡ old.shortages)
Counts old new Memory = Rose old.shortages new.shortages × (new.faults ≡ old.faults)

-- no put failed, and none ran out of memory
abbrev pub no_counts : SinkCounts
no_counts = record { faults = 0; shortages = 0 }

-- the one count that an answer raises, by one
abbrev pub counts_after : SinkCounts → Sent → SinkCounts
counts_after old All = old
counts_after old Failed = record old { faults = raised old.faults }
counts_after old Memory = record old { shortages = raised old.shortages }
