-- What writing a program answers.
use Rattle.std.specs.Prelude.{◌≡◌, ◌≤◌, ℕ, List}
use Rattle.mz_io.specs.Counts.{Rose}
use Rattle.mz_io.specs.Sink.{Held, SinkCounts, Adds, AddsPrefix}
use Rattle.fz_text.specs.declared.writer.Wrote.{Wrote}
use Rattle.fz_text.specs.declared.writer.Wrote.TheVariants.{All, Failed, Memory}

-- what an answer says of the bytes held: the text went out, a prefix of it may have, or none did
abbrev pub Writes : Held → Held → List ℕ → Wrote → Type 0
Writes old new text All = Adds old new text
Writes old new text Failed = AddsPrefix old new text
Writes old new text Memory = new ≡ old

-- an answer Failed raises the sink's faults, and no other does
abbrev pub WriteCounts : SinkCounts → SinkCounts → Wrote → Type 0
WriteCounts old new All = new ≡ old
WriteCounts old new Failed = Rose old.faults new.faults × (new.shortages ≡ old.shortages)
WriteCounts old new Memory = (new.faults ≡ old.faults) × (old.shortages ≤ new.shortages)
