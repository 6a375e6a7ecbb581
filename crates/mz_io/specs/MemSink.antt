-- A sink in memory, as contracts see it.
use Rattle.std.specs.Prelude.{ℕ, List, [], ◌++◌}
use Rattle.mz_io.specs.declared.sink.Sent.{Sent}
use Rattle.mz_io.specs.declared.sink.Sent.TheVariants.{All, Failed, Memory}
use Rattle.mz_io.specs.Counts.{raised}
use Rattle.mz_io.specs.Sink.{SinkCounts, counts_after}

-- the bytes held, the numbers of the calls that fail, and how many calls there were
pub record ByteSink : Type 0 where
  pub held : List ℕ
  pub failing : List ℕ
  pub calls : ℕ
  pub counts : SinkCounts

-- the bytes of a piece that an answer takes
abbrev pub taken : List ℕ → Sent → List ℕ
taken piece All = piece
taken piece Failed = []
taken piece Memory = []

-- the sink after a put: its number and its answer are counted, and nothing else changes
abbrev pub sink_after : ByteSink → List ℕ → Sent → ByteSink
sink_after old piece answer =
    record old {
      held = old.held ++ taken piece answer;
      calls = raised old.calls;
      counts = counts_after old.counts answer;
    }
