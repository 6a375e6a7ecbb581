-- A sink in memory of which no put fails, as contracts see it.
use Rattle.std.specs.Prelude.{ℕ, List}
use Rattle.mz_io.specs.Sink.{SinkCounts}

-- the bytes held, and how many puts ran out of memory
pub record SureHeld : Type 0 where
  pub held : List ℕ
  pub shortages : ℕ

abbrev pub counts_of : SureHeld → SinkCounts
counts_of s = record { faults = 0; shortages = s.shortages }
