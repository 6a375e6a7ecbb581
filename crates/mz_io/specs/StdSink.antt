-- What a clause reads of a sink that writes to a writer of the system.
use Rattle.mz_io.specs.declared.std_sink.StdSink.{StdSink}
use Rattle.mz_io.specs.Sink.{SinkCounts}

-- the writer
abbrev pub writer_of : {W : Type 0} → StdSink W → W
writer_of sink = sink.writer

-- how often a put failed; none runs out of memory
abbrev pub counts_of : {W : Type 0} → StdSink W → SinkCounts
counts_of sink = record { faults = sink.faults; shortages = 0 }
