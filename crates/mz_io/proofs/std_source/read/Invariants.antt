use Rattle.std.specs.Io.KnownBytes.{Keeps}
use Rattle.mz_io.proofs.std_source.read.Given as goal

-- a read that was interrupted gave no byte
abbrev pub invariant-loop : goal.invariant-loop
invariant-loop g l = Keeps (g.R.Read.remaining l.fn.reader) (g.R.Read.remaining l.reader)
