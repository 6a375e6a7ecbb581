use Rattle.std.proofs.Common.{◌≡◌, ◌+◌, length}
use Rattle.mz_io.specs.AllBytes.{Took}
use Rattle.mz_io.proofs.all_bytes.read_all.Given as goal

abbrev pub invariant-pieces : goal.invariant-pieces
invariant-pieces g l = record {
  took : Took (g.I.Source.left l.initial.src) (g.I.Source.left l.src) l.bytes.items;
  counted : length l.bytes.items + l.room ≡ l.limit;
  buffer : length l.buffer.items ≡ 65536;
  faults : g.I.Source.faults l.src ≡ g.I.Source.faults l.initial.src;
}

abbrev pub decreases-pieces : goal.decreases-pieces
decreases-pieces g l = l.room
