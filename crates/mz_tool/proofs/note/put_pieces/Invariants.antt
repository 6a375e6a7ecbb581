use Rattle.std.proofs.Common.{◌≡◌, take}
use Rattle.std.specs.List.{flat_map}
use Rattle.mz_io.specs.Sink.{Adds}
use Rattle.mz_tool.specs.Status.{now}
use Rattle.mz_tool.proofs.note.put_pieces.Given as goal

-- The pieces so far went out, and no put failed.
abbrev pub invariant-loop-piece : goal.invariant-loop-piece
invariant-loop-piece g l = record {
  adds : Adds (g.E.Sink.held l.initial.notes) (g.E.Sink.held l.notes) (flat_map now (take l.piece-index l.pieces));
  counts : g.E.Sink.counts l.notes ≡ g.E.Sink.counts l.initial.notes;
}
