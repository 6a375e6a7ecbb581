use Rattle.std.proofs.Common.{◌≡◌, length}
use Rattle.fz_items.specs.Forms.{forms}
use Rattle.soln_reader.specs.Views.{state}
use Rattle.mz_print_stream.specs.StepsDrain.{IsReady}
use Rattle.mz_print_stream.specs.StepsStream.{Pieces}
use Rattle.mz_print_stream.proofs.stream.print_stream.Given as goal

abbrev pub invariant-pieces : goal.invariant-pieces
invariant-pieces g l = record {
  pieces : Pieces (g.P.Printer.texts l.printer) (forms l.fn.shapes.items) l.limit (g.I.Source.left l.initial.input) (g.I.Source.left l.input) (g.S.Sink.held l.initial.out) (g.S.Sink.held l.out) (state l.reader) l.blocks l.room;
  ready : IsReady (g.P.Printer.takes l.printer) (state l.reader);
  buffer : length l.buffer.items ≡ 65536;
  faults : g.I.Source.faults l.input ≡ g.I.Source.faults l.initial.input;
  counts : g.S.Sink.counts l.out ≡ g.S.Sink.counts l.initial.out;
}

abbrev pub decreases-pieces : goal.decreases-pieces
decreases-pieces g l = l.room
