use Rattle.std.proofs.Common.{◌≡◌, length}
use Rattle.soln_reader.specs.Views.{state}
use Rattle.mz_print_stream.specs.StepsDrain.{IsReady, Keeps}
use Rattle.mz_print_stream.proofs.drain.drain.Given as goal

abbrev pub invariant-events : goal.invariant-events
invariant-events g l = record {
  keeps : Keeps (g.P.Printer.texts l.printer) l.ended (state l.initial.reader) l.initial.blocks (g.S.Sink.held l.initial.out) (state l.reader) l.blocks (g.S.Sink.held l.out);
  ready : IsReady (g.P.Printer.takes l.printer) (state l.reader);
  counts : g.S.Sink.counts l.out ≡ g.S.Sink.counts l.initial.out;
}

abbrev pub decreases-events : goal.decreases-events
decreases-events g l = length l.reader.bytes
