use Rattle.std.proofs.Common.{◌≡◌, ◌≤◌, ◌∙◌, refl, ap, arith, length}
use Rattle.soln_reader.specs.Views.{state}
use Rattle.mz_print_stream.proofs.Drains.{counts_stop}
use Rattle.mz_print_stream.proofs.Fits.{ready_first}
use Rattle.mz_print_stream.proofs.Streams.{memory_promise, begins, fault_promise, stops, is_too_long, goes_on, last_done, last_stops, no_read_fault, in_done, out_done, out_stops, rose_from, fed_slice, buffer_is}
use Rattle.mz_print_stream.proofs.stream.print_stream.Goals.{in-Ok-drain, in-Err}
use Rattle.mz_print_stream.proofs.stream.print_stream.Goals as goal

pub returns-in_default : goal.returns-in_default
returns-in_default g c = record { printed = memory_promise _ _ _ _ _; counted = refl; counted_out = (refl, omega arith) }

pub pieces-init : goal.pieces-init
pieces-init g c = record {
  pieces = begins _ c.args.shapes.items _ _ _ c.new-reader.result c.new-reader.ensures;
  ready = ready_first _ c.args.shapes.items c.new-reader.result c.new-reader.ensures c.requires.shapes;
  buffer = omega (arith, c.in-Ok.ensures.len, c.in-Ok.buffer.ok.0);
  faults = refl;
  counts = refl;
}

pub returns-in-Failed : goal.returns-in-Failed
returns-in-Failed g c = record {
  printed = fault_promise _ _ _ _ (g.I.Source.left c.pieces.input) _ _ _ (state c.pieces.reader) c.pieces.blocks c.pieces.room c.take.new.buf c.pieces.invariant.pieces c.in-Failed.ensures.told;
  counted = rose_from _ _ _ c.pieces.invariant.faults c.in-Failed.ensures.counted;
  counted_out = c.pieces.invariant.counts;
}

pub returns-in-End : goal.returns-in-End
returns-in-End g c = elim c.match-drain.branch [
  | in-Ok-drain w ↦ record {
    printed = last_done _ _ _ _ (g.I.Source.left c.pieces.input) _ _ _ _ (state c.pieces.reader) (state c.drain.new.reader) c.pieces.blocks c.drain.new.blocks c.pieces.room c.take.new.buf tt _ c.pieces.invariant.pieces c.in-End.ensures.told w.result-is w.in-Ok-drain.ensures.drains;
    counted = in_done _ _ _ _ w.result-is c.pieces.invariant.faults c.in-End.ensures.counted;
    counted_out = out_done _ _ _ _ w.result-is c.pieces.invariant.counts w.in-Ok-drain.ensures.counted;
  }
  | in-Err w ↦ record {
    printed = last_stops _ _ _ _ (g.I.Source.left c.pieces.input) _ _ _ _ (state c.pieces.reader) (state c.drain.new.reader) c.pieces.blocks c.drain.new.blocks c.pieces.room c.take.new.buf w.in-Err.end _ c.pieces.invariant.pieces c.in-End.ensures.told w.result-is w.in-Err.ensures.drains;
    counted = no_read_fault _ _ _ (state c.drain.new.reader) _ c.drain.new.blocks _ _ _ _ _ w.in-Err.end _ w.result-is w.in-Err.ensures.drains c.pieces.invariant.faults c.in-End.ensures.counted;
    counted_out = out_stops _ _ _ w.in-Err.end _ w.result-is c.pieces.invariant.counts w.in-Err.ensures.counted;
  }
]

pub returns-in-Err-print_piece : goal.returns-in-Err-print_piece
returns-in-Err-print_piece g c =
    let same : length c.take.new.buf ≡ length c.pieces.buffer.items = c.take.auto.buf ∙ ap length c.as_mut_slice.ensures.value in
    let fits : c.in-Some.n ≤ length c.take.new.buf = omega (arith, c.in-Some.ensures.within.1, c.take.auto.buf) in
    let from = fed_slice c.min-within.result c.pieces.buffer.len c.take.new.buf c.pieces.buffer.items c.as_slice.result.now c.as_slice.ensures.value (omega (arith, same, c.pieces.buffer.ok.0)) in
    record {
      printed = stops _ _ _ _ (g.I.Source.left c.pieces.input) _ _ _ _ (state c.pieces.reader) (state c.print_piece.new.reader) c.pieces.blocks c.print_piece.new.blocks c.pieces.room c.in-Some.n c.min-within.result c.take.new.buf _ c.in-Err-print_piece.end c.pieces.invariant.pieces c.in-Some.ensures.told fits (same ∙ c.pieces.invariant.buffer) c.min-within.ensures from c.in-Err-print_piece.ensures.drains;
      counted = no_read_fault _ _ _ (state c.print_piece.new.reader) _ c.print_piece.new.blocks _ _ _ _ _ c.in-Err-print_piece.end _ refl c.in-Err-print_piece.ensures.drains c.pieces.invariant.faults c.in-Some.ensures.counted;
      counted_out = counts_stop _ _ _ c.in-Err-print_piece.end c.pieces.invariant.counts c.in-Err-print_piece.ensures.counted;
    }

pub returns-then-within-n : goal.returns-then-within-n
returns-then-within-n g c =
    let same : length c.take.new.buf ≡ length c.pieces.buffer.items = c.take.auto.buf ∙ ap length c.as_mut_slice.ensures.value in
    let fits : c.in-Some.n ≤ length c.take.new.buf = omega (arith, c.in-Some.ensures.within.1, c.take.auto.buf) in
    let from = fed_slice c.min-within.result c.pieces.buffer.len c.take.new.buf c.pieces.buffer.items c.as_slice.result.now c.as_slice.ensures.value (omega (arith, same, c.pieces.buffer.ok.0)) in
    record {
      printed = is_too_long _ _ _ _ (g.I.Source.left c.pieces.input) _ _ _ _ (state c.pieces.reader) (state c.print_piece.new.reader) c.pieces.blocks c.print_piece.new.blocks c.pieces.room c.in-Some.n c.min-within.result c.take.new.buf _ tt c.too_long.result c.too_long.ensures c.pieces.invariant.pieces c.in-Some.ensures.told fits (same ∙ c.pieces.invariant.buffer) c.min-within.ensures c.if-within-n.true from c.in_default-print_piece.ensures.drains;
      counted = c.in-Some.ensures.counted ∙ c.pieces.invariant.faults;
      counted_out = c.in_default-print_piece.ensures.counted ∙ c.pieces.invariant.counts;
    }

pub pieces-preserved : goal.pieces-preserved
pieces-preserved g c =
    let same : length c.take.new.buf ≡ length c.pieces.buffer.items = c.take.auto.buf ∙ ap length c.as_mut_slice.ensures.value in
    let fits : c.in-Some.n ≤ length c.take.new.buf = omega (arith, c.in-Some.ensures.within.1, c.take.auto.buf) in
    let from = fed_slice c.min-within.result c.pieces.buffer.len c.take.new.buf c.pieces.buffer.items c.as_slice.result.now c.as_slice.ensures.value (omega (arith, same, c.pieces.buffer.ok.0)) in
    record {
      pieces = goes_on _ _ _ _ (g.I.Source.left c.pieces.input) _ _ _ _ (state c.pieces.reader) (state c.print_piece.new.reader) c.pieces.blocks c.print_piece.new.blocks c.pieces.room c.in-Some.n c.min-within.result c.take.new.buf _ tt c.pieces.invariant.pieces c.in-Some.ensures.told fits c.min-within.ensures c.if-within-n.false from c.in_default-print_piece.ensures.drains c.print_piece.ensures.few;
      ready = c.in_default-print_piece.ensures.ready;
      buffer = ap length (buffer_is c.pieces.buffer.len c.take.new.buf c.pieces.buffer.items (omega (arith, same, c.pieces.buffer.ok.0))) ∙ (same ∙ c.pieces.invariant.buffer);
      faults = c.in-Some.ensures.counted ∙ c.pieces.invariant.faults;
      counts = c.in_default-print_piece.ensures.counted ∙ c.pieces.invariant.counts;
    }

pub pieces-smaller : goal.pieces-smaller
pieces-smaller g c = omega (arith, c.if-within-n.false, c.in-Some.ensures.within.0, c.min-within.ensures)
