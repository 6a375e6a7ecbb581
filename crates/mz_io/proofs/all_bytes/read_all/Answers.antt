use Rattle.std.proofs.Common.{◌≡◌, ◌≤◌, ◌∙◌, [], refl, ap, arith, rules, length}
use Rattle.mz_io.proofs.Pieces.{took_first, took_more, took_all, has_more, taken_slice, buffer_length, appended_length}
use Rattle.mz_io.proofs.all_bytes.read_all.Goals as goal

pub pieces-init : goal.pieces-init
pieces-init g c =
    let empty : c.new-bytes.result.items ≡ [] = search rules in
    record {
      took = took_first _ c.new-bytes.result.items empty;
      counted = omega (arith, ap length empty);
      buffer = omega (arith, c.in-Ok.ensures.len, c.in-Ok.buffer.ok.0);
      faults = refl;
    }

pub returns-in-End : goal.returns-in-End
returns-in-End g c = record {
  all = (took_all _ (g.I.Source.left c.pieces.src) _ _ c.take.new.buf c.pieces.invariant.took c.in-End.ensures.told, omega (arith, c.pieces.invariant.counted));
  counted = c.in-End.ensures.counted ∙ c.pieces.invariant.faults;
}

pub returns-then-room-n : goal.returns-then-room-n
returns-then-room-n g c =
    let same : length c.take.new.buf ≡ length c.pieces.buffer.items = c.take.auto.buf ∙ ap length c.as_mut_slice.ensures.value in
    let fits : c.in-Some.n ≤ length c.take.new.buf = omega (arith, c.in-Some.ensures.within.1, c.take.auto.buf) in
    record {
      all = has_more _ (g.I.Source.left c.pieces.src) _ _ c.take.new.buf c.in-Some.n c.pieces.room _ c.pieces.invariant.took c.in-Some.ensures.told fits c.pieces.invariant.counted c.if-room-n.true;
      counted = c.in-Some.ensures.counted ∙ c.pieces.invariant.faults;
    }

pub pieces-preserved : goal.pieces-preserved
pieces-preserved g c =
    let same : length c.take.new.buf ≡ length c.pieces.buffer.items = c.take.auto.buf ∙ ap length c.as_mut_slice.ensures.value in
    let fits : c.in-Some.n ≤ length c.take.new.buf = omega (arith, c.in-Some.ensures.within.1, c.take.auto.buf) in
    let size : c.pieces.buffer.len ≡ length c.take.new.buf = omega (arith, same, c.pieces.buffer.ok.0) in
    let from = taken_slice c.in-Some.n c.pieces.buffer.len c.take.new.buf c.pieces.buffer.items c.as_slice.result.now c.as_slice.ensures.value size in
    let longer = appended_length c.pieces.bytes.items _ c.append.new.bytes.items c.take.new.buf c.in-Some.n from fits c.in-Ok-append.ensures in
    record {
      took = took_more _ (g.I.Source.left c.pieces.src) _ c.pieces.bytes.items c.take.new.buf _ c.append.new.bytes.items c.in-Some.n c.pieces.invariant.took c.in-Some.ensures.told from c.in-Ok-append.ensures;
      counted = omega (arith, longer, c.pieces.invariant.counted, c.if-room-n.false);
      buffer = buffer_length c.pieces.buffer.len c.take.new.buf c.pieces.buffer.items size ∙ (same ∙ c.pieces.invariant.buffer);
      faults = c.in-Some.ensures.counted ∙ c.pieces.invariant.faults;
    }
