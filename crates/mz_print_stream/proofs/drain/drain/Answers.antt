use Rattle.std.proofs.Common.{map}
use Rattle.mz_value.specs.Contents.{content}
use Rattle.soln_reader.specs.Views.{state}
use Rattle.mz_print_stream.proofs.Drains.{keeps_none, block_stops, mark_stops, bad_stops, need_waits, end_waits, block_goes, mark_goes, few_event, few_need, few_end, few_bad, counts_go, counts_stop}
use Rattle.mz_print_stream.proofs.Feeding.{event_takes}
use Rattle.mz_print_stream.proofs.Fits.{block_taken, ready_event, ready_need, ready_end}
use Rattle.std.proofs.Common.{refl, arith}
use Rattle.mz_print_stream.proofs.drain.drain.Goals as goal

pub events-init : goal.events-init
events-init g c = record { keeps = keeps_none _ _ _ _ _; ready = c.requires.ready; counts = refl }

pub events-smaller-in-Block : goal.events-smaller-in-Block
events-smaller-in-Block g c = event_takes _ (state c.events.reader) (state c.next.new.self) _ c.in-Block.ensures.answers

pub events-smaller : goal.events-smaller
events-smaller g c = event_takes _ (state c.events.reader) (state c.next.new.self) _ c.in-Mark.ensures.answers

pub events-preserved-in-Block : goal.events-preserved-in-Block
events-preserved-in-Block g c = record {
  keeps = block_goes _ _ _ _ _ (state c.events.reader) (state c.next.new.self) c.events.blocks _ _ (map content c.in-Block.assign.values.items) c.send_block.result c.in_default.not-Err c.events.invariant.keeps c.in-Block.ensures.answers c.next.ensures.few c.send_block.ensures.sends;
  ready = ready_event _ _ (state c.events.reader) (state c.next.new.self) _ c.events.invariant.ready c.in-Block.ensures.answers;
  counts = counts_go _ _ _ c.send_block.result c.in_default.not-Err c.events.invariant.counts c.send_block.ensures.counted;
}

pub events-preserved : goal.events-preserved
events-preserved g c = record {
  keeps = mark_goes _ _ _ _ _ (state c.events.reader) (state c.next.new.self) c.events.blocks _ _ c.in-Mark.mark c.send_mark.result c.in_default-send_mark.not-Err c.events.invariant.keeps c.in-Mark.ensures.answers c.next.ensures.few c.send_mark.ensures.sends;
  ready = ready_event _ _ (state c.events.reader) (state c.next.new.self) _ c.events.invariant.ready c.in-Mark.ensures.answers;
  counts = counts_go _ _ _ c.send_mark.result c.in_default-send_mark.not-Err c.events.invariant.counts c.send_mark.ensures.counted;
}

pub returns-in-Err : goal.returns-in-Err
returns-in-Err g c = record {
  drains = block_stops _ _ _ _ _ (state c.events.reader) (state c.next.new.self) c.events.blocks _ _ (map content c.in-Block.assign.values.items) c.in-Err.end c.events.invariant.keeps c.in-Block.ensures.answers c.in-Err.ensures.sends;
  few = few_event _ _ (state c.events.reader) (state c.next.new.self) _ c.events.blocks _ _ c.events.invariant.keeps.few c.in-Block.ensures.answers (omega arith) c.next.ensures.few;
  counted = counts_stop _ _ _ c.in-Err.end c.events.invariant.counts c.in-Err.ensures.counted;
  ready = tt;
}

pub returns-in-Err-send_mark : goal.returns-in-Err-send_mark
returns-in-Err-send_mark g c = record {
  drains = mark_stops _ _ _ _ _ (state c.events.reader) (state c.next.new.self) c.events.blocks _ _ c.in-Mark.mark c.in-Err-send_mark.end c.events.invariant.keeps c.in-Mark.ensures.answers c.in-Err-send_mark.ensures.sends;
  few = few_event _ _ (state c.events.reader) (state c.next.new.self) _ c.events.blocks _ _ c.events.invariant.keeps.few c.in-Mark.ensures.answers (omega arith) c.next.ensures.few;
  counted = counts_stop _ _ _ c.in-Err-send_mark.end c.events.invariant.counts c.in-Err-send_mark.ensures.counted;
  ready = tt;
}

pub returns-in-Need : goal.returns-in-Need
returns-in-Need g c = record {
  drains = need_waits _ _ _ _ _ (state c.events.reader) (state c.next.new.self) c.events.blocks _ _ c.events.invariant.keeps c.in-Need.ensures.answers;
  few = few_need _ _ (state c.events.reader) (state c.next.new.self) _ c.events.blocks c.events.invariant.keeps.few c.in-Need.ensures.answers c.next.ensures.few;
  counted = c.events.invariant.counts;
  ready = ready_need _ _ (state c.events.reader) (state c.next.new.self) c.events.invariant.ready c.in-Need.ensures.answers;
}

pub returns-in-End : goal.returns-in-End
returns-in-End g c = record {
  drains = end_waits _ _ _ _ _ (state c.events.reader) (state c.next.new.self) c.events.blocks _ _ c.events.invariant.keeps c.in-End.ensures.answers;
  few = few_end _ _ (state c.events.reader) (state c.next.new.self) _ c.events.blocks c.events.invariant.keeps.few c.in-End.ensures.answers c.next.ensures.few;
  counted = c.events.invariant.counts;
  ready = ready_end _ _ (state c.events.reader) (state c.next.new.self) c.events.invariant.ready c.in-End.ensures.answers;
}

pub returns-in-Bad : goal.returns-in-Bad
returns-in-Bad g c = record {
  drains = bad_stops _ _ _ _ _ (state c.events.reader) (state c.next.new.self) c.events.blocks _ _ c.events.invariant.keeps c.in-Bad.ensures.answers;
  few = few_bad _ _ (state c.events.reader) (state c.next.new.self) _ c.events.blocks _ c.events.invariant.keeps.few c.in-Bad.ensures.answers.2 c.next.ensures.few;
  counted = c.events.invariant.counts;
  ready = tt;
}

pub send_block-requires : goal.send_block-requires
send_block-requires g c = block_taken _ _ (state c.events.reader) (state c.next.new.self) _ c.events.invariant.ready c.in-Block.ensures.answers
