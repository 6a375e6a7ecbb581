use Rattle.std.proofs.Common.{◌≡◌, ◌≤◌, length, map}
use Rattle.mz_tree.specs.Data.{value}
use Rattle.mz_grammar.specs.RulesReading.{with_prefix}
use Rattle.mz_grammar.specs.Data.{reads, ones}
use Rattle.mz_dzn.proofs.list.ones.Given as goal

abbrev pub invariant-loop-cur : goal.invariant-loop-cur
invariant-loop-cur l = record {
  reads : with_prefix (map value l.all.items) (reads ones l.cur.room l.cur.rest.now) ≡ reads ones l.initial.cur.room l.initial.cur.rest.now;
  room : l.cur.room ≡ l.initial.cur.room;
  end : l.cur.end ≡ l.initial.cur.end;
  shorter : length l.cur.rest.now ≤ length l.initial.cur.rest.now;
}

abbrev pub decreases-loop-cur : goal.decreases-loop-cur
decreases-loop-cur l = length l.cur.rest.now
