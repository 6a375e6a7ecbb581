use Rattle.std.proofs.Common.{◌≡◌, ◌≤◌, length, map}
use Rattle.mz_tree.specs.Data.{value}
use Rattle.mz_grammar.specs.RulesReading.{with_prefix}
use Rattle.mz_grammar.specs.Data.{reads, index_sets}
use Rattle.mz_dzn.proofs.list.index_sets.Given as goal

abbrev pub invariant-loop-left : goal.invariant-loop-left
invariant-loop-left l = record {
  reads : with_prefix (map value l.all.items) (reads (index_sets l.left) l.cur.room l.cur.rest.now) ≡ reads (index_sets l.initial.dimensions) l.initial.cur.room l.initial.cur.rest.now;
  room : l.cur.room ≡ l.initial.cur.room;
  end : l.cur.end ≡ l.initial.cur.end;
  shorter : length l.cur.rest.now ≤ length l.initial.cur.rest.now;
}

abbrev pub decreases-loop-left : goal.decreases-loop-left
decreases-loop-left l = l.left
