use Rattle.std.proofs.Common.{◌≡◌, ◌≤◌, length, map}
use Rattle.mz_tree.specs.Data.{value}
use Rattle.mz_grammar.specs.RulesReading.{with_prefix}
use Rattle.mz_grammar.specs.Data.{reads, plains}
use Rattle.mz_dzn.proofs.list.plains.Given as goal

abbrev pub invariant-loop-alloc : goal.invariant-loop-alloc
invariant-loop-alloc l = record {
  reads : with_prefix (map value l.all.items) (reads plains l.cur.room l.cur.rest.now) ≡ reads plains l.initial.cur.room l.initial.cur.rest.now;
  room : l.cur.room ≡ l.initial.cur.room;
  end : l.cur.end ≡ l.initial.cur.end;
  shorter : length l.cur.rest.now ≤ length l.initial.cur.rest.now;
}

abbrev pub decreases-loop-alloc : goal.decreases-loop-alloc
decreases-loop-alloc l = length l.cur.rest.now
