use Rattle.std.proofs.Common.{◌≡◌, length, map}
use Rattle.mz_tree.specs.Data.{given}
use Rattle.mz_grammar.specs.RulesReading.{with_prefix}
use Rattle.mz_grammar.specs.Data.{reads, file, dimensions_of}
use Rattle.mz_dzn.proofs.file.file.Given as goal

abbrev pub invariant-loop-alloc : goal.invariant-loop-alloc
invariant-loop-alloc l = record {
  reads : with_prefix (map given l.all.items) (reads (file (dimensions_of l.names)) l.cur.room l.cur.rest.now) ≡ reads (file (dimensions_of l.names)) l.initial.cur.room l.initial.cur.rest.now;
  room : l.cur.room ≡ l.initial.cur.room;
  end : l.cur.end ≡ l.initial.cur.end;
}

abbrev pub decreases-loop-alloc : goal.decreases-loop-alloc
decreases-loop-alloc l = length l.cur.rest.now
