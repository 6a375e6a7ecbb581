-- What was read so far, and then what the rest is read to, is what the whole is read to.
use Rattle.std.proofs.Common.{◌≡◌, ◌≤◌, length, map}
use Rattle.mz_tree.specs.Views.{declaration}
use Rattle.mz_grammar.specs.RulesReading.{with_prefix}
use Rattle.mz_grammar.specs.Parts as parts
use Rattle.mz_grammar.specs.Reading.{reads}
use Rattle.mz_parser.proofs.parameters.param_list.Given as goal

abbrev pub invariant-loop-alloc : goal.invariant-loop-alloc
invariant-loop-alloc l = record {
  reads : with_prefix (map declaration l.all.items) (reads parts.param_list l.cur.room l.cur.rest.now) ≡ reads parts.param_list l.fn.cur.room l.fn.cur.rest.now;
  room : l.cur.room ≡ l.fn.cur.room;
  end : l.cur.end ≡ l.fn.cur.end;
  shorter : length l.cur.rest.now ≤ length l.fn.cur.rest.now;
}

abbrev pub decreases-loop-alloc : goal.decreases-loop-alloc
decreases-loop-alloc l = length l.cur.rest.now
