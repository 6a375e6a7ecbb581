use Rattle.std.proofs.Common.{◌≡◌, ◌≤◌, length}
use Rattle.mz_grammar.specs.RulesReading.{with_prefix}
use Rattle.mz_grammar.specs.Parts as parts
use Rattle.mz_grammar.specs.Reading.{reads}
use Rattle.mz_expr.proofs.parser.comprehension.more_names.Given as goal

abbrev pub invariant-loop-cur : goal.invariant-loop-cur
invariant-loop-cur l = record {
  reads : with_prefix l.all.items (reads parts.more_names l.cur.room l.cur.rest.now) ≡ with_prefix l.initial.all.items (reads parts.more_names l.initial.cur.room l.initial.cur.rest.now);
  room : l.cur.room ≡ l.initial.cur.room;
  end : l.cur.end ≡ l.initial.cur.end;
  shorter : length l.cur.rest.now ≤ length l.initial.cur.rest.now;
}

abbrev pub decreases-loop-cur : goal.decreases-loop-cur
decreases-loop-cur l = length l.cur.rest.now
