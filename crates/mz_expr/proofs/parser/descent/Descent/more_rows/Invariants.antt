use Rattle.std.proofs.Common.{◌≡◌, ◌≤◌, length, map}
use Rattle.mz_tree.specs.Views.{tree_row}
use Rattle.mz_grammar.specs.RulesReading.{with_prefix}
use Rattle.mz_grammar.specs.Parts as parts
use Rattle.mz_grammar.specs.Reading.{reads}
use Rattle.mz_expr.proofs.parser.descent.Descent.more_rows.Given as goal

abbrev pub invariant-loop-cur : goal.invariant-loop-cur
invariant-loop-cur g l = record {
  reads : with_prefix (map tree_row l.all.items) (reads parts.more_rows l.cur.room l.cur.rest.now) ≡ with_prefix (map tree_row l.initial.all.items) (reads parts.more_rows l.initial.cur.room l.initial.cur.rest.now);
  room : l.cur.room ≡ l.initial.cur.room;
  end : l.cur.end ≡ l.initial.cur.end;
  shorter : length l.cur.rest.now ≤ length l.initial.cur.rest.now;
}

abbrev pub decreases-loop-cur : goal.decreases-loop-cur
decreases-loop-cur g l = length l.cur.rest.now
