use Rattle.std.proofs.Common.{◌≡◌, ◌≤◌, length, map}
use Rattle.mz_tree.specs.Views.{tree}
use Rattle.mz_grammar.specs.RulesReading.{with_prefix}
use Rattle.mz_grammar.specs.Parts as parts
use Rattle.mz_grammar.specs.Reading.{reads}
use Rattle.mz_expr.proofs.parser.descent.Descent.elements.Given as goal

abbrev pub invariant-loop-c : goal.invariant-loop-c
invariant-loop-c g l = record {
  reads : with_prefix (map tree l.all.items) (reads (parts.elements l.c) l.cur.room l.cur.rest.now) ≡ with_prefix (map tree l.initial.all.items) (reads (parts.elements l.c) l.initial.cur.room l.initial.cur.rest.now);
  room : l.cur.room ≡ l.initial.cur.room;
  end : l.cur.end ≡ l.initial.cur.end;
  shorter : length l.cur.rest.now ≤ length l.initial.cur.rest.now;
}

abbrev pub decreases-loop-c : goal.decreases-loop-c
decreases-loop-c g l = length l.cur.rest.now
