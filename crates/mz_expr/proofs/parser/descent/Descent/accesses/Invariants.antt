use Rattle.std.proofs.Common.{◌≡◌, ◌≤◌, length}
use Rattle.mz_grammar.specs.Parts as parts
use Rattle.mz_grammar.specs.Reading.{reads}
use Rattle.mz_expr_operands.specs.Views.{operand}
use Rattle.mz_expr.proofs.parser.descent.Descent.accesses.Given as goal

abbrev pub invariant-loop-cur : goal.invariant-loop-cur
invariant-loop-cur g l = record {
  reads : reads (parts.accesses (operand l.x)) l.cur.room l.cur.rest.now ≡ reads (parts.accesses (operand l.initial.x)) l.initial.cur.room l.initial.cur.rest.now;
  room : l.cur.room ≤ l.initial.cur.room;
  end : l.cur.end ≡ l.initial.cur.end;
  shorter : length l.cur.rest.now ≤ length l.initial.cur.rest.now;
}

abbrev pub decreases-loop-cur : goal.decreases-loop-cur
decreases-loop-cur g l = length l.cur.rest.now
