use Rattle.std.proofs.Common.{◌≡◌, ◌≤◌, length}
use Rattle.mz_grammar.specs.Operators.{level_number}
use Rattle.mz_expr.specs.StepsClimb.{levels, climbing}
use Rattle.mz_expr_operands.specs.Views.{operand}
use Rattle.mz_expr.proofs.parser.descent.Descent.level.Given as goal

abbrev pub invariant-loop-k : goal.invariant-loop-k
invariant-loop-k g l = record {
  reads : climbing (levels l.done (level_number l.l)) (operand l.x) l.cur.room l.cur.rest.now ≡ climbing (levels l.initial.done (level_number l.l)) (operand l.initial.x) l.initial.cur.room l.initial.cur.rest.now;
  bound : l.done ≤ 13;
  room : l.cur.room ≡ l.initial.cur.room;
  end : l.cur.end ≡ l.initial.cur.end;
  shorter : length l.cur.rest.now ≤ length l.initial.cur.rest.now;
}

abbrev pub decreases-loop-k : goal.decreases-loop-k
decreases-loop-k g l = l.done
