use Rattle.std.proofs.Common.{◌≡◌, ◌≤◌, length, map}
use Rattle.mz_tree.specs.Views.{generator}
use Rattle.mz_grammar.specs.RulesReading.{with_prefix}
use Rattle.mz_grammar.specs.Steps.{generators_at}
use Rattle.mz_expr.proofs.parser.descent.Descent.generators.Given as goal

abbrev pub invariant-loop-all : goal.invariant-loop-all
invariant-loop-all g l = record {
  reads : with_prefix (map generator l.all.items) (generators_at l.c l.cur.room l.cur.rest.now) ≡ generators_at l.c l.initial.cur.room l.initial.cur.rest.now;
  room : l.cur.room ≡ l.initial.cur.room;
  end : l.cur.end ≡ l.initial.cur.end;
  shorter : length l.cur.rest.now ≤ length l.initial.cur.rest.now;
}

abbrev pub decreases-loop-all : goal.decreases-loop-all
decreases-loop-all g l = length l.cur.rest.now
