use Rattle.std.proofs.Common.{◌≡◌, ◌≤◌, length, map}
use Rattle.mz_grammar.specs.RulesReading.{mapped, with_prefix}
use Rattle.mz_grammar.specs.declared.list.Closing.TheVariants as closing
use Rattle.mz_grammar.specs.Parts as parts
use Rattle.mz_grammar.specs.Reading.{reads}
use Rattle.mz_expr_operands.specs.Views.{argument}
use Rattle.mz_expr.proofs.parser.descent.Descent.strict.Given as goal

abbrev pub invariant-loop-cur : goal.invariant-loop-cur
invariant-loop-cur g l = record {
  reads : with_prefix (map argument l.all.items) (mapped (λ gs. map parts.strict gs) (reads (parts.generators closing.Paren) l.cur.room l.cur.rest.now)) ≡ with_prefix (map argument l.initial.all.items) (mapped (λ gs. map parts.strict gs) (reads (parts.generators closing.Paren) l.initial.cur.room l.initial.cur.rest.now));
  room : l.cur.room ≡ l.initial.cur.room;
  end : l.cur.end ≡ l.initial.cur.end;
  shorter : length l.cur.rest.now ≤ length l.initial.cur.rest.now;
}

abbrev pub decreases-loop-cur : goal.decreases-loop-cur
decreases-loop-cur g l = length l.cur.rest.now
