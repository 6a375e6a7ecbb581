use Rattle.std.proofs.Common.{◌≡◌, ◌≤◌, length, map}
use Rattle.mz_grammar.specs.RulesReading.{with_prefix}
use Rattle.mz_grammar.specs.declared.list.Generators.TheVariants as generators
use Rattle.mz_grammar.specs.Parts as parts
use Rattle.mz_grammar.specs.Reading.{reads}
use Rattle.mz_expr_operands.specs.Views.{argument}
use Rattle.mz_expr.proofs.parser.descent.Descent.arguments.Given as goal

abbrev pub invariant-loop-generators : goal.invariant-loop-generators
invariant-loop-generators g l = record {
  reads : with_prefix (map argument l.all.items) (reads (parts.arguments l.generators) l.cur.room l.cur.rest.now) ≡ reads (parts.arguments generators.Possible) l.initial.cur.room l.initial.cur.rest.now;
  room : l.cur.room ≡ l.initial.cur.room;
  end : l.cur.end ≡ l.initial.cur.end;
  shorter : length l.cur.rest.now ≤ length l.initial.cur.rest.now;
}

abbrev pub decreases-loop-generators : goal.decreases-loop-generators
decreases-loop-generators g l = length l.cur.rest.now
