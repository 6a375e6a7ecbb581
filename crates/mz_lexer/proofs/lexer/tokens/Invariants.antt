use Rattle.std.proofs.Common.{◌≡◌, map, length}
use Rattle.std.specs.Prelude.{All}
use Rattle.mz_base.specs.Names.{Grows}
use Rattle.mz_lexer.specs.Steps.{outcome_at, outcome_of}
use Rattle.mz_lexer.specs.Views.{lex, HasName}
use Rattle.mz_lexer.proofs.Steps.{with_tokens}
use Rattle.mz_lexer.proofs.lexer.tokens.Given as goal

abbrev pub invariant-loop-cursor : goal.invariant-loop-cursor
invariant-loop-cursor l = record {
  reads : with_tokens (map (lex l.names) l.tokens.items) (outcome_at l.opens l.cursor.at l.cursor.rest.now) ≡ outcome_of l.file l.bytes;
  named : All (HasName l.names) l.tokens.items;
  grows : Grows l.initial.names l.names;
}

abbrev pub decreases-loop-cursor : goal.decreases-loop-cursor
decreases-loop-cursor l = length l.cursor.rest.now
