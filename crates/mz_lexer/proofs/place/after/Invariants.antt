use Rattle.std.proofs.Common.{◌≡◌, ◌≤◌, ◌+◌, drop}
use Rattle.mz_lexer.specs.Lexemes.{after}
use Rattle.mz_lexer.proofs.place.after.Given as goal

abbrev pub invariant-loop-byte : goal.invariant-loop-byte
invariant-loop-byte l = record {
  place : after l.at (drop l.byte-index l.bytes) ≡ after l.fn.start l.bytes;
  line : l.at.line ≤ l.fn.start.line + l.byte-index;
  col : l.at.col ≤ l.fn.start.col + l.byte-index;
  byte : l.at.byte ≡ l.fn.start.byte + l.byte-index;
}
