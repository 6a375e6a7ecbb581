use Rattle.std.proofs.Common.{◌≡◌, ◌++◌, drop, false}
use Rattle.mz_lexer.specs.Texts.{meaning_from}
use Rattle.mz_lexer.proofs.content.meaning.Given as goal

abbrev pub invariant-loop-byte : goal.invariant-loop-byte
invariant-loop-byte l = l.value.items ++ meaning_from l.escaped (drop l.byte-index l.content) ≡ meaning_from false l.content
