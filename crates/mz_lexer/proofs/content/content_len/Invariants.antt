use Rattle.std.proofs.Common.{◌≡◌, ◌+◌, drop, false}
use Rattle.mz_lexer.specs.Texts.{content_from}
use Rattle.mz_lexer.proofs.content.content_len.Given as goal

abbrev pub invariant-loop-index : goal.invariant-loop-index
invariant-loop-index l = content_from l.escaped (drop l.index l.bytes) + l.index ≡ content_from false l.bytes
