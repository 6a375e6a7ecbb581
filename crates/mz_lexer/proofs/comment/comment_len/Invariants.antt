use Rattle.std.proofs.Common.{◌≡◌, drop}
use Rattle.mz_lexer.specs.Steps.{comment_len}
use Rattle.mz_lexer.proofs.Comments.{farther}
use Rattle.mz_lexer.proofs.comment.comment_len.Given as goal

abbrev pub invariant-loop-index : goal.invariant-loop-index
invariant-loop-index l = farther l.index (comment_len (drop l.index l.bytes)) ≡ comment_len l.bytes
