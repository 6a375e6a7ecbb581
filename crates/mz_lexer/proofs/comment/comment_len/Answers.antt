use Rattle.std.proofs.Common.{sym, ap, ◌∙◌, arith}
use Rattle.mz_lexer.specs.Steps.{ends_comment, comment_len}
use Rattle.mz_lexer.proofs.Contents.{past}
use Rattle.mz_lexer.proofs.Comments.{no_farther, ends_at, goes_on_at, no_end}
use Rattle.mz_lexer.proofs.comment.comment_len.Goals as goal

pub loop-index-init : goal.loop-index-init
loop-index-init c = no_farther (comment_len c.args.bytes.now)

pub loop-index-preserved : goal.loop-index-preserved
loop-index-preserved c =
    let bs = c.args.bytes.now in
    let i = c.loop-index.index in
    goes_on_at bs i (omega arith) (ap ends_comment (sym (past i bs)) ∙ sym c.ends_comment.ensures.value ∙ c.if-ends_comment.false) ∙ c.loop-index.invariant

pub returns-then-ends_comment-clause-len : goal.returns-then-ends_comment-clause-len
returns-then-ends_comment-clause-len c =
    let bs = c.args.bytes.now in
    let i = c.loop-index.index in
    sym (ends_at bs i (omega arith) (ap ends_comment (sym (past i bs)) ∙ sym c.ends_comment.ensures.value ∙ c.if-ends_comment.true)) ∙ c.loop-index.invariant

pub returns-clause-len : goal.returns-clause-len
returns-clause-len c = sym (no_end c.args.bytes.now c.loop-index.index (omega arith)) ∙ c.loop-index.invariant
