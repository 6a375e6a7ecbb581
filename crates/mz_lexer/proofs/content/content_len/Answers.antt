use Rattle.std.proofs.Common.{sym, ap, ◌∙◌, arith}
use Rattle.mz_lexer.specs.Texts.{content_step}
use Rattle.mz_lexer.proofs.Contents.{past, content_next, content_stops, content_end}
use Rattle.mz_lexer.proofs.content.content_len.Goals as goal

pub returns-in-None-clause-len : goal.returns-in-None-clause-len
returns-in-None-clause-len c =
    let bs = c.args.bytes.now in
    let i = c.loop-index.index in
    let stops = content_stops c.loop-index.escaped bs i (omega arith) (ap (content_step c.loop-index.escaped) (sym (past i bs)) ∙ sym c.in-None.ensures) in
    omega (arith, stops, c.loop-index.invariant)

pub loop-index-preserved : goal.loop-index-preserved
loop-index-preserved c =
    let bs = c.args.bytes.now in
    let i = c.loop-index.index in
    let next = content_next c.loop-index.escaped c.in-Some.next bs i (omega arith) (ap (content_step c.loop-index.escaped) (sym (past i bs)) ∙ sym c.in-Some.ensures) in
    omega (arith, next, c.loop-index.invariant)

pub returns-clause-len : goal.returns-clause-len
returns-clause-len c =
    omega (arith, content_end c.loop-index.escaped c.args.bytes.now c.loop-index.index (omega arith), c.loop-index.invariant)
