use Rattle.std.proofs.Common.{◌+◌, [], ◌∷◌, ◌++◌, drop, false, sym, ap, ◌∙◌, arith}
use Rattle.mz_lexer.specs.Texts.{meaning_from}
use Rattle.mz_lexer.proofs.Contents.{means_escape, means_byte, meaning_end}
use Rattle.mz_lexer.proofs.content.meaning.Goals as goal

pub loop-byte-preserved-then-begins_escape : goal.loop-byte-preserved-then-begins_escape
loop-byte-preserved-then-begins_escape c =
    means_escape c.loop-byte.escaped c.args.content.now c.loop-byte.value.items c.loop-byte.byte-index (omega arith) (sym c.begins_escape.ensures ∙ c.if-begins_escape.true) ∙ c.loop-byte.invariant

pub loop-byte-preserved : goal.loop-byte-preserved
loop-byte-preserved c =
    let items = c.in_ok-push.ensures.items in
    ap (λ us. us ++ meaning_from false (drop (c.loop-byte.byte-index + 1) c.args.content.now)) (items ∙ ap (λ b. c.loop-byte.value.items ++ b ∷ []) c.meant.ensures)
    ∙ means_byte c.loop-byte.escaped c.args.content.now c.loop-byte.value.items c.loop-byte.byte-index (omega arith) (sym c.begins_escape.ensures ∙ c.if-begins_escape.false) ∙ c.loop-byte.invariant

pub returns : goal.returns
returns c =
    sym (meaning_end c.loop-byte.escaped c.args.content.now c.loop-byte.value.items c.loop-byte.byte-index (omega arith)) ∙ c.loop-byte.invariant
