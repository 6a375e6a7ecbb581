use Rattle.std.proofs.Common.{◌≡◌, ◌-◌, length, take, drop, sym, subst}
use Rattle.std.specs.Prelude.{IfOk}
use Rattle.std.specs.Str.{IsUtf8}
use Rattle.mz_lexer.specs.Views.{prefix}
use Rattle.mz_lexer.proofs.Contents.{past}
use Rattle.mz_lexer.proofs.Pieces.{whole_piece}
use Rattle.mz_lexer.proofs.piece.piece_prefix.Goals as goal

pub returns-in-Ok-clause-shown : goal.returns-in-Ok-clause-shown
returns-in-Ok-clause-shown c =
    let bs = c.args.bytes.now in
    let n = c.content_len-len.result in
    let same = c.in-Ok.ensures.cases.0 in
    let shown = whole_piece c.args.later bs c.in-Ok.content.now (take (length bs - n) (drop n bs)) n c.content_len-len.ensures.len c.content_len-len.ensures.within same (past n bs) (subst IsUtf8 (sym same) c.in-Ok.ensures.cases.1) in
    subst (λ s. IfOk c.meant_piece.result (λ f. prefix c.meant_piece.new.names f ≡ s)) shown c.meant_piece.ensures.shown
