use Rattle.std.proofs.Common.{◌≡◌, sym, subst, ◌∙◌, ap}
use Rattle.std.specs.Str.{IsUtf8}
use Rattle.mz_lexer.specs.Texts.{meaning}
use Rattle.mz_lexer.proofs.Meanings.{meaning_utf8}
use Rattle.mz_lexer.proofs.piece.meant_piece.Goals as goal

pub unreachable-requires : goal.unreachable-requires
unreachable-requires c =
    let meant : c.deref.result.now ≡ meaning c.args.content.now = c.deref.ensures.value ∙ c.in_ok-value.ensures ∙ ap meaning c.as_bytes.ensures.value in
    c.in-Err.ensures.cases.0 (subst IsUtf8 (sym meant) (meaning_utf8 c.args.content.now c.utf8.content))
