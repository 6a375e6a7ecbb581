-- Worked examples of outcomes.
use Rattle.std.proofs.Common.{◌≡◌, ℕ, [], ◌∷◌, refl}
use Rattle.std.specs.Prelude.{Ok, Err, pos, codes}
use Rattle.mz_base.specs.declared.fault.Span.{Span}
use Rattle.mz_base.specs.declared.kind.Kind.TheVariants.{Lexical, LeftOut, Bounds}
use Rattle.mz_lexer.specs.declared.token.Symbol.TheVariants.{SRimp, SDots}
use Rattle.mz_base.specs.Keywords.{keyword_of}
use Rattle.mz_lexer.specs.StepsSymbols.{symbol_at, less_at}
use Rattle.mz_lexer.specs.Texts.{content_from, meaning_from}
use Rattle.std.specs.Str.{is_utf8, chars}
use Rattle.std.proofs.Math.Utf8.{encode}
use Rattle.std.specs.Str.Lossy.{utf8_valid_len}
use Rattle.mz_lexer.specs.Lexemes.{sym, ident, int, text_head, text_tail, fault}
use Rattle.mz_lexer.specs.Steps.{prefix_of, word_prefix, number_prefix, piece_prefix, comment_len, outcome_of, outcome_at, outcome_behind}

-- a place on the first line
on_first : ℕ → ℕ → Span
on_first col byte = record { file = 0; line = 1; col = col; byte = byte }

longest_arrow : outcome_of 0 (codes "x<-1") ≡ Ok (record { lexeme = ident (codes "x"); span = on_first 1 0; len = 1 } ∷ record { lexeme = sym SRimp; span = on_first 2 1; len = 2 } ∷ record { lexeme = int (pos 1); span = on_first 4 3; len = 1 } ∷ [])
unfolding on_first outcome_of outcome_at outcome_behind prefix_of word_prefix number_prefix keyword_of symbol_at less_at
longest_arrow = refl

range_of_numbers : outcome_of 0 (codes "1..5") ≡ Ok (record { lexeme = int (pos 1); span = on_first 1 0; len = 1 } ∷ record { lexeme = sym SDots; span = on_first 2 1; len = 2 } ∷ record { lexeme = int (pos 5); span = on_first 4 3; len = 1 } ∷ [])
unfolding on_first outcome_of outcome_at outcome_behind prefix_of number_prefix symbol_at
range_of_numbers = refl

decimals_are_left_out : outcome_of 0 (codes " 1.5") ≡ Err (fault LeftOut (on_first 2 1))
unfolding on_first outcome_of outcome_at outcome_behind prefix_of number_prefix
decimals_are_left_out = refl

open_comment : outcome_of 0 (codes "var /*/") ≡ Err (fault Lexical (on_first 5 4))
unfolding on_first outcome_of outcome_at outcome_behind prefix_of word_prefix keyword_of comment_len
open_comment = refl

past_the_limit : outcome_of 0 (codes "0x2000000000000001") ≡ Err (fault Bounds (on_first 1 0))
unfolding on_first outcome_of outcome_at outcome_behind prefix_of number_prefix
past_the_limit = refl

lines_are_counted : outcome_of 7 (10 ∷ 32 ∷ 39 ∷ []) ≡ Err (fault LeftOut (record { file = 7; line = 2; col = 2; byte = 2 }))
unfolding outcome_of outcome_at outcome_behind prefix_of symbol_at
lines_are_counted = refl

-- `"a\(b)"`
text_with_a_hole : outcome_of 0 (34 ∷ 97 ∷ 92 ∷ 40 ∷ 98 ∷ 41 ∷ 34 ∷ []) ≡ Ok (record { lexeme = text_head (codes "a"); span = on_first 1 0; len = 4 } ∷ record { lexeme = ident (codes "b"); span = on_first 5 4; len = 1 } ∷ record { lexeme = text_tail []; span = on_first 6 5; len = 2 } ∷ [])
unfolding on_first outcome_of outcome_at outcome_behind prefix_of word_prefix keyword_of piece_prefix content_from meaning_from utf8_valid_len is_utf8 chars encode
text_with_a_hole = refl
