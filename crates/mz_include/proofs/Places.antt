-- The places of a file's tokens, and of its first fault, have the file's number.
use Rattle.std.proofs.Common.{◌≡◌, ℕ, ◌+◌, List, [], ◌∷◌, true, false, Bool, refl, ◌∙◌}
use Rattle.std.specs.Prelude.{Ok, Err, if◌then◌else◌}
use Rattle.mz_base.specs.declared.fault.Span.{Span}
use Rattle.mz_lexer.specs.declared.opening.Opening.{Opening}
use Rattle.mz_lexer.specs.Bytes.{is_newline}
use Rattle.mz_lexer.specs.Lexemes.{Lex, Outcome, with_token, passed, after}
use Rattle.mz_lexer.specs.Lexes.{Lexed, no_bytes, a_blank, a_line_comment, a_comment, a_token, left_out, past_limit, nothing_begins, in_a_text, comment}

passed_file : (at : Span) (b : ℕ) → (passed at b).file ≡ at.file
passed_file at b = go (is_newline b)
  where
    go : (c : Bool) → (let s : Span = (if c then (record { file = at.file; line = at.line + 1; col = 1; byte = at.byte + 1 }) else (record { file = at.file; line = at.line; col = at.col + 1; byte = at.byte + 1 })) in s.file ≡ at.file)
    go true = refl
    go false = refl

pub after_file : (at : Span) (bs : List ℕ) → (after at bs).file ≡ at.file
after_file at [] = refl
after_file at (b ∷ bs) = after_file (passed at b) bs ∙ passed_file at b

abbrev pub EachIn : ℕ → List Lex → Type 0
EachIn turn [] = Unit {0}
EachIn turn (t ∷ ts) = (t.span.file ≡ turn) × EachIn turn ts

abbrev IsIn : ℕ → Outcome → Type 0
IsIn turn (Ok ts) = EachIn turn ts
IsIn turn (Err f) = f.span.file ≡ turn

behind_token : (turn : ℕ) (t : Lex) (out : Outcome) → t.span.file ≡ turn → IsIn turn out → IsIn turn (with_token t out)
behind_token turn t (Ok ts) at h = (at, h)
behind_token turn t (Err f) at h = h

-- what the bytes at a place of the file give is in it
pub lexed_in : {opens : List Opening} {at : Span} {bs : List ℕ} {out : Outcome} (turn : ℕ) → Lexed opens at bs out → at.file ≡ turn → IsIn turn out
lexed_in turn no_bytes h = tt
lexed_in turn (a_blank {at = at} {b = b} e r) h = lexed_in turn r (passed_file at b ∙ h)
lexed_in turn (a_line_comment {at = at} c e g r) h = lexed_in turn r (after_file at (37 ∷ c) ∙ h)
lexed_in turn (a_comment {at = at} c e r) h = lexed_in turn r (after_file at (comment c) ∙ h)
lexed_in turn (a_token {at = at} w {out = out} s l i n r) h = behind_token turn _ out h (lexed_in turn r (after_file at w ∙ h))
lexed_in turn (left_out g) h = h
lexed_in turn (past_limit w bs n s l i o) h = h
lexed_in turn (nothing_begins g) h = h
lexed_in turn (in_a_text {at = at} {b = b} c bs e g s) h = after_file at (b ∷ c) ∙ h
