-- Mirror of src/prefix.rt and the files that it calls; private clauses only. The tokens of a file's bytes, as the code finds them,
-- and the first fault.
use Rattle.std.specs.Prelude.{ℕ, zero, suc, ◌+◌, ◌-◌, List, [], ◌∷◌, take, drop, Bool, true, false, ◌&&◌, not, nat_eq, nat_le, codes, pos, Option, Some, None, Ok, Err, if◌then◌else◌}
use Rattle.std.specs.Option.{option_map}
use Rattle.std.specs.List.{take_while, prefix_len}
use Rattle.std.specs.Str.Lossy.{utf8_valid_len}
use Rattle.mz_base.specs.Faults.{start_of}
use Rattle.mz_base.specs.declared.fault.Span.{Span}
use Rattle.mz_base.specs.declared.kind.Kind.{Kind}
use Rattle.mz_base.specs.declared.kind.Kind.TheVariants.{Lexical, LeftOut, Bounds}
use Rattle.mz_base.specs.declared.keyword.Keyword.{Keyword}
use Rattle.mz_lexer.specs.declared.token.Symbol.{Symbol}
use Rattle.mz_lexer.specs.declared.opening.Opening.{Opening}
use Rattle.mz_lexer.specs.Bytes.{is_byte, quote, backslash, first_byte, second_byte, third_byte, is_blank, is_newline, is_hex_digit, is_octal_digit, is_left_out_byte}
use Rattle.mz_base.specs.Words.{is_letter, is_digit, is_word_byte}
use Rattle.mz_base.specs.Keywords.{keyword_of}
use Rattle.mz_lexer.specs.LeftOut.{is_left_out_keyword}
use Rattle.mz_lexer.specs.StepsSymbols.{symbol_at}
use Rattle.mz_lexer.specs.Numbers.{limit, number_of, goes_on}
use Rattle.mz_lexer.specs.Texts.{content_len, meaning}
use Rattle.mz_lexer.specs.Lexemes.{Lexeme, word, sym, ident, int, text, text_head, text_mid, text_tail, begins_piece, passed, after, fault, opens_behind, Outcome, with_token}

-- what some bytes begin with
pub data Prefix : Type 0 where
  -- a blank or a comment, of this many bytes
  gap : ℕ → Prefix
  -- a token of this many bytes
  token : Lexeme → ℕ → Prefix
  -- a fault after this many bytes
  refusal : Kind → ℕ → Prefix

abbrev pub keyword_or_name : List ℕ → ℕ → Option Keyword → Prefix
keyword_or_name w n None = token (ident w) n
keyword_or_name w n (Some k) = if is_left_out_keyword k then refusal LeftOut 0 else token (word k) n

-- the longest word at the beginning of bytes that begin with a letter
unfoldable pub word_prefix : List ℕ → Prefix
word_prefix bs = keyword_or_name (take_while is_word_byte bs) (prefix_len is_word_byte bs) (keyword_of (take_while is_word_byte bs))

-- a literal of a base, with its length
abbrev pub literal : ℕ → List ℕ → ℕ → Prefix
literal base ds n = if nat_le (number_of base ds) limit then token (int (pos (number_of base ds))) n else refusal Bounds 0

-- the longest literal at the beginning of bytes that begin with a digit
unfoldable pub number_prefix : List ℕ → Prefix
number_prefix bs =
    if is_byte (codes "0") (first_byte bs) && (is_byte (codes "x") (second_byte bs) && is_hex_digit (third_byte bs))
    then literal 16 (take_while is_hex_digit (drop 2 bs)) (2 + prefix_len is_hex_digit (drop 2 bs)) else
    if is_byte (codes "0") (first_byte bs) && (is_byte (codes "o") (second_byte bs) && is_octal_digit (third_byte bs))
    then literal 8 (take_while is_octal_digit (drop 2 bs)) (2 + prefix_len is_octal_digit (drop 2 bs)) else
    if goes_on (drop (prefix_len is_digit bs) bs) then refusal LeftOut 0
    else literal 10 (take_while is_digit bs) (prefix_len is_digit bs)

-- the piece of a text by its end: the flag says that it isn't the first, n is the length of its content
abbrev pub piece_end : Bool → List ℕ → ℕ → List ℕ → Prefix
piece_end later value n bs =
    if nat_eq (first_byte bs) quote then token (if later then text_tail value else text value) (n + 2) else
    if nat_eq (first_byte bs) backslash && is_byte (codes "(") (second_byte bs) then token (if later then text_mid value else text_head value) (n + 3)
    else refusal Lexical (n + 1)

-- the piece of a text with this content before these bytes
abbrev pub piece_of : Bool → List ℕ → ℕ → List ℕ → Prefix
piece_of later content n bs =
    if nat_eq (utf8_valid_len content) n then piece_end later (meaning content) n bs
    else refusal Lexical (utf8_valid_len content + 1)

-- the piece of a text after the quote or the parenthesis that begins it
unfoldable pub piece_prefix : Bool → List ℕ → Prefix
piece_prefix later bs = piece_of later (take (content_len bs) bs) (content_len bs) (drop (content_len bs) bs)

-- the bytes begin with `*/`
abbrev pub ends_comment : List ℕ → Bool
ends_comment bs = is_byte (codes "*") (first_byte bs) && is_byte (codes "/") (second_byte bs)

-- how many bytes there are up to the end of a comment, if it has one
unfoldable pub comment_len : List ℕ → Option ℕ
comment_len [] = None
comment_len (b ∷ bs) = if ends_comment (b ∷ bs) then Some 2 else option_map suc (comment_len bs)

-- a comment after its first two bytes
abbrev pub comment_of : Option ℕ → Prefix
comment_of None = refusal Lexical 0
comment_of (Some n) = gap (n + 2)

abbrev pub symbol_or_fault : ℕ → Option (Symbol × ℕ) → Prefix
symbol_or_fault b (Some s) = token (sym s.0) s.1
symbol_or_fault b None = if is_left_out_byte b then refusal LeftOut 0 else refusal Lexical 0

-- what some bytes begin with; the flag says that a `)` begins a piece of a text
unfoldable pub prefix_of : Bool → List ℕ → Prefix
prefix_of later bs =
    if is_blank (first_byte bs) then gap 1 else
    if is_letter (first_byte bs) then word_prefix bs else
    if is_digit (first_byte bs) then number_prefix bs else
    if nat_eq (first_byte bs) quote then piece_prefix false (drop 1 bs) else
    if later && is_byte (codes ")") (first_byte bs) then piece_prefix true (drop 1 bs) else
    if is_byte (codes "%") (first_byte bs) then gap (1 + prefix_len (λ b. not (is_newline b)) (drop 1 bs)) else
    if is_byte (codes "/") (first_byte bs) && is_byte (codes "*") (second_byte bs) then comment_of (comment_len (drop 2 bs))
    else symbol_or_fault (first_byte bs) (symbol_at (first_byte bs) (second_byte bs) (third_byte bs))

-- the rest is given by how many bytes of it belong to what comes first, and by what is open
abbrev pub prefix_then : List Opening → Span → List ℕ → Prefix → (ℕ → List Opening → Outcome) → Outcome
prefix_then opens at bs (gap n) rest = rest (n - 1) opens
prefix_then opens at bs (token x n) rest = with_token (record { lexeme = x; span = at; len = n }) (rest (n - 1) (opens_behind x opens))
prefix_then opens at bs (refusal kind n) rest = Err (fault kind (after at (take n bs)))

-- the outcome after this many first bytes, which belong to what stands before
unfoldable pub outcome_behind : ℕ → List Opening → Span → List ℕ → Outcome
outcome_behind more opens at [] = Ok []
outcome_behind (suc more) opens at (b ∷ bs) = outcome_behind more opens (passed at b) bs
outcome_behind zero opens at (b ∷ bs) = prefix_then opens at (b ∷ bs) (prefix_of (begins_piece opens) (b ∷ bs)) (λ more opens'. outcome_behind more opens' (passed at b) bs)

-- the outcome of bytes at a place, where this is open
unfoldable pub outcome_at : List Opening → Span → List ℕ → Outcome
outcome_at opens at bs = outcome_behind 0 opens at bs

-- the outcome of a file's bytes
unfoldable pub outcome_of : ℕ → List ℕ → Outcome
outcome_of file bytes = outcome_at [] (start_of file) bytes
