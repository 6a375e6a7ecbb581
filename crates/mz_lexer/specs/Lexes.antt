-- The tokens of a file's bytes, and its first fault, in the language's own words.
use Rattle.std.specs.Prelude.{◌≡◌, ℕ, ◌<◌, ◌≤◌, List, [], ◌∷◌, ◌++◌, length, take, Bool, true, false, ◌&&◌, not, nat_eq, pos, codes, Ok, Err, if◌then◌else◌}
use Rattle.std.specs.List.{list_all}
use Rattle.std.specs.Str.{IsUtf8}
use Rattle.mz_base.specs.Words.{is_word, is_identifier}
use Rattle.mz_base.specs.declared.fault.Span.{Span}
use Rattle.mz_base.specs.declared.fault.Fault.{Fault}
use Rattle.mz_base.specs.declared.kind.Kind.TheVariants.{Lexical, LeftOut, Bounds}
use Rattle.mz_base.specs.declared.keyword.Keyword.{Keyword}
use Rattle.mz_lexer.specs.declared.token.Symbol.{Symbol}
use Rattle.mz_lexer.specs.declared.token.Symbol.TheVariants.{SRParen}
use Rattle.mz_lexer.specs.declared.opening.Opening.{Opening}
use Rattle.mz_lexer.specs.Bytes.{is_byte, newline, quote, backslash, first_byte, is_blank, is_newline, is_hex_digit, is_octal_digit, is_left_out_byte}
use Rattle.mz_base.specs.Words.{is_digit, is_word_byte}
use Rattle.mz_base.specs.Keywords.{keyword_text}
use Rattle.mz_lexer.specs.LeftOut.{is_left_out_keyword}
use Rattle.mz_lexer.specs.Symbols.{symbol_text}
use Rattle.mz_lexer.specs.Numbers.{limit, number_of, goes_on}
use Rattle.mz_lexer.specs.Texts.{is_plain, is_escape, escape_value}
use Rattle.mz_lexer.specs.Lexemes.{Lexeme, word, sym, ident, int, text, text_head, text_mid, text_tail, Lex, begins_piece, passed, after, fault, opens_behind, Outcome, with_token}
use Rattle.mz_base.specs.Faults.{start_of}

-- digits of a kind, and at least one
abbrev pub are_digits : (ℕ → Bool) → List ℕ → Bool
are_digits is_kind [] = false
are_digits is_kind (d ∷ ds) = is_kind d && list_all is_kind ds

-- what the bytes of a piece of a text mean: plain bytes mean themselves, and a backslash begins an escape
pub data Means : List ℕ → List ℕ → Type 0 where
  nothing : Means [] []
  a_byte : {b : ℕ} {bs v : List ℕ} → is_plain b ≡ true → Means bs v → Means (b ∷ bs) (b ∷ v)
  an_escape : {b : ℕ} {bs v : List ℕ} → is_escape b ≡ true → Means bs v → Means (backslash ∷ b ∷ bs) (escape_value b ∷ v)

-- the bytes of a piece of a text, which are UTF-8, and what they mean
pub record IsContent (bs v : List ℕ) : Type 0 where
  pub means : Means bs v
  pub utf8 : IsUtf8 bs

-- the bytes spell the token; the flag says that a `)` begins the next piece of a text
pub data Spells : Bool → List ℕ → Lexeme → Type 0 where
  an_identifier : {later : Bool} {w : List ℕ} → is_word w ≡ true
      → ((k : Keyword) → w ≡ keyword_text k → ⊥)
      → Spells later w (ident w)
  a_keyword : {later : Bool} (k : Keyword) → Spells later (keyword_text k) (word k)
  decimal : {later : Bool} {ds : List ℕ} → are_digits is_digit ds ≡ true
      → Spells later ds (int (pos (number_of 10 ds)))
  hexadecimal : {later : Bool} {ds : List ℕ} → are_digits is_hex_digit ds ≡ true
      → Spells later (codes "0x" ++ ds) (int (pos (number_of 16 ds)))
  octal : {later : Bool} {ds : List ℕ} → are_digits is_octal_digit ds ≡ true
      → Spells later (codes "0o" ++ ds) (int (pos (number_of 8 ds)))
  a_symbol : {later : Bool} (s : Symbol) → (later ≡ true → s ≡ SRParen → ⊥)
      → Spells later (symbol_text s) (sym s)
  a_text : {later : Bool} (bs : List ℕ) {v : List ℕ} → IsContent bs v
      → Spells later (quote ∷ (bs ++ quote ∷ [])) (text v)
  a_head : {later : Bool} (bs : List ℕ) {v : List ℕ} → IsContent bs v
      → Spells later (quote ∷ (bs ++ backslash ∷ codes "(")) (text_head v)
  a_middle : (bs : List ℕ) {v : List ℕ} → IsContent bs v
      → Spells true (codes ")" ++ (bs ++ backslash ∷ codes "(")) (text_mid v)
  a_tail : (bs : List ℕ) {v : List ℕ} → IsContent bs v
      → Spells true (codes ")" ++ (bs ++ quote ∷ [])) (text_tail v)

-- no token that begins where these bytes begin is longer
abbrev pub IsLongest : Bool → List ℕ → List ℕ → Type 0
IsLongest later w rest = (v behind : List ℕ) (x : Lexeme) → v ++ behind ≡ w ++ rest → Spells later v x → length v ≤ length w

-- a form that is left out by name begins here
pub data IsLeftOut : List ℕ → Type 0 where
  left_byte : {b : ℕ} (bs : List ℕ) → is_left_out_byte b ≡ true → is_byte (codes "/") b ≡ false → IsLeftOut (b ∷ bs)
  -- a `/` that is no `/\` and begins no comment
  left_slash : (bs : List ℕ) → nat_eq (first_byte bs) backslash ≡ false → is_byte (codes "*") (first_byte bs) ≡ false
      → IsLeftOut (codes "/" ++ bs)
  left_number : (ds bs : List ℕ) → are_digits is_digit ds ≡ true → goes_on bs ≡ true → IsLeftOut (ds ++ bs)
  left_keyword : (k : Keyword) (bs : List ℕ) → is_left_out_keyword k ≡ true → is_word_byte (first_byte bs) ≡ false
      → IsLeftOut (keyword_text k ++ bs)

-- a comment with this between its ends
abbrev pub comment : List ℕ → List ℕ
comment c = codes "/*" ++ (c ++ codes "*/")

-- The next `*/` stands after these bytes of a comment: so comments don't nest.
abbrev pub EndsFirst : List ℕ → Type 0
EndsFirst c = (v behind : List ℕ) → v ++ (codes "*/" ++ behind) ≡ c ++ codes "*/" → length c ≤ length v

-- whether a byte begins a piece of a text
abbrev pub opens_piece : Bool → ℕ → Bool
opens_piece later b = if nat_eq b quote then true else later && is_byte (codes ")") b

-- no blank, comment, token or piece of a text begins here, and no form that is left out by name
pub record NothingBegins (later : Bool) (bs : List ℕ) : Type 0 where
  pub no_blank : is_blank (first_byte bs) ≡ false
  pub no_line : is_byte (codes "%") (first_byte bs) ≡ false
  pub no_comment : (c behind : List ℕ) → comment c ++ behind ≡ bs → ⊥
  pub no_piece : opens_piece later (first_byte bs) ≡ false
  pub no_token : (v behind : List ℕ) (x : Lexeme) → v ++ behind ≡ bs → Spells later v x → ⊥
  pub no_left_out : IsLeftOut bs → ⊥

-- a piece of a text can neither go on nor end with these bytes
pub data IsStuck : List ℕ → Type 0 where
  at_the_end : IsStuck []
  at_newline : (bs : List ℕ) → IsStuck (newline ∷ bs)
  at_backslash : (bs : List ℕ) → is_escape (first_byte bs) ≡ false → is_byte (codes "(") (first_byte bs) ≡ false → IsStuck (backslash ∷ bs)
  at_no_character : {bs : List ℕ} → ((n : ℕ) → 0 < n → IsUtf8 (take n bs) → ⊥) → IsStuck bs

-- a newline or the end of the file
abbrev pub IsLineEnd : List ℕ → Type 0
IsLineEnd [] = Unit {0}
IsLineEnd (b ∷ bs) = is_newline b ≡ true

-- an integer isn't past the limit
abbrev pub IsInLimit : Lexeme → Type 0
IsInLimit (int (pos n)) = n ≤ limit
IsInLimit _ = Unit {0}

-- where this is open, at this place, the bytes are these tokens, or have this first fault
pub data Lexed : List Opening → Span → List ℕ → Outcome → Type 0 where
  no_bytes : {opens : List Opening} {at : Span} → Lexed opens at [] (Ok [])
  a_blank : {opens : List Opening} {at : Span} {b : ℕ} {bs : List ℕ} {out : Outcome} → is_blank b ≡ true
      → Lexed opens (passed at b) bs out
      → Lexed opens at (b ∷ bs) out
  a_line_comment : {opens : List Opening} {at : Span} (c : List ℕ) {bs : List ℕ} {out : Outcome} → list_all (λ b. not (is_newline b)) c ≡ true
      → IsLineEnd bs
      → Lexed opens (after at (codes "%" ++ c)) bs out
      → Lexed opens at (codes "%" ++ (c ++ bs)) out
  a_comment : {opens : List Opening} {at : Span} (c : List ℕ) {bs : List ℕ} {out : Outcome} → EndsFirst c
      → Lexed opens (after at (comment c)) bs out
      → Lexed opens at (comment c ++ bs) out
  a_token : {opens : List Opening} {at : Span} (w : List ℕ) {bs : List ℕ} {x : Lexeme} {out : Outcome} → Spells (begins_piece opens) w x
      → IsLongest (begins_piece opens) w bs
      → IsInLimit x
      → (IsLeftOut (w ++ bs) → ⊥)
      → Lexed (opens_behind x opens) (after at w) bs out
      → Lexed opens at (w ++ bs) (with_token (record { lexeme = x; span = at; len = length w }) out)
  left_out : {opens : List Opening} {at : Span} {bs : List ℕ} → IsLeftOut bs
      → Lexed opens at bs (Err (fault LeftOut at))
  past_limit : {opens : List Opening} {at : Span} (w bs : List ℕ) (n : ℕ) → Spells (begins_piece opens) w (int (pos n))
      → IsLongest (begins_piece opens) w bs
      → limit < n
      → (IsLeftOut (w ++ bs) → ⊥)
      → Lexed opens at (w ++ bs) (Err (fault Bounds at))
  nothing_begins : {opens : List Opening} {at : Span} {b : ℕ} {bs : List ℕ} → NothingBegins (begins_piece opens) (b ∷ bs)
      → Lexed opens at (b ∷ bs) (Err (fault Lexical at))
  in_a_text : {opens : List Opening} {at : Span} {b : ℕ} (c bs : List ℕ) {v : List ℕ} → opens_piece (begins_piece opens) b ≡ true
      → IsContent c v
      → IsStuck bs
      → Lexed opens at ((b ∷ c) ++ bs) (Err (fault Lexical (after at (b ∷ c))))

-- the bytes of a file are these tokens, in order
abbrev pub Lexes : ℕ → List ℕ → List Lex → Type 0
Lexes file bytes ts = Lexed [] (start_of file) bytes (Ok ts)

-- the first fault in the bytes of a file
abbrev pub IsFirstFault : ℕ → List ℕ → Fault → Type 0
IsFirstFault file bytes f = Lexed [] (start_of file) bytes (Err f)

-- the bytes of a file determine their tokens or their first fault, never both
abbrev pub IsDetermined : Type 0
IsDetermined = (file : ℕ) (bytes : List ℕ) (one other : Outcome) → Lexed [] (start_of file) bytes one → Lexed [] (start_of file) bytes other → one ≡ other

-- the word of every identifier token is an identifier of FlatZinc too
abbrev pub IdentifiersAreFlat : Type 0
IdentifiersAreFlat = (later : Bool) (bytes w : List ℕ) → Spells later bytes (ident w) → is_identifier w ≡ true
