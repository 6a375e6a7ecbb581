-- The pieces of texts.
use Rattle.std.specs.Prelude.{ℕ, suc, List, [], ◌∷◌, Bool, true, false, ◌&&◌, ◌||◌, not, nat_eq, codes, Option, Some, None, if◌then◌else◌}
use Rattle.mz_lexer.specs.Bytes.{is_byte, newline, quote, backslash, first_byte, second_byte}

-- a byte of a text that stands for itself: no newline, no quote and no backslash
abbrev pub is_plain : ℕ → Bool
is_plain b = not (nat_eq b newline || (nat_eq b quote || nat_eq b backslash))

-- what may follow a backslash, but for the parenthesis: n, t, a quote and a backslash
abbrev pub is_escape : ℕ → Bool
is_escape b = is_byte (codes "n") b || (is_byte (codes "t") b || (nat_eq b quote || nat_eq b backslash))

-- what an escape means, by the byte after its backslash
abbrev pub escape_value : ℕ → ℕ
escape_value b = if is_byte (codes "n") b then newline else if is_byte (codes "t") b then 9 else b

-- whether plain bytes and escapes go on with the first byte, and then whether the next one is after a backslash; the flag says that this one is
abbrev pub content_step : Bool → List ℕ → Option Bool
content_step true bs = Some false
content_step false bs =
    if is_plain (first_byte bs) then Some false else
    if nat_eq (first_byte bs) backslash && is_escape (second_byte bs) then Some true else None

abbrev pub one_more : Option Bool → (Bool → ℕ) → ℕ
one_more None rest = 0
one_more (Some escaped) rest = suc (rest escaped)

-- how many bytes of plain bytes and escapes come first; the flag says that the first byte is after a backslash
unfoldable pub content_from : Bool → List ℕ → ℕ
content_from escaped [] = 0
content_from escaped (b ∷ bs) = one_more (content_step escaped (b ∷ bs)) (λ next. content_from next bs)

abbrev pub content_len : List ℕ → ℕ
content_len bs = content_from false bs

-- whether a backslash stands here that begins an escape
abbrev pub begins_escape : Bool → ℕ → Bool
begins_escape escaped b = nat_eq b backslash && not escaped

-- what a byte means; the flag says that it is after a backslash
abbrev pub meant : Bool → ℕ → ℕ
meant escaped b = if escaped then escape_value b else b

-- what plain bytes and escapes mean; the flag says that the first byte is after a backslash
unfoldable pub meaning_from : Bool → List ℕ → List ℕ
meaning_from escaped [] = []
meaning_from escaped (b ∷ bs) = if begins_escape escaped b then meaning_from true bs else meant escaped b ∷ meaning_from false bs

abbrev pub meaning : List ℕ → List ℕ
meaning bs = meaning_from false bs
