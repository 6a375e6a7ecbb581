-- Words and identifiers, and the bytes that they are made of.
use Rattle.std.specs.Prelude.{ℕ, List, [], ◌∷◌, Bool, false, ◌&&◌, ◌||◌, not, nat_eq, nat_le}
use Rattle.std.specs.List.{list_any, list_all}
use Rattle.std.specs.Str.{bytes_eq}
use Rattle.mz_base.specs.Keywords.{keyword_text, all_keywords}

abbrev pub is_between : ℕ → ℕ → ℕ → Bool
is_between lo hi b = nat_le lo b && nat_le b hi

-- the ASCII letters
abbrev pub is_letter : ℕ → Bool
is_letter b = is_between 65 90 b || is_between 97 122 b

-- the decimal digits
abbrev pub is_digit : ℕ → Bool
is_digit b = is_between 48 57 b

-- a letter, a digit or `_`
abbrev pub is_word_byte : ℕ → Bool
is_word_byte b = is_letter b || (is_digit b || nat_eq b 95)

-- a letter, and then letters, digits and `_`
abbrev pub is_word : List ℕ → Bool
is_word [] = false
is_word (b ∷ bs) = is_letter b && list_all is_word_byte bs

-- one of MiniZinc's keywords
unfoldable pub is_keyword : List ℕ → Bool
is_keyword w = list_any (λ k. bytes_eq (keyword_text k) w) all_keywords

-- a word that isn't a keyword: an identifier of MiniZinc, and of FlatZinc
abbrev pub is_identifier : List ℕ → Bool
is_identifier w = is_word w && not (is_keyword w)
