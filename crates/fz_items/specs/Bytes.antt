-- Which bytes are what.
use Rattle.std.specs.Prelude.{ℕ, List, [], ◌∷◌, Bool, ◌&&◌, ◌||◌, not, nat_eq, nat_le}

-- space, tab and carriage return; a newline ends its line
abbrev pub is_blank : ℕ → Bool
is_blank b = nat_eq b 32 || (nat_eq b 9 || nat_eq b 13)

abbrev pub is_between : ℕ → ℕ → ℕ → Bool
is_between lo hi b = nat_le lo b && nat_le b hi

abbrev pub is_digit : ℕ → Bool
is_digit b = is_between 48 57 b

-- the ASCII letters
abbrev pub is_letter : ℕ → Bool
is_letter b = is_between 65 90 b || is_between 97 122 b

-- a letter, a digit or `_`
abbrev pub is_name_byte : ℕ → Bool
is_name_byte b = is_letter b || (is_digit b || nat_eq b 95)

abbrev pub is_no_newline : ℕ → Bool
is_no_newline b = not (nat_eq b 10)

-- the first byte, 0 where there is none
abbrev pub first_byte : List ℕ → ℕ
first_byte [] = 0
first_byte (b ∷ bs) = b
