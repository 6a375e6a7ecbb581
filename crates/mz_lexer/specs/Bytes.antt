-- Which bytes begin and go on with what.
use Rattle.std.specs.Prelude.{ℕ, List, [], ◌∷◌, Bool, ◌||◌, nat_eq, nat_le, drop, codes}
use Rattle.mz_base.specs.Words.{is_between, is_digit}

-- the first byte, 0 where there is none
abbrev pub first_byte : List ℕ → ℕ
first_byte [] = 0
first_byte (b ∷ bs) = b

-- the second and the third byte, 0 where there is none
abbrev pub second_byte : List ℕ → ℕ
second_byte bs = first_byte (drop 1 bs)

abbrev pub third_byte : List ℕ → ℕ
third_byte bs = first_byte (drop 2 bs)

-- b is the byte of a text of one byte
abbrev pub is_byte : List ℕ → ℕ → Bool
is_byte text b = nat_eq b (first_byte text)

-- the bytes that a definition names
abbrev pub quote : ℕ
quote = 34

abbrev pub newline : ℕ
newline = 10

abbrev pub backslash : ℕ
backslash = 92

-- space, tab, carriage return and newline
abbrev pub is_blank : ℕ → Bool
is_blank b = is_byte (codes " ") b || (nat_eq b 9 || (nat_eq b 13 || nat_eq b newline))

abbrev pub is_newline : ℕ → Bool
is_newline b = nat_eq b newline

-- hexadecimal and octal digits
abbrev pub is_hex_digit : ℕ → Bool
is_hex_digit b = is_digit b || (is_between 65 70 b || is_between 97 102 b)

abbrev pub is_octal_digit : ℕ → Bool
is_octal_digit b = is_between 48 55 b

-- the bytes that begin a form that is left out: `'`, a byte above 127, `~`, `$`, a backquote, `_`, and `/` where no symbol and no comment begins
abbrev pub is_left_out_byte : ℕ → Bool
is_left_out_byte b =
    is_byte (codes "'") b || (nat_le 128 b || (is_byte (codes "~") b || (is_byte (codes "$") b || (is_byte (codes "`") b || (is_byte (codes "_") b || is_byte (codes "/") b)))))
