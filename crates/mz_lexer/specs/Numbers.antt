-- Integer literals.
use Rattle.std.specs.Prelude.{ℕ, ◌+◌, ◌*◌, List, [], ◌∷◌, Bool, ◌&&◌, ◌||◌, nat_abs, codes}
use Rattle.mz_base.specs.declared.limit.TheConstants.{INTEGER_LIMIT}
use Rattle.std.specs.Char.{digit_value}
use Rattle.mz_lexer.specs.Bytes.{is_byte, first_byte, second_byte, third_byte}
use Rattle.mz_base.specs.Words.{is_digit}

-- the greatest number of a literal
abbrev pub limit : ℕ
limit = nat_abs INTEGER_LIMIT

-- the number that digits spell in a base, after digits that spell a number
abbrev pub number_from : ℕ → ℕ → List ℕ → ℕ
number_from base n [] = n
number_from base n (d ∷ ds) = number_from base (n * base + digit_value d) ds

-- the number that digits spell in a base
abbrev pub number_of : ℕ → List ℕ → ℕ
number_of base ds = number_from base 0 ds

abbrev pub is_exponent_letter : ℕ → Bool
is_exponent_letter b = is_byte (codes "e") b || is_byte (codes "E") b

abbrev pub is_sign : ℕ → Bool
is_sign b = is_byte (codes "+") b || is_byte (codes "-") b

-- after decimal digits: a fraction or an exponent comes first
abbrev pub goes_on : List ℕ → Bool
goes_on bs =
    (is_byte (codes ".") (first_byte bs) && is_digit (second_byte bs))
    || (is_exponent_letter (first_byte bs) && (is_digit (second_byte bs) || (is_sign (second_byte bs) && is_digit (third_byte bs))))
