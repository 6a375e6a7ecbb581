-- The bytes that a text writes, where @ and two hexadecimal digits write one byte.
use Rattle.std.specs.Prelude.{ℕ, ◌+◌, ◌-◌, ◌*◌, ◌==◌, ◌&&◌, nat_le, List, [], ◌∷◌, Option, Some, None, if◌then◌else◌}

-- the value of a hexadecimal digit
abbrev pub value_of : ℕ → Option ℕ
value_of b = if nat_le 48 b && nat_le b 57 then Some (b - 48) else if nat_le 65 b && nat_le b 70 then Some (b - 55) else None

-- the byte of two digits' values
abbrev pub joined : Option ℕ → Option ℕ → Option ℕ
joined (Some high) (Some low) = Some (16 * high + low)
joined (Some high) None = None
joined None low = None

-- the byte that three bytes write
abbrev pub byte_of : ℕ → ℕ → ℕ → Option ℕ
byte_of at high low = if at == 64 then joined (value_of high) (value_of low) else None

abbrev pub one_or : Option ℕ → List ℕ → List ℕ → List ℕ
one_or (Some byte) after others = byte ∷ after
one_or None after others = others

unfoldable pub written : List ℕ → List ℕ
written [] = []
written (a ∷ []) = a ∷ []
written (a ∷ b ∷ []) = a ∷ b ∷ []
written (a ∷ b ∷ c ∷ rest) = one_or (byte_of a b c) (written rest) (a ∷ written (b ∷ c ∷ rest))
