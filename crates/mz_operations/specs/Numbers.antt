-- Connectives, orders and arithmetic. No limit is tested here, but for the partial results of a fold.
use Rattle.std.specs.Prelude.{◌≡◌, refl, ℕ, zero, suc, ◌+◌, ◌^◌, ℤ, pos, negsuc, ◌+ℤ◌, ◌-ℤ◌, ◌*ℤ◌, neg_ℤ, int_lt, int_le, int_div, int_rem, unsigned_abs, Bool, true, false, not, ◌&&◌, ◌||◌, Option, Some, None, if◌then◌else◌}
use Rattle.std.specs.Int.{int_min, int_max}
use Rattle.std.specs.Ordering.{int_eq}
use Rattle.mz_interval.specs.Ends.{is_number}
use Rattle.mz_operations.specs.declared.row.Connective.{Connective}
use Rattle.mz_operations.specs.declared.row.Connective.TheVariants.{Iff, Implies, IsImplied, Or, Xor, And}
use Rattle.mz_operations.specs.declared.row.Comparison.{Comparison}
use Rattle.mz_operations.specs.declared.row.Comparison.TheVariants.{Less, AtMost, Greater, AtLeast}
use Rattle.mz_operations.specs.declared.row.Arith.{Arith}
use Rattle.mz_operations.specs.declared.row.Arith.TheVariants.{Add, Sub, Mul, Div, Mod, Min, Max}
use Rattle.mz_operations.specs.declared.row.Sign.{Sign}
use Rattle.mz_operations.specs.declared.row.Sign.TheVariants.{Plus, Minus, Abs}
use Rattle.mz_operations.specs.declared.row.Fold.{Fold}
use Rattle.mz_operations.specs.declared.row.Fold.TheVariants.{Sum, SumOfOptions, Product}
use Rattle.mz_operations.specs.declared.row.Quantifier.{Quantifier}
use Rattle.mz_operations.specs.declared.row.Quantifier.TheVariants.{Forall, Exists, Xorall}
use Rattle.mz_operations.specs.declared.row.Side.{Side}
use Rattle.mz_operations.specs.declared.row.Side.TheVariants.{Least, Greatest}

-- both true or both false
abbrev pub same : Bool → Bool → Bool
same a b = if a then b else not b

unfoldable pub connected : Connective → Bool → Bool → Bool
connected Iff a b = same a b
connected Implies a b = not a || b
connected IsImplied a b = a || not b
connected Or a b = a || b
connected Xor a b = not (same a b)
connected And a b = a && b

unfoldable pub ordered : Comparison → ℤ → ℤ → Bool
ordered Less x y = int_lt x y
ordered AtMost x y = int_le x y
ordered Greater x y = int_lt y x
ordered AtLeast x y = int_le y x

-- a number, where the divisor isn't 0
abbrev pub by_divisor : ℤ → ℤ → Option ℤ
by_divisor y n = if int_eq y (pos 0) then None else Some n

-- `div` rounds toward zero, and `a mod b` is `a - (a div b) * b`
unfoldable pub computed : Arith → ℤ → ℤ → Option ℤ
computed Add x y = Some (x +ℤ y)
computed Sub x y = Some (x -ℤ y)
computed Mul x y = Some (x *ℤ y)
computed Div x y = by_divisor y (int_div x y)
computed Mod x y = by_divisor y (int_rem x y)
computed Min x y = Some (int_min x y)
computed Max x y = Some (int_max x y)

unfoldable pub signed : Sign → ℤ → ℤ
signed Plus x = x
signed Minus x = neg_ℤ x
signed Abs x = pos (unsigned_abs x)

-- a partial result that has left the limit stays as it is
abbrev pub within : ℤ → ℤ → ℤ
within acc next = if is_number acc then next else acc

-- one step of a fold
unfoldable pub folded : Fold → ℤ → ℤ → ℤ
folded Sum acc x = within acc (acc +ℤ x)
folded SumOfOptions acc x = within acc (acc +ℤ x)
folded Product acc x = within acc (acc *ℤ x)

abbrev pub fold_start : Fold → ℤ
fold_start Sum = pos 0
fold_start SumOfOptions = pos 0
fold_start Product = pos 1

-- x * x * .. * x, n times, or the first of these products that leaves the limit
unfoldable pub raised : ℤ → ℕ → ℤ
raised x zero = pos 1
raised x (suc n) = folded Product (raised x n) x

unfoldable pub toward : Side → ℤ → ℤ → ℤ
toward Least x y = int_min x y
toward Greatest x y = int_max x y

-- the first number, and then the one that lies further to a side
unfoldable pub nearer : Side → Option ℤ → ℤ → Option ℤ
nearer side None n = Some n
nearer side (Some m) n = Some (toward side m n)

-- the number one less or one greater
abbrev pub beside : Side → ℤ → ℤ
beside Least n = n -ℤ pos 1
beside Greatest n = n +ℤ pos 1

unfoldable pub quantified : Quantifier → Bool → Bool → Bool
quantified Forall acc b = acc && b
quantified Exists acc b = acc || b
quantified Xorall acc b = not (same acc b)

abbrev pub quantifier_start : Quantifier → Bool
quantifier_start Forall = true
quantifier_start Exists = false
quantifier_start Xorall = false

abbrev pub counted : ℕ → Bool → ℕ
counted n b = if b then n + 1 else n

-- ---- worked examples

minus_seven_div_two : computed Div (negsuc 6) (pos 2) ≡ Some (negsuc 2)
unfolding computed
minus_seven_div_two = refl

minus_seven_mod_two : computed Mod (negsuc 6) (pos 2) ≡ Some (negsuc 0)
unfolding computed
minus_seven_mod_two = refl

seven_div_minus_two : computed Div (pos 7) (negsuc 1) ≡ Some (negsuc 2)
unfolding computed
seven_div_minus_two = refl

seven_mod_minus_two : computed Mod (pos 7) (negsuc 1) ≡ Some (pos 1)
unfolding computed
seven_mod_minus_two = refl

by_zero : computed Mod (pos 0) (pos 0) ≡ None
unfolding computed
by_zero = refl

false_implies : connected Implies false false ≡ true
unfolding connected
false_implies = refl

zero_to_the_zero : raised (pos 0) 0 ≡ pos 1
unfolding raised
zero_to_the_zero = refl

-- the first partial product of 10 ^ 20 that leaves the limit is 10 ^ 19
leaves_the_limit : raised (pos 10) 20 ≡ pos (10 ^ 19)
unfolding raised folded
leaves_the_limit = refl

magnitude_of_a_negative : signed Abs (negsuc 4) ≡ pos 5
unfolding signed
magnitude_of_a_negative = refl
