-- Ranges of integers by their two ends, and the limit of all numbers.
use Rattle.std.specs.Prelude.{◌≡◌, ◌+◌, ℤ, pos, negsuc, neg_ℤ, ◌-◌, ◌^◌, ◌≤ℤ◌, int_le, ◌&&◌, Bool, Option, Some, None, if◌then◌else◌}
use Rattle.std.specs.Int.{int_min, int_max}
use Rattle.mz_interval.specs.declared.limit.TheConstants.{LIMIT}
use Rattle.std.proofs.Common.{refl}

-- a lower and an upper end, both inclusive
abbrev pub Ends : Type 0
Ends = ℤ × ℤ

-- x lies in the range
pub record Encloses (e : Ends) (x : ℤ) : Type 0 where
  pub from : e.0 ≤ℤ x
  pub to : x ≤ℤ e.1

-- the least and the greatest number: -2^61 and 2^61
abbrev pub least_number : ℤ
least_number = neg_ℤ LIMIT

abbrev pub greatest_number : ℤ
greatest_number = LIMIT

-- the limit of all numbers
abbrev pub limit : Ends
limit = (least_number, greatest_number)

-- x lies in the limit
abbrev pub is_number : ℤ → Bool
is_number x = int_le least_number x && int_le x greatest_number

-- the range, where both ends lie in the limit
abbrev pub if_in_limit : Ends → Option Ends
if_in_limit e = if is_number e.0 && is_number e.1 then Some e else None

-- the range, where it has a number and both ends lie in the limit
abbrev pub if_interval : Ends → Option Ends
if_interval e = if int_le e.0 e.1 then if_in_limit e else None

-- the ends of a range that has a number, in the limit
pub record IsInterval (e : Ends) : Type 0 where
  pub ordered : e.0 ≤ℤ e.1
  pub from : least_number ≤ℤ e.0
  pub to : e.1 ≤ℤ greatest_number

-- from the lesser to the greater of two numbers
abbrev pub between : ℤ → ℤ → Ends
between x y = (int_min x y, int_max x y)

-- the smallest range that holds both
abbrev pub hull_of : Ends → Ends → Ends
hull_of e f = (int_min e.0 f.0, int_max e.1 f.1)

-- the smallest range that holds each that is there
abbrev pub hull_of_some : Option Ends → Option Ends → Option Ends
hull_of_some None f = f
hull_of_some (Some e) None = Some e
hull_of_some (Some e) (Some f) = Some (hull_of e f)

-- ---- worked examples

at_the_limit : if_in_limit (negsuc (2 ^ 61 - 1), pos (2 ^ 61)) ≡ Some (least_number, greatest_number)
at_the_limit = refl

past_the_limit : if_in_limit (pos 0, pos (2 ^ 61 + 1)) ≡ None
past_the_limit = refl

no_number : if_interval (pos 3, pos 2) ≡ None
no_number = refl

hull_over_a_gap : hull_of (negsuc 2, pos 2) (pos 5, pos 8) ≡ (negsuc 2, pos 8)
hull_over_a_gap = refl
