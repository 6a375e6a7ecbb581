-- The number that digits spell, as far as they are read.
use Rattle.std.proofs.Common.{◌≡◌, ℕ, suc, zero, ◌≤◌, ◌<◌, ◌+◌, ◌*◌, ◌/◌, List, [], ◌∷◌, length, drop, get_or, refl, arith, false}
use Rattle.std.specs.Prelude.{Some, None, nat_le, if◌then◌else◌}
use Rattle.std.specs.Char.{digit_value}
use Rattle.std.proofs.Math.Nat.{div-lt_iff_lt-mul}
use Rattle.std.proofs.lemmas.Bool.Decides.{nat_tests}
use Rattle.mz_lexer.proofs.Contents.{at_place}
use Rattle.mz_lexer.specs.Numbers.{number_from, number_of, limit}

grows_by : (base n : ℕ) → 0 < base → n ≤ n * base
grows_by zero n some = absurd (omega arith)
grows_by (suc k) n some = grind arith

pub number_grows : (base n : ℕ) (ds : List ℕ) → 0 < base → n ≤ number_from base n ds
number_grows base n [] some = omega arith
number_grows base n (d ∷ ds) some = omega (arith, number_grows base (n * base + digit_value d) ds some, grows_by base n some)

pub times_past : (base n most : ℕ) → 0 < base → most / base < n → most < n * base
times_past base n most some past = (div-lt_iff_lt-mul some).0 past

over_limit : (n : ℕ) → limit < n → (if nat_le n limit then Some n else None) ≡ None
over_limit n h = let no : nat_le n limit ≡ false = grind (arith, nat_tests) in rw no refl

pub digit_at : (base n : ℕ) (ds : List ℕ) (i : ℕ) → i < length ds → number_from base (n * base + digit_value (get_or ds i 0)) (drop (i + 1) ds) ≡ number_from base n (drop i ds)
digit_at base n ds i below = rw (at_place ds i below) refl

-- digits are left, and the number before them is past the last that may go on
pub too_great : (base : ℕ) (ds : List ℕ) (n i : ℕ) → 0 < base → number_from base n (drop i ds) ≡ number_of base ds → i < length ds → limit / base < n → (if nat_le (number_of base ds) limit then Some (number_of base ds) else None) ≡ None
too_great base ds n i some reads below past =
    let m : ℕ = n * base + digit_value (get_or ds i 0) in
    let grown : m ≤ number_from base m (drop (i + 1) ds) = number_grows base m (drop (i + 1) ds) some in
    over_limit (number_of base ds) (omega (arith, grown, digit_at base n ds i below, reads, times_past base n limit some past))
