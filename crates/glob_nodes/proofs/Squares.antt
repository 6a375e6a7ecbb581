-- How many pairs there are, and what is quadratic.
use Rattle.std.proofs.Common.{◌≡◌, ℕ, zero, suc, ◌+◌, ◌*◌, ◌≤◌, List, [], ◌∷◌, length, zip, arith}
use Rattle.glob_nodes.specs.Says.{pair_count}
use Rattle.glob_nodes.proofs.Telling.{grows}

squares : (n : ℕ) → n + n * n ≤ suc n * suc n
squares n = grind arith

pub pairs_within : {A : Type 0} (xs : List A) → pair_count xs ≤ length xs * length xs
pairs_within [] = omega arith
pairs_within (x ∷ xs) =
    let less = pairs_within xs in
    let more = squares (length xs) in
    omega (arith, less, more)

next : (n : ℕ) → suc n ≤ suc n * suc n
next n = grind arith

pub below_square : (n : ℕ) → n ≤ n * n
below_square zero = omega arith
below_square (suc n) = next n

other_way : (a b : ℕ) → a * b ≡ b * a
other_way a b = grind arith

pub square_grows : (a b : ℕ) → a ≤ b → a * a ≤ b * b
square_grows a b h =
    let one = grows a a b h in
    let two = grows b a b h in
    let same = other_way a b in
    omega (arith, one, two, same)

pub pairs_below : {A : Type 0} (xs : List A) (m : ℕ) → length xs ≤ m → pair_count xs ≤ m * m
pairs_below xs m h =
    let one = pairs_within xs in
    let two = square_grows (length xs) m h in
    omega (arith, one, two)

pub zip_short : {A B : Type 0} (xs : List A) (ys : List B) → length (zip xs ys) ≤ length xs
zip_short [] ys = omega arith
zip_short (x ∷ xs) [] = omega arith
zip_short (x ∷ xs) (y ∷ ys) = let less = zip_short xs ys in omega (arith, less)

pub zip_other : {A B : Type 0} (xs : List A) (ys : List B) → length (zip xs ys) ≤ length ys
zip_other [] ys = omega arith
zip_other (x ∷ xs) [] = omega arith
zip_other (x ∷ xs) (y ∷ ys) = let less = zip_other xs ys in omega (arith, less)

pub product_below : (a b m : ℕ) → a ≤ m → b ≤ m → a * b ≤ m * m
product_below a b m h k =
    let one = grows a b m k in
    let two = grows m a m h in
    let same = other_way a m in
    omega (arith, one, two, same)
