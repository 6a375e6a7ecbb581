-- `global_cardinality`: its cost, its line, and what its term tells.
use Rattle.std.proofs.Common.{◌≡◌, ◌∙◌, ℕ, ◌+◌, ◌*◌, ◌≤◌, ℤ, List, [], ◌∷◌, length, map, zip, Option, Some, arith}
use Rattle.std.specs.List.{list_all}
use Rattle.mz_value.specs.Ranges.{Range}
use Rattle.mz_value.specs.Contents.{Content}
use Rattle.mz_value.specs.Contents as values
use Rattle.mz_operations.specs.Views.{◌>>=◌}
use Rattle.mz_globals.specs.declared.global.Global.TheVariants as global
use Rattle.mz_globals.specs.declared.global.Relation.TheVariants as relation
use Rattle.mz_globals.specs.Counting as counting
use Rattle.mz_globals.specs.Reading.{ints_at}
use Rattle.mz_globals.specs.Table.{line_of, truth}
use Rattle.mz_symbol.specs.Readings.{Reading}
use Rattle.glob_nodes.specs.Says.{num}
use Rattle.glob_nodes.specs.Arguments.{array_of}
use Rattle.glob_nodes.specs.Rows.{row_cost}
use Rattle.glob_nodes.proofs.Rows.{found, ints_are, at_first, at_second, at_third, three_found}
use Rattle.glob_nodes.proofs.Seen.{both, both_first, both_second, all_seen, zip_seen}
use Rattle.glob_nodes.proofs.Several.{same_three}
use Rattle.glob_nodes.proofs.Squares.{below_square, square_grows, product_below, zip_short}
use Rattle.glob_count.specs.Senses.{is_count}
use Rattle.glob_count.proofs.Meanings.{occurs_told}

opened : (a k : ℕ) → (14 * a + 6 + 6) * k ≡ 14 * (a * k) + 12 * k
opened a k = grind arith

of_counts : (a k m : ℕ) → a ≤ m → k ≤ m → (14 * a + 6 + 6) * k + 18 ≤ 56 * (1 + m * m)
of_counts a k m h i =
    let same = opened a k in
    let most = product_below a k m h i in
    let more = below_square k in
    let grown = square_grows k m i in
    omega (arith, same, most, more, grown)

pub cardinality_cost : (xs cover counts : List ℕ) → (14 * length xs + 6 + 6) * length (zip cover counts) + 18 ≤ 56 * row_cost global.Cardinality (length xs ∷ length cover ∷ length counts ∷ [])
unfolding line_of
cardinality_cost xs cover counts =
    let short = zip_short cover counts in
    of_counts (length xs) (length (zip cover counts)) (0 + length xs + length cover + length counts) (omega arith) (omega (arith, short))

abbrev counts_of : Option (List ℤ) → Option (List ℤ) → Option (List ℤ) → Option Content
counts_of o p q = truth (o >>= λ us. p >>= λ vs. q >>= λ ws. Some (counting.are_counts us vs ws))

pub cardinality_line : (x y z : Range) (o p q : Option (List ℤ)) → (line_of global.Cardinality).value (array_of x o ∷ array_of y p ∷ array_of z q ∷ []) ≡ Some (values.bool (found (λ us. found (λ vs. found (counting.are_counts us vs) q) p) o))
unfolding line_of
cardinality_line x y z o p q =
    same_three counts_of (ints_at (array_of x o ∷ array_of y p ∷ array_of z q ∷ []) 0) o (ints_at (array_of x o ∷ array_of y p ∷ array_of z q ∷ []) 1) p (ints_at (array_of x o ∷ array_of y p ∷ array_of z q ∷ []) 2) q
    (ints_are (array_of x o ∷ array_of y p ∷ array_of z q ∷ []) 0 x o (at_first (array_of x o) (array_of y p ∷ array_of z q ∷ [])))
    (ints_are (array_of x o ∷ array_of y p ∷ array_of z q ∷ []) 1 y p (at_second (array_of x o) (array_of y p) (array_of z q ∷ [])))
    (ints_are (array_of x o ∷ array_of y p ∷ array_of z q ∷ []) 2 z q (at_third (array_of x o) (array_of y p) (array_of z q) []))
    ∙ three_found counting.are_counts o p q

pub cardinality_told : (r : Reading) (xs cover counts : List ℕ) (us vs ws : List ℤ) → map (num r) xs ≡ map (λ n. Some n) us → map (num r) cover ≡ map (λ n. Some n) vs → map (num r) counts ≡ map (λ n. Some n) ws → list_all (λ p. is_count r xs p) (zip cover counts) ≡ counting.are_counts us vs ws
cardinality_told r xs cover counts us vs ws h i j =
    all_seen (λ p. both (num r p.0) (num r p.1)) (λ p. is_count r xs p) (counting.is_count_in us) (zip cover counts) (zip vs ws)
    (λ p v k. occurs_told relation.Exactly r p.0 p.1 xs v.0 v.1 us (both_first (num r p.0) (num r p.1) v k) (both_second (num r p.0) (num r p.1) v k) h)
    (zip_seen (num r) (num r) cover counts vs ws i j)
