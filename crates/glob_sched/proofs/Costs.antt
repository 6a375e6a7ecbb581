-- What rows cost, against the charges of their nodes.
use Rattle.std.proofs.Common.{◌≡◌, ℕ, ◌+◌, ◌*◌, ◌≤◌, List, [], ◌∷◌, length, zip, arith}
use Rattle.mz_globals.specs.declared.global.Global.TheVariants as global
use Rattle.mz_globals.specs.Table.{line_of}
use Rattle.glob_nodes.specs.Says.{pair_count}
use Rattle.glob_nodes.specs.Rows.{row_cost}
use Rattle.glob_nodes.proofs.Squares.{below_square, square_grows, product_below, pairs_below, zip_short, zip_other}

of_pairs : (p m : ℕ) → p ≤ m * m → 56 * p + 12 ≤ 56 * (1 + m * m)
of_pairs p m h = omega (arith, h)

pub disjunctive_cost : (s d : List ℕ) → 56 * pair_count (zip s d) + 12 ≤ 56 * row_cost global.Disjunctive (length s ∷ length d ∷ [])
unfolding line_of
disjunctive_cost s d =
    let short = zip_short s d in
    of_pairs (pair_count (zip s d)) (0 + length s + length d) (pairs_below (zip s d) (0 + length s + length d) (omega (arith, short)))

pub strict_cost : (s d : List ℕ) → 32 * pair_count (zip s d) + 12 ≤ 56 * row_cost global.DisjunctiveStrict (length s ∷ length d ∷ [])
unfolding line_of
strict_cost s d =
    let short = zip_short s d in
    let most = of_pairs (pair_count (zip s d)) (0 + length s + length d) (pairs_below (zip s d) (0 + length s + length d) (omega (arith, short))) in
    omega (arith, most)

of_boxes : (p m : ℕ) → 2 * p ≤ m * m → 64 * p + 24 ≤ 56 * (1 + m * m)
of_boxes p m h = omega (arith, h)

twice : (k m : ℕ) → 2 * k ≤ m → 2 * (k * k) ≤ m * m
twice k m h =
    let most = square_grows (2 * k) m h in
    let same = doubled k in
    omega (arith, most, same)
  where
    doubled : (k : ℕ) → (2 * k) * (2 * k) ≡ 4 * (k * k)
    doubled k = grind arith

pub diffn_cost : (x y dx dy : List ℕ) → 64 * pair_count (zip (zip x dx) (zip y dy)) + 24 ≤ 56 * row_cost global.Diffn (length x ∷ length y ∷ length dx ∷ length dy ∷ [])
unfolding line_of
diffn_cost x y dx dy =
    let one = zip_short x dx in
    let two = zip_short (zip x dx) (zip y dy) in
    let three = zip_other (zip x dx) (zip y dy) in
    let four = zip_short y dy in
    let pairs = pairs_below (zip (zip x dx) (zip y dy)) (length (zip (zip x dx) (zip y dy))) (omega arith) in
    let most = twice (length (zip (zip x dx) (zip y dy))) (0 + length x + length y + length dx + length dy) (omega (arith, one, two, three, four)) in
    of_boxes (pair_count (zip (zip x dx) (zip y dy))) (0 + length x + length y + length dx + length dy) (omega (arith, pairs, most))

opened : (c k : ℕ) → (c * k + 6 + 6) * k ≡ c * (k * k) + 12 * k
opened c k = grind arith

of_tasks : (k m : ℕ) → k ≤ m → (34 * k + 6 + 6) * k + 12 + 30 ≤ 56 * (1 + m * m)
of_tasks k m h =
    let same = opened 34 k in
    let most = square_grows k m h in
    let more = below_square k in
    omega (arith, same, most, more)

pub cumulative_cost : (s d u : List ℕ) → (34 * length (zip (zip s d) u) + 6 + 6) * length (zip (zip s d) u) + 12 + 30 ≤ 56 * row_cost global.Cumulative (length s ∷ length d ∷ length u ∷ 1 ∷ [])
unfolding line_of
cumulative_cost s d u =
    let one = zip_short s d in
    let two = zip_short (zip s d) u in
    of_tasks (length (zip (zip s d) u)) (0 + length s + length d + length u) (omega (arith, one, two))

of_things : (k m : ℕ) → k ≤ m → (18 * k + 6 + 6) * k + 12 + 24 ≤ 56 * (1 + m * m)
of_things k m h =
    let same = opened 18 k in
    let most = square_grows k m h in
    let more = below_square k in
    omega (arith, same, most, more)

pub packing_cost : (b w : List ℕ) → (18 * length (zip b w) + 6 + 6) * length (zip b w) + 12 + 24 ≤ 56 * row_cost global.Packing (1 ∷ length b ∷ length w ∷ [])
unfolding line_of
packing_cost b w =
    let one = zip_short b w in
    of_things (length (zip b w)) (0 + length b + length w) (omega (arith, one))

stretched : (k a : ℕ) → (18 * k + 6 + 6) * a ≡ 18 * (k * a) + 12 * a
stretched k a = grind arith

of_loads : (k a m : ℕ) → k ≤ m → a ≤ m → 24 * k + (18 * k + 6 + 6) * a + 6 + 18 ≤ 56 * (1 + m * m)
of_loads k a m h i =
    let same = stretched k a in
    let most = product_below k a m h i in
    let more = below_square m in
    omega (arith, same, most, more, h, i)

pub load_cost : (l b w : List ℕ) → 24 * length (zip b w) + (18 * length (zip b w) + 6 + 6) * length l + 6 + 18 ≤ 56 * row_cost global.PackingLoad (length l ∷ length b ∷ length w ∷ [])
unfolding line_of
load_cost l b w =
    let one = zip_short b w in
    of_loads (length (zip b w)) (length l) (0 + length l + length b + length w) (omega (arith, one)) (omega arith)
