-- How many places index ranges have, and index sets one after another.
use Rattle.std.proofs.Common.{◌≡◌, ℕ, zero, suc, ◌+◌, ◌*◌, ◌-◌, ◌<◌, ◌≤◌, min, length, get_or, drop, List, [], ◌∷◌, false, refl, sym, ap, ◌∙◌, arith}
use Rattle.std.proofs.lemmas.Int.{ints, by_lt_z}
use Rattle.std.proofs.lemmas.List.{at_drop_more, at_drop_all, get_or_default}
use Rattle.std.proofs.lemmas.Bool.Decides.{nat_tests}
use Rattle.std.specs.Prelude.{pos, nat_eq, Option, Some, None}
use Rattle.mz_value.specs.Ranges.{Range, cardinality, range_of}
use Rattle.mz_operations.specs.Views.{◌>>=◌}
use Rattle.mz_operations.specs.Arguments.{Arguments, set_at}
use Rattle.mz_builtin_values.specs.Shapes.{cap}
use Rattle.mz_operations.specs.Arrays.{IndexShape, place_count, shape_from, with_index}

-- ---- index sets

shape_none : (k : ℕ) (args : Arguments) (w : IndexShape) → shape_from 0 k args w ≡ Some w
unfolding shape_from
shape_none k args w = refl

shape_suc : (n k : ℕ) (args : Arguments) (w : IndexShape) → shape_from (suc n) k args w ≡ (set_at args k >>= λ s. shape_from n (k + 1) args (with_index w s))
unfolding shape_from
shape_suc n k args w = refl

pub shape_ends : (d k : ℕ) (args : Arguments) (w : IndexShape) (whole : Option IndexShape) → k ≤ d → d ≤ k → shape_from (d - k) k args w ≡ whole → Some w ≡ whole
shape_ends d k args w whole l g i =
    let none : d - k ≡ 0 = omega arith in
    sym (shape_none k args w) ∙ sym (ap (λ n. shape_from n k args w) none) ∙ i

pub shape_stops : (d k : ℕ) (args : Arguments) (w : IndexShape) (whole : Option IndexShape) → k < d → set_at args k ≡ None → shape_from (d - k) k args w ≡ whole → None ≡ whole
shape_stops d k args w whole l e i =
    let more : d - k ≡ suc (d - (k + 1)) = omega arith in
    let step : (set_at args k >>= λ s. shape_from (d - (k + 1)) (k + 1) args (with_index w s)) ≡ None = rw e refl in
    sym step ∙ sym (ap (λ n. shape_from n k args w) more ∙ shape_suc (d - (k + 1)) k args w) ∙ i

pub shape_goes : (d k : ℕ) (args : Arguments) (w next : IndexShape) (s : List Range) (whole : Option IndexShape) → k < d → set_at args k ≡ Some s → next ≡ with_index w s → shape_from (d - k) k args w ≡ whole → shape_from (d - (k + 1)) (k + 1) args next ≡ whole
shape_goes d k args w next s whole l e m i =
    let more : d - k ≡ suc (d - (k + 1)) = omega arith in
    let step : (set_at args k >>= λ s. shape_from (d - (k + 1)) (k + 1) args (with_index w s)) ≡ shape_from (d - (k + 1)) (k + 1) args (with_index w s) = rw e refl in
    ap (shape_from (d - (k + 1)) (k + 1) args) m ∙ sym step ∙ sym (ap (λ n. shape_from n k args w) more ∙ shape_suc (d - (k + 1)) k args w) ∙ i

-- ---- places, of which no more than 2 ^ 63 are counted

le_times : (a q : ℕ) → a ≤ a * suc q
le_times a q = grind arith

above_cap : (a q : ℕ) → cap < a → min cap (min cap a * suc q) ≡ min cap (a * suc q)
above_cap a q l =
    let first : min cap a ≡ cap = omega arith in
    let one : min cap (cap * suc q) ≡ cap = omega arith in
    let grows = le_times a q in
    let two : min cap (a * suc q) ≡ cap = omega (arith, grows) in
    ap (λ b. min cap (b * suc q)) first ∙ one ∙ sym two

capped : (a p : ℕ) → min cap (min cap a * p) ≡ min cap (a * p)
capped a zero = grind arith
capped a (suc q) =
    by_lt_z (pos cap) (pos a)
    (λ l. above_cap a q (omega (arith, ints)))
    (λ l. let same : min cap a ≡ a = omega (arith, ints) in ap (λ b. min cap (b * suc q)) same)

count_more : (r : Range) (rs : List Range) → place_count (r ∷ rs) ≡ cardinality (range_of r.0 r.1) * place_count rs
unfolding place_count
count_more r rs = refl

count_none : place_count [] ≡ 1
unfolding place_count
count_none = refl

regroup : (a s p : ℕ) → a * (s * p) ≡ (a * s) * p
regroup a s p = grind arith

places_step : (rs : List Range) (i : ℕ) (r : Range) (acc size next whole : ℕ) → i < length rs → r ≡ get_or rs i r → size ≡ cardinality (range_of r.0 r.1) → next ≡ min cap (acc * size) → min cap (acc * place_count (drop i rs)) ≡ whole → min cap (next * place_count (drop (i + 1) rs)) ≡ whole
places_step rs i r acc size next whole l e s n w =
    let rest = place_count (drop (i + 1) rs) in
    let cut : place_count (drop i rs) ≡ cardinality (range_of r.0 r.1) * rest = at_drop_more place_count rs i r l ∙ ap (λ y. place_count (y ∷ drop (i + 1) rs)) (sym e) ∙ count_more r (drop (i + 1) rs) in
    let made : min cap (acc * place_count (drop i rs)) ≡ min cap ((acc * size) * rest) = ap (λ c. min cap (acc * c)) (cut ∙ ap (λ z. z * rest) (sym s)) ∙ ap (min cap) (regroup acc size rest) in
    ap (λ m. min cap (m * rest)) n ∙ capped (acc * size) rest ∙ sym made ∙ w

pub places_at : (rs : List Range) (i : ℕ) (d : Range) (acc size next whole : ℕ) → i < length rs → size ≡ cardinality (range_of (get_or rs i d).0 (get_or rs i d).1) → next ≡ min cap (acc * size) → min cap (acc * place_count (drop i rs)) ≡ whole → min cap (next * place_count (drop (i + 1) rs)) ≡ whole
places_at rs i d acc size next whole l s n w = places_step rs i (get_or rs i d) acc size next whole l (get_or_default rs i d (get_or rs i d) l) s n w

pub places_end : (rs : List Range) (i acc whole : ℕ) → length rs ≤ i → min cap (acc * place_count (drop i rs)) ≡ whole → min cap acc ≡ whole
places_end rs i acc whole l w =
    let none : place_count (drop i rs) ≡ 1 = at_drop_all place_count rs i l ∙ count_none in
    let one : acc * 1 ≡ acc = omega arith in
    sym (ap (λ c. min cap (acc * c)) none ∙ ap (min cap) one) ∙ w

-- a number below the cap equals the count exactly where it equals the capped one
pub same_test : (total count n : ℕ) → min cap total ≡ min cap count → total ≤ cap → n < cap → nat_eq total n ≡ nat_eq count n
same_test total count n e l s =
    by_lt_z (pos cap) (pos count)
    (λ g.
    let full : total ≡ cap = omega (arith, ints) in
    let one : nat_eq total n ≡ false = grind (arith, nat_tests) in
    let two : nat_eq count n ≡ false = grind (arith, ints, nat_tests) in
    one ∙ sym two)
    (λ g. let same : total ≡ count = omega (arith, ints) in ap (λ t. nat_eq t n) same)
