-- Places are below the count, and two lists of indices with one place are the same.
use Rattle.std.proofs.Common.{ℕ, ℤ, ◌≡◌, ◌+◌, ◌*◌, ◌<◌, ◌≤ℤ◌, Bool, true, false, cond, List, [], ◌∷◌, refl, sym, ap, ◌∙◌, subst, arith, Option, Some, None, option_map, IsSome, IsTrue}
use Rattle.std.specs.List.{AllZip}
use Rattle.std.proofs.lemmas.Int.{ints}
use Rattle.std.proofs.lemmas.Nat.{mul-add-lt, same_from_place}
use Rattle.mz_index.proofs.Counts.{offset_of_below}
use Rattle.mz_index.specs.Places.{Range, length_of, count_of, is_inside, offset_of, place_of}

-- the first index of some that have a place, where n is the count of the other ranges and q the place of the other indices
record First (r : Range) (i : ℤ) (n : ℕ) (q : Option ℕ) (p : ℕ) : Type 0 where
  rest : ℕ
  of_rest : q ≡ Some rest
  low : r.0 ≤ℤ i
  high : i ≤ℤ r.1
  is : offset_of r i * n + rest ≡ p

first_of_some : (r : Range) (i : ℤ) (n : ℕ) (t : Bool) (q : Option ℕ) (p : ℕ) → is_inside r i ≡ t → cond t (option_map (λ place. offset_of r i * n + place) q) None ≡ Some p → First r i n q p
first_of_some r i n false q p e f = absurd (cc)
first_of_some r i n true None p e f = absurd (cc)
first_of_some r i n true (Some x) p e f = record { rest = x; of_rest = refl; low = grind (arith, ints); high = grind (arith, ints); is = cc }

first_of : (r : Range) (rs : List Range) (i : ℤ) (is : List ℤ) (p : ℕ) → place_of (r ∷ rs) (i ∷ is) ≡ Some p → First r i (count_of rs) (place_of rs is) p
first_of r rs i is p e = first_of_some r i (count_of rs) (is_inside r i) (place_of rs is) p refl e

pub place_of-below : (rs : List Range) (is : List ℤ) (p : ℕ) → place_of rs is ≡ Some p → p < count_of rs
place_of-below [] [] p e = let z : 0 ≡ p = cc in omega arith
place_of-below [] (i ∷ is) p e = absurd (cc)
place_of-below (r ∷ rs) [] p e = absurd (cc)
place_of-below (r ∷ rs) (i ∷ is) p e =
    let f = first_of r rs i is p e in
    let small = place_of-below rs is f.rest f.of_rest in
    let n = count_of rs in
    subst (λ (x : ℕ). x < length_of r * n) f.is (omega (arith, mul-add-lt (offset_of r i) n f.rest (length_of r) (offset_of_below r i f.low f.high) small))

same_offset : (r : Range) (i j : ℤ) → r.0 ≤ℤ i → r.0 ≤ℤ j → offset_of r i ≡ offset_of r j → i ≡ j
same_offset r i j p q e = omega (arith, ints)

pub place_of-distinct : (rs : List Range) (is js : List ℤ) (p : ℕ) → place_of rs is ≡ Some p → place_of rs js ≡ Some p → is ≡ js
place_of-distinct [] [] [] p e f = refl
place_of-distinct [] [] (j ∷ js) p e f = absurd (cc)
place_of-distinct [] (i ∷ is) js p e f = absurd (cc)
place_of-distinct (r ∷ rs) [] js p e f = absurd (cc)
place_of-distinct (r ∷ rs) (i ∷ is) [] p e f = absurd (cc)
place_of-distinct (r ∷ rs) (i ∷ is) (j ∷ js) p e f =
    let a = first_of r rs i is p e in
    let b = first_of r rs j js p f in
    let same = same_from_place (offset_of r i) a.rest (offset_of r j) b.rest (count_of rs) (place_of-below rs is a.rest a.of_rest) (place_of-below rs js b.rest b.of_rest) (a.is ∙ sym b.is) in
    let first = same_offset r i j a.low b.low same.0 in
    let others = place_of-distinct rs is js a.rest a.of_rest (b.of_rest ∙ ap Some (sym same.1)) in
    λ t. first t ∷ others t

both_there : (t : Bool) (f : ℕ → ℕ) (q : Option ℕ) → IsSome (cond t (option_map f q) None) → IsTrue t × IsSome q
both_there false f q h = absurd (cc)
both_there true f None h = absurd (cc)
both_there true f (Some x) h = (refl, refl)

there_of_both : (t : Bool) (f : ℕ → ℕ) (q : Option ℕ) → IsTrue t → IsSome q → IsSome (cond t (option_map f q) None)
there_of_both false f q h k = absurd (cc)
there_of_both true f None h k = absurd (cc)
there_of_both true f (Some x) h k = refl

pub all_inside : (rs : List Range) (is : List ℤ) → IsSome (place_of rs is) → AllZip (λ r i. IsTrue (is_inside r i)) rs is
all_inside [] [] h = tt
all_inside [] (i ∷ is) h = absurd (cc)
all_inside (r ∷ rs) [] h = absurd (cc)
all_inside (r ∷ rs) (i ∷ is) h =
    let parts = both_there (is_inside r i) (λ place. offset_of r i * count_of rs + place) (place_of rs is) h in
    (parts.0, all_inside rs is parts.1)

pub place_of-some : (rs : List Range) (is : List ℤ) → AllZip (λ r i. IsTrue (is_inside r i)) rs is → IsSome (place_of rs is)
place_of-some [] [] h = refl
place_of-some [] (i ∷ is) h = absurd h
place_of-some (r ∷ rs) [] h = absurd h
place_of-some (r ∷ rs) (i ∷ is) h = there_of_both (is_inside r i) (λ place. offset_of r i * count_of rs + place) (place_of rs is) h.0 (place_of-some rs is h.1)
