-- The numbers of a set, one after the other.
use Rattle.std.proofs.Common.{◌≡◌, ◌∙◌, ℕ, zero, suc, ◌+◌, ◌<◌, ◌≤◌, Bool, true, false, Option, Some, None, List, [], ◌∷◌, ◌++◌, map, drop, length, get_or, refl, sym, ap, arith, if◌then◌else◌}
use Rattle.std.specs.Prelude.{ℤ, pos, nat_abs, int_lt, ◌+ℤ◌, ◌-ℤ◌, ◌<ℤ◌, ◌≤ℤ◌}
use Rattle.std.proofs.lemmas.Int.{ints}
use Rattle.std.proofs.lemmas.List.{at_drop_more, at_drop_all}
use Rattle.mz_value.specs.Ranges.{Range, AreCanonical}
use Rattle.mz_value.proofs.Comparisons.{int_lt_true, int_lt_false}
use Rattle.mz_value.specs.Shown.{numbers_from, range_elements, elements}
use Rattle.mz_symbol.specs.Readings.{Reading}
use Rattle.mz_eval_comprehensions.specs.declared.types.Elements.{Elements}
use Rattle.mz_eval_comprehensions.specs.declared.types.Elements.TheVariants as source
use Rattle.mz_eval_comprehensions.specs.Views.{above, range_left, numbers_left, elements_left, elements_of, member_in}

none_given : (rs : List Range) → numbers_left rs None ≡ elements rs
none_given [] = refl
none_given (r ∷ rs) = refl

pub all_elements : (r : Reading) (e : Elements) → elements_left r e 0 None ≡ elements_of r e
all_elements r source.Nothing = refl
all_elements r (source.Numbers of m s) = ap (map (member_in r of m)) (none_given s.now)
all_elements r (source.Values xs) = refl
all_elements r (source.Places b o xs) = refl

-- ---- the integers above one

above_if : (b : Bool) (n hi : ℤ) → int_lt n hi ≡ b → above n hi ≡ (if b then numbers_from (n +ℤ pos 1) (nat_abs (hi -ℤ n)) else [])
unfolding above
above_if b n hi e = ap (λ t. if t then numbers_from (n +ℤ pos 1) (nat_abs (hi -ℤ n)) else []) e

above_none : (n hi : ℤ) → hi ≤ℤ n → above n hi ≡ []
above_none n hi l = above_if false n hi (int_lt_false n hi l)

above_some : (n hi : ℤ) → n <ℤ hi → above n hi ≡ numbers_from (n +ℤ pos 1) (nat_abs (hi -ℤ n))
above_some n hi l = above_if true n hi (int_lt_true n hi l)

-- this many from an integer on are those above the one before
above_from : (m hi : ℤ) → m ≤ℤ hi → numbers_from (m +ℤ pos 1) (nat_abs (hi -ℤ m)) ≡ above m hi
above_from m hi l = by (int_lt m hi) refl
  where
    by : (b : Bool) → int_lt m hi ≡ b → numbers_from (m +ℤ pos 1) (nat_abs (hi -ℤ m)) ≡ above m hi
    by true e = sym (above_if true m hi e)
    by false e =
        let none : nat_abs (hi -ℤ m) ≡ 0 = omega (arith, ints) in
        ap (numbers_from (m +ℤ pos 1)) none ∙ sym (above_if false m hi e)

above_next : (n m hi : ℤ) → n <ℤ hi → m ≡ n +ℤ pos 1 → above n hi ≡ m ∷ above m hi
above_next n m hi l e =
    let count : nat_abs (hi -ℤ n) ≡ suc (nat_abs (hi -ℤ m)) = omega (arith, ints) in
    let within : m ≤ℤ hi = omega (arith, ints) in
    above_some n hi l
    ∙ ap (numbers_from (n +ℤ pos 1)) count
    ∙ ap (λ k. k ∷ numbers_from (k +ℤ pos 1) (nat_abs (hi -ℤ m))) (sym e)
    ∙ ap (λ ks. m ∷ ks) (above_from m hi within)

-- ---- a range

range_begins : (r : Range) → range_elements r ≡ r.0 ∷ numbers_from (r.0 +ℤ pos 1) (nat_abs (r.1 -ℤ r.0))
unfolding range_elements
range_begins r = refl

pub first_left : (r : Range) (m : ℤ) → r.0 ≤ℤ r.1 → m ≡ r.0 → range_left r None ≡ m ∷ range_left r (Some m)
first_left r m l e =
    range_begins r
    ∙ ap (λ ks. r.0 ∷ ks) (above_from r.0 r.1 l)
    ∙ ap (λ k. k ∷ above k r.1) (sym e)

pub next_given : (r : Range) (last : Option ℤ) (n m : ℤ) → last ≡ Some n → n <ℤ r.1 → m ≡ n +ℤ pos 1 → range_left r last ≡ m ∷ above m r.1
next_given r last n m e l h = ap (range_left r) e ∙ above_next n m r.1 l h

pub none_next : (r : Range) (last : Option ℤ) (n : ℤ) → last ≡ Some n → r.1 ≤ℤ n → range_left r last ≡ []
none_next r last n e l = ap (range_left r) e ∙ above_none n r.1 l

-- ---- ranges, from a place on

pub canonical_at : (rs : List Range) (i : ℕ) (d : Range) → AreCanonical rs → i < length rs → (get_or rs i d).0 ≤ℤ (get_or rs i d).1
canonical_at [] i d h lt = absurd (omega arith)
canonical_at (r ∷ rs) zero d h lt = h.0
canonical_at (r ∷ rs) (suc i) d h lt = canonical_at rs i d h.2 (omega arith)

pub no_numbers : (rs : List Range) (i : ℕ) (last : Option ℤ) → length rs ≤ i → numbers_left (drop i rs) last ≡ []
no_numbers rs i last l = at_drop_all (λ zs. numbers_left zs last) rs i l

pub no_elements : (rs : List Range) (i : ℕ) → length rs ≤ i → elements (drop i rs) ≡ []
no_elements rs i l = at_drop_all (λ zs. elements zs) rs i l

pub elements_at : (rs : List Range) (i : ℕ) (d : Range) (m : ℤ) → AreCanonical rs → i < length rs → m ≡ (get_or rs i d).0 → elements (drop i rs) ≡ m ∷ numbers_left (drop i rs) (Some m)
elements_at rs i d m h l e =
    at_drop_more (λ zs. elements zs) rs i d l
    ∙ ap (λ ks. ks ++ elements (drop (i + 1) rs)) (first_left (get_or rs i d) m (canonical_at rs i d h l) e)
    ∙ sym (ap (λ ks. m ∷ ks) (at_drop_more (λ zs. numbers_left zs (Some m)) rs i d l))

-- the range at the place has a next number
pub numbers_on : (rs : List Range) (i : ℕ) (d : Range) (last : Option ℤ) (n : ℤ) → i < length rs → range_left (get_or rs i d) last ≡ n ∷ range_left (get_or rs i d) (Some n) → numbers_left (drop i rs) last ≡ n ∷ numbers_left (drop i rs) (Some n)
numbers_on rs i d last n l e =
    at_drop_more (λ zs. numbers_left zs last) rs i d l
    ∙ ap (λ ks. ks ++ elements (drop (i + 1) rs)) e
    ∙ sym (ap (λ ks. n ∷ ks) (at_drop_more (λ zs. numbers_left zs (Some n)) rs i d l))

-- it has none
pub numbers_over : (rs : List Range) (i : ℕ) (d : Range) (last : Option ℤ) → i < length rs → range_left (get_or rs i d) last ≡ [] → numbers_left (drop i rs) last ≡ elements (drop (i + 1) rs)
numbers_over rs i d last l e =
    at_drop_more (λ zs. numbers_left zs last) rs i d l
    ∙ ap (λ ks. ks ++ elements (drop (i + 1) rs)) e
