-- A set lies in a domain exactly where all its numbers do.
use Rattle.std.proofs.Common.{◌≡◌, suc, ℤ, pos, ◌+ℤ◌, length, eqb-true, ne_eqb, int_le, int_lt, Bool, true, false, ◌&&◌, List, [], ◌∷◌, refl, arith, inl, inr, ◌⊎◌}
use Rattle.std.specs.List.{list_any}
use Rattle.std.proofs.lemmas.Bool.{and_parts, or_left, or_right}
use Rattle.std.proofs.lemmas.Int.{ints}
use Rattle.mz_value.specs.Ranges.{Range, AreCanonical, AreInLimit, IsInLimit, Has}
use Rattle.mz_value.proofs.Comparisons.{int_le_true, int_lt_true}
use Rattle.mz_value.proofs.Gaps.{has_limit}
use Rattle.mz_interval.specs.Ends.{is_number, least_number, greatest_number}
use Rattle.mz_operations.specs.Laws.{IsSet}
use Rattle.mz_operations.specs.Sets.{contains, is_within, is_empty_set, is_subset, difference}
use Rattle.mz_operations.proofs.SetBounds.{contains_has}
use Rattle.mz_operations.proofs.SetMembers.{difference_members, difference_set}
use Rattle.mz_meaning.specs.Domains.{is_canonical, is_limited, is_part}

pub and_true : (a b : Bool) → a ≡ true → b ≡ true → a && b ≡ true
and_true a b first second = rw (first, second) refl

-- ---- members

pub has_contains : (u : List Range) (n : ℤ) → Has u n → contains u n ≡ true
unfolding contains
has_contains [] n has = absurd has
has_contains (r ∷ rs) n (inl within) =
    let here : is_within r n ≡ true = and_true _ _ (int_le_true r.0 n within.0) (int_le_true n r.1 within.1) in
    or_left (is_within r n) (list_any (λ r. is_within r n) rs) here
has_contains (r ∷ rs) n (inr has) = or_right (is_within r n) (list_any (λ r. is_within r n) rs) (has_contains rs n has)

has_or_not : (u : List Range) (n : ℤ) → Has u n ⊎ (Has u n → ⊥)
has_or_not u n = by (contains u n) refl
  where
    by : (b : Bool) → contains u n ≡ b → Has u n ⊎ (Has u n → ⊥)
    by true e = inl (contains_has u n e)
    by false e = inr (λ has. let there = has_contains u n has in absurd (cc))

pub some_not_empty : (u : List Range) (n : ℤ) → Has u n → is_empty_set u ≡ false
some_not_empty [] n has = absurd has
some_not_empty (r ∷ rs) n has = ne_eqb (suc (length rs)) 0 (λ e. omega (arith, e))

empty_has_none : (u : List Range) (n : ℤ) → is_empty_set u ≡ true → Has u n → ⊥
empty_has_none [] n empty has = has
empty_has_none (r ∷ rs) n empty has = let e = eqb-true (suc (length rs)) 0 empty in omega (arith, e)

none_is_empty : (u : List Range) → AreCanonical u → ((n : ℤ) → Has u n → ⊥) → is_empty_set u ≡ true
none_is_empty [] canonical none = refl
none_is_empty (r ∷ rs) canonical none = absurd (none r.0 (inl (omega (arith, ints), canonical.0)))

-- ---- canonical lists within the limit

pub canonical_test : (s : List Range) → AreCanonical s → is_canonical s ≡ true
unfolding is_canonical
canonical_test [] canonical = refl
canonical_test (r ∷ []) canonical = int_le_true r.0 r.1 canonical.0
canonical_test (r ∷ t ∷ rs) canonical = rw (int_le_true r.0 r.1 canonical.0, int_lt_true _ _ canonical.1, canonical_test (t ∷ rs) canonical.2) refl

pub test_canonical : (s : List Range) → is_canonical s ≡ true → AreCanonical s
unfolding is_canonical
test_canonical [] test = tt
test_canonical (r ∷ []) test = (grind (arith, ints), tt, tt)
test_canonical (r ∷ t ∷ rs) test =
    let first = and_parts (int_le r.0 r.1) (int_lt (r.1 +ℤ pos 1) t.0 && is_canonical (t ∷ rs)) test in
    let second = and_parts (int_lt (r.1 +ℤ pos 1) t.0) (is_canonical (t ∷ rs)) first.1 in
    let ordered = first.0 in
    let apart = second.0 in
    (grind (arith, ints), grind (arith, ints), test_canonical (t ∷ rs) second.1)

number_test : (n : ℤ) → IsInLimit n → is_number n ≡ true
number_test n limit = and_true _ _ (int_le_true _ _ limit.0) (int_le_true _ _ limit.1)

limited_test : (s : List Range) → AreInLimit s → is_limited s ≡ true
limited_test [] limit = refl
limited_test (r ∷ rs) limit = rw (number_test r.0 limit.0, number_test r.1 limit.1, limited_test rs limit.2) refl

test_number : (n : ℤ) → is_number n ≡ true → IsInLimit n
test_number n test =
    let parts = and_parts (int_le least_number n) (int_le n greatest_number) test in
    let least = parts.0 in
    let greatest = parts.1 in
    (grind (arith, ints), grind (arith, ints))

test_limited : (s : List Range) → is_limited s ≡ true → AreInLimit s
test_limited [] test = tt
test_limited (r ∷ rs) test =
    let first = and_parts (is_number r.0 && is_number r.1) (is_limited rs) test in
    let ends = and_parts (is_number r.0) (is_number r.1) first.0 in
    (test_number r.0 ends.0, test_number r.1 ends.1, test_limited rs first.1)

-- ---- parts of a set

part_limited : (s u : List Range) → AreCanonical s → AreInLimit u → ((n : ℤ) → Has s n → Has u n) → AreInLimit s
part_limited [] u canonical limit part = tt
part_limited (r ∷ rs) u canonical limit part =
    (has_limit r.0 u limit (part r.0 (inl (omega (arith, ints), canonical.0))), has_limit r.1 u limit (part r.1 (inl (canonical.0, omega (arith, ints)))), part_limited rs u canonical.2 limit (λ n has. part n (inr has)))

pub part_test : (u s : List Range) → IsSet u → AreCanonical s → ((n : ℤ) → Has s n → Has u n) → is_part u s ≡ true
part_test u s set canonical part =
    let limit = part_limited s u canonical set.1 part in
    let members = difference_members s u (canonical, limit) set in
    let none = none_is_empty (difference s u) (difference_set s u (canonical, limit) set).0 (λ n has. let both = (members n).0 has in both.1 (part n both.0)) in
    and_true _ _ (canonical_test s canonical) (and_true _ _ (limited_test s limit) none)

pub test_part : (u s : List Range) → IsSet u → is_part u s ≡ true → AreCanonical s × ((n : ℤ) → Has s n → Has u n)
test_part u s set test =
    let first = and_parts (is_canonical s) (is_limited s && is_subset s u) test in
    let second = and_parts (is_limited s) (is_subset s u) first.1 in
    let canonical = test_canonical s first.0 in
    let members = difference_members s u (canonical, test_limited s second.0) set in
    (canonical, λ n has. elim (has_or_not u n) [ inl there ↦ there | inr not_there ↦ absurd (empty_has_none (difference s u) n second.1 ((members n).1 (has, not_there))) ])
