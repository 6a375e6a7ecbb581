-- Sets are read again.
use Rattle.std.proofs.lemmas.Bool.{and_parts}
use Rattle.std.proofs.Common.{◌≡◌, ℕ, zero, suc, List, [], ◌∷◌, ◌++◌, map, Bool, true, false, refl, sym, ap, subst, ◌∙◌, arith, rules, inl, inr, Some, None, append_assoc, flat_map, codes, Contains}
use Rattle.std.specs.Prelude.{◌⊎◌, ◌||◌, ℤ, pos, negsuc, ◌+ℤ◌, ◌-ℤ◌, ◌≤ℤ◌, ◌<ℤ◌, nat_abs, nat_eq, int_le}
use Rattle.std.specs.List.{AllByRecursion, list_all}
use Rattle.std.specs.Fmt.{digits, decimal, signed_decimal}
use Rattle.std.proofs.lemmas.Int.{ints}
use Rattle.mz_value.specs.Ranges.{Range, AreCanonical, AreInLimit, Has, IsIn, IsInLimit, IsSetOf, least, greatest}
use Rattle.mz_value.proofs.Comparisons.{int_le_true, int_lt_false}
use Rattle.fz_items.specs.Bytes.{first_byte, is_digit}
use Rattle.fz_items.specs.Items.{interval as interval_set, is_in_limit, listed}
use Rattle.fz_items.proofs.SetLemmas.{listed_is}
use Rattle.fz_text_read.specs.Tokens.{behind, number_at, range_at, interval_at, interval_from}
use Rattle.fz_text_read.specs.Lists.{braces_at, filled_at, set_at}
use Rattle.fz_text.specs.Spelling.{braces, commas, elements, interval, numbers, numbers_from, set}
use Rattle.fz_text.proofs.Commas.{after_first, join_is}
use Rattle.fz_text.proofs.Prefixes.{all_append, below_past, is_wide, first_digit, not_behind, number_again, numeral, other_byte}
use Rattle.fz_text.proofs.PartsAgain.{Again, filled_again, stop_is_no_digit}

-- ---- `l..u`

pub dots : (bs : List ℕ) → behind (codes "..") (codes ".." ++ bs) ≡ Some bs
unfolding behind
dots bs = refl

pub interval_parts : (r : Range) (rest : List ℕ) → interval r ++ rest ≡ signed_decimal r.0 ++ (codes ".." ++ (signed_decimal r.1 ++ rest))
interval_parts r rest = append_assoc (signed_decimal r.0 ++ codes "..") (signed_decimal r.1) rest ∙ append_assoc (signed_decimal r.0) (codes "..") (signed_decimal r.1 ++ rest)

pub range_again : (r : Range) (rest : List ℕ) → IsInLimit r.0 → IsInLimit r.1 → is_digit (first_byte rest) ≡ false → range_at (interval r ++ rest) ≡ Some (r, rest)
unfolding range_at
range_again r rest low high stop =
    rw (interval_parts r rest) (rw (number_again r.0 (codes ".." ++ (signed_decimal r.1 ++ rest)) low refl) (rw (dots (signed_decimal r.1 ++ rest)) (rw (number_again r.1 rest high stop) refl)))

pub from_again : (r : Range) (s : List Range) (rest : List ℕ) → IsInLimit r.1 → interval_set r.0 r.1 ≡ Some s → is_digit (first_byte rest) ≡ false → interval_from r.0 (signed_decimal r.1 ++ rest) ≡ Some (s, rest)
unfolding interval_from
from_again r s rest high is stop = rw (number_again r.1 rest high stop) (rw is refl)

pub interval_again : (r : Range) (s : List Range) (rest : List ℕ) → IsInLimit r.0 → IsInLimit r.1 → interval_set r.0 r.1 ≡ Some s → is_digit (first_byte rest) ≡ false → interval_at (interval r ++ rest) ≡ Some (s, rest)
unfolding interval_at
interval_again r s rest low high is stop =
    rw (interval_parts r rest) (rw (number_again r.0 (codes ".." ++ (signed_decimal r.1 ++ rest)) low refl) (rw (dots (signed_decimal r.1 ++ rest)) (from_again r s rest high is stop)))

limit_is : (n : ℤ) → IsInLimit n → is_in_limit n ≡ true
limit_is n h = rw (int_le_true least n h.0, int_le_true n greatest h.1) refl

-- the one range of a set
pub one_range : (r : Range) → r.0 ≤ℤ r.1 → IsInLimit r.0 → IsInLimit r.1 → interval_set r.0 r.1 ≡ Some (r ∷ [])
one_range r h low high = rw (int_lt_false r.1 r.0 h, limit_is r.0 low, limit_is r.1 high) refl

-- the empty set is written as this range
pub empty_text : codes "1..0" ≡ interval (pos 1, pos 0)
unfolding digits
empty_text = refl

-- ---- the elements of ranges

to_head : (x : ℤ) (xs : List ℤ) → Contains (x ∷ xs) x
to_head x xs = (0, omega arith, refl)

to_tail : (x y : ℤ) (xs : List ℤ) → Contains xs y → Contains (x ∷ xs) y
to_tail x y xs h = (suc h.0, omega (arith, h.1), h.2)

from_cons : (x y : ℤ) (xs : List ℤ) → Contains (x ∷ xs) y → (x ≡ y) ⊎ Contains xs y
from_cons x y xs (zero, below, e) = inl e
from_cons x y xs (suc k, below, e) = inr (k, omega arith, e)

none_in : (y : ℤ) → Contains [] y → ⊥
none_in y h = omega (arith, h.1)

in_append : (xs ys : List ℤ) (y : ℤ) → Contains xs y ⊎ Contains ys y → Contains (xs ++ ys) y
in_append [] ys y (inl h) = absurd (none_in y h)
in_append [] ys y (inr h) = h
in_append (x ∷ xs) ys y (inl (zero, below, e)) = (zero, omega arith, e)
in_append (x ∷ xs) ys y (inl (suc k, below, e)) = to_tail x y (xs ++ ys) (in_append xs ys y (inl (k, omega arith, e)))
in_append (x ∷ xs) ys y (inr h) = to_tail x y (xs ++ ys) (in_append xs ys y (inr h))

of_append : (xs ys : List ℤ) (y : ℤ) → Contains (xs ++ ys) y → Contains xs y ⊎ Contains ys y
of_append [] ys y h = inr h
of_append (x ∷ xs) ys y (zero, below, e) = inl (zero, omega arith, e)
of_append (x ∷ xs) ys y (suc k, below, e) = elim (of_append xs ys y (k, omega arith, e)) [ inl l ↦ inl (to_tail x y xs l) | inr r ↦ inr r ]

from_is : (n : ℤ) (m : ℕ) (y : ℤ) → Contains (numbers_from n m) y → (n ≤ℤ y) × (y <ℤ (n +ℤ pos m))
from_is n zero y h = absurd (none_in y h)
from_is n (suc m) y h = by (from_cons n y (numbers_from (n +ℤ pos 1) m) h) (from_is (n +ℤ pos 1) m y)
  where
    by : (n ≡ y) ⊎ Contains (numbers_from (n +ℤ pos 1) m) y → (Contains (numbers_from (n +ℤ pos 1) m) y → ((n +ℤ pos 1) ≤ℤ y) × (y <ℤ ((n +ℤ pos 1) +ℤ pos m))) → (n ≤ℤ y) × (y <ℤ (n +ℤ pos (suc m)))
    by (inl e) rest = (omega (arith, ints), omega (arith, ints))
    by (inr r) rest = let ends = rest r in (omega (arith, ints, ends.0), omega (arith, ints, ends.1))

is_from : (n : ℤ) (m : ℕ) (y : ℤ) → n ≤ℤ y → y <ℤ (n +ℤ pos m) → Contains (numbers_from n m) y
is_from n zero y low high = absurd (omega (arith, ints))
is_from n (suc m) y low high = by (int_le y n) refl (λ l. is_from (n +ℤ pos 1) m y l (omega (arith, ints)))
  where
    by : (t : Bool) → int_le y n ≡ t → ((n +ℤ pos 1) ≤ℤ y → Contains (numbers_from (n +ℤ pos 1) m) y) → Contains (n ∷ numbers_from (n +ℤ pos 1) m) y
    by true e rest = let same : n ≡ y = omega (arith, ints, e) in subst (λ z. Contains (z ∷ numbers_from (n +ℤ pos 1) m) y) (sym same) (to_head y (numbers_from (n +ℤ pos 1) m))
    by false e rest = to_tail n y (numbers_from (n +ℤ pos 1) m) (rest (omega (arith, ints, e)))

-- the number after a range
past_end : (lo hi : ℤ) → lo ≤ℤ hi → (lo +ℤ pos (suc (nat_abs (hi -ℤ lo)))) ≡ (hi +ℤ pos 1)
past_end lo hi h = first_of (grind (arith, ints), omega (arith, ints))

elements_are : (r : Range) (y : ℤ) → r.0 ≤ℤ r.1 → Contains (elements r) y → IsIn r y
unfolding elements
elements_are r y h c =
    let is = from_is r.0 (suc (nat_abs (r.1 -ℤ r.0))) y c in
    let below : y <ℤ (r.1 +ℤ pos 1) = subst (λ z. y <ℤ z) (past_end r.0 r.1 h) is.1 in
    (is.0, omega (arith, ints, below))

are_elements : (r : Range) (y : ℤ) → r.0 ≤ℤ r.1 → IsIn r y → Contains (elements r) y
unfolding elements
are_elements r y h is =
    let below : y <ℤ (r.1 +ℤ pos 1) = omega (arith, ints, is.1) in
    is_from r.0 (suc (nat_abs (r.1 -ℤ r.0))) y is.0 (subst (λ z. y <ℤ z) (sym (past_end r.0 r.1 h)) below)

pub members : (s : List Range) → AreCanonical s → IsSetOf (flat_map elements s) s
members [] c y = (λ h. absurd h, λ h. absurd (none_in y h))
members (r ∷ rs) c y = let rest = members rs c.2 y in (λ h. there rest.0 h, λ h. back rest.1 (of_append (elements r) (flat_map elements rs) y h))
  where
    there : (Has rs y → Contains (flat_map elements rs) y) → Has (r ∷ rs) y → Contains (elements r ++ flat_map elements rs) y
    there rest (inl h) = in_append (elements r) (flat_map elements rs) y (inl (are_elements r y c.0 h))
    there rest (inr h) = in_append (elements r) (flat_map elements rs) y (inr (rest h))

    back : (Contains (flat_map elements rs) y → Has rs y) → Contains (elements r) y ⊎ Contains (flat_map elements rs) y → Has (r ∷ rs) y
    back rest (inl h) = inl (elements_are r y c.0 h)
    back rest (inr h) = inr (rest h)

from_in_limit : (n : ℤ) (m : ℕ) (high : ℤ) → (n +ℤ pos m) ≤ℤ (high +ℤ pos 1) → IsInLimit high → least ≤ℤ n → list_all is_in_limit (numbers_from n m) ≡ true
from_in_limit n zero high fits h low = refl
from_in_limit n (suc m) high fits h low =
    let below : n ≤ℤ high = omega (arith, ints) in
    let here : IsInLimit n = (low, omega (arith, ints, h.1)) in
    rw (limit_is n here) (from_in_limit (n +ℤ pos 1) m high (omega (arith, ints)) h (omega (arith, ints)))

pub elements_in_limit : (s : List Range) → AreCanonical s → AreInLimit s → list_all is_in_limit (flat_map elements s) ≡ true
unfolding elements
elements_in_limit [] c l = refl
elements_in_limit (r ∷ rs) c l =
    all_append is_in_limit (elements r) (flat_map elements rs) (from_in_limit r.0 (suc (nat_abs (r.1 -ℤ r.0))) r.1 (subst (λ z. z ≤ℤ (r.1 +ℤ pos 1)) (sym (past_end r.0 r.1 c.0)) (omega (arith, ints))) l.1 l.0.0) (elements_in_limit rs c.2 l.2)

pub listed_again : (s : List Range) → AreCanonical s → AreInLimit s → listed (flat_map elements s) ≡ Some s
listed_again s c l = listed_is (flat_map elements s) s (elements_in_limit s c l) (members s c) c

-- ---- sets in braces

numbers_commas : (x : ℤ) (xs : List ℤ) → numbers (x ∷ xs) ≡ commas (map signed_decimal (x ∷ xs))
unfolding commas
numbers_commas x xs = join_is signed_decimal x xs ∙ ap (λ t. signed_decimal x ++ t) (sym (after_first signed_decimal xs))

pub in_limit : (n : ℤ) → is_in_limit n ≡ true → IsInLimit n
in_limit n e = let parts = and_parts (int_le least n) (int_le n greatest) e in search (rules, parts)

each_number : (ns : List ℤ) → list_all is_in_limit ns ≡ true → AllByRecursion (Again number_at signed_decimal) ns
each_number [] e = tt
each_number (n ∷ ns) e =
    let parts = and_parts (is_in_limit n) (list_all is_in_limit ns) e in
    (λ rest stop. number_again n rest (in_limit n parts.0) (stop_is_no_digit (first_byte rest) stop), each_number ns parts.1)

closes : (rest : List ℕ) → behind (codes "}") (codes "}" ++ rest) ≡ Some rest
unfolding behind
closes rest = refl

filled_numbers : (n : ℤ) (ns : List ℤ) (rest : List ℕ) → list_all is_in_limit (n ∷ ns) ≡ true → filled_at (codes "}") number_at (numbers (n ∷ ns) ++ (codes "}" ++ rest)) ≡ Some (n ∷ ns, rest)
filled_numbers n ns rest all =
    ap (λ t. filled_at (codes "}") number_at (t ++ (codes "}" ++ rest))) (numbers_commas n ns)
    ∙ filled_again (codes "}") number_at signed_decimal n ns rest (each_number (n ∷ ns) all) refl (closes rest)

-- the elements of a set that isn't empty
pub braces_again : (r : Range) (rs : List Range) (rest : List ℕ) → AreCanonical (r ∷ rs) → AreInLimit (r ∷ rs) → braces_at (numbers (flat_map elements (r ∷ rs)) ++ (codes "}" ++ rest)) ≡ Some (r ∷ rs, rest)
unfolding braces_at elements
braces_again r rs rest c l =
    rw (filled_numbers r.0 (numbers_from (r.0 +ℤ pos 1) (nat_abs (r.1 -ℤ r.0)) ++ flat_map elements rs) rest (elements_in_limit (r ∷ rs) c l)) (rw (listed_again (r ∷ rs) c l) refl)

pub braces_text : (rs : List Range) (rest : List ℕ) → braces rs ++ rest ≡ 123 ∷ (numbers (flat_map elements rs) ++ (codes "}" ++ rest))
braces_text rs rest = ap (λ t. 123 ∷ t) (append_assoc (numbers (flat_map elements rs)) (codes "}") rest)

-- ---- any set

-- what a set's text begins with
abbrev pub is_set_byte : ℕ → Bool
is_set_byte b = is_digit b || (nat_eq b 45 || nat_eq b 123)

pub number_first : (n : ℤ) (rest : List ℕ) → IsInLimit n → is_set_byte (first_byte (signed_decimal n ++ rest)) ≡ true
number_first (pos k) rest h = let is = numeral k (is_wide k (below_past k h)) in rw (first_digit (decimal k) rest is.digits is.some) refl
number_first (negsuc k) rest h = refl

pub set_first : (s : List Range) (rest : List ℕ) → AreInLimit s → is_set_byte (first_byte (set s ++ rest)) ≡ true
unfolding set
set_first [] rest l = refl
set_first (r ∷ []) rest l = ap (λ t. is_set_byte (first_byte t)) (interval_parts r rest) ∙ number_first r.0 (codes ".." ++ (signed_decimal r.1 ++ rest)) l.0
set_first (r ∷ t ∷ rs) rest l = refl

pub no_brace : (n : ℤ) (rest : List ℕ) → IsInLimit n → behind (codes "{") (signed_decimal n ++ rest) ≡ None
no_brace (pos k) rest h = let is = numeral k (is_wide k (below_past k h)) in not_behind 123 [] (decimal k ++ rest) (other_byte is_digit (first_byte (decimal k ++ rest)) 123 (first_digit (decimal k) rest is.digits is.some) refl)
no_brace (negsuc k) rest h = not_behind 123 [] (45 ∷ (decimal (suc k) ++ rest)) refl

pub no_brace_at : (r : Range) (rest : List ℕ) → IsInLimit r.0 → behind (codes "{") (interval r ++ rest) ≡ None
no_brace_at r rest low = ap (behind (codes "{")) (interval_parts r rest) ∙ no_brace r.0 (codes ".." ++ (signed_decimal r.1 ++ rest)) low

interval_set_again : (r : Range) (s : List Range) (rest : List ℕ) → IsInLimit r.0 → IsInLimit r.1 → interval_set r.0 r.1 ≡ Some s → is_digit (first_byte rest) ≡ false → set_at (interval r ++ rest) ≡ Some (s, rest)
unfolding set_at
interval_set_again r s rest low high is stop = rw (no_brace_at r rest low) (interval_again r s rest low high is stop)

pub brace : (bs : List ℕ) → behind (codes "{") (123 ∷ bs) ≡ Some bs
unfolding behind
brace bs = refl

pub one_in_limit : IsInLimit (pos 1)
one_in_limit = by refl refl
  where
    by : int_le least (pos 1) ≡ true → int_le (pos 1) greatest ≡ true → IsInLimit (pos 1)
    by low high = search (rules, low, high)

pub zero_in_limit : IsInLimit (pos 0)
zero_in_limit = by refl refl
  where
    by : int_le least (pos 0) ≡ true → int_le (pos 0) greatest ≡ true → IsInLimit (pos 0)
    by low high = search (rules, low, high)

-- a set's text is read again, where no digit follows it
pub set_again : (s : List Range) (rest : List ℕ) → AreCanonical s → AreInLimit s → is_digit (first_byte rest) ≡ false → set_at (set s ++ rest) ≡ Some (s, rest)
unfolding set set_at
set_again [] rest c l stop = ap (λ t. set_at (t ++ rest)) empty_text ∙ interval_set_again (pos 1, pos 0) [] rest one_in_limit zero_in_limit refl stop
set_again (r ∷ []) rest c l stop = interval_set_again r (r ∷ []) rest l.0 l.1 (one_range r c.0 l.0 l.1) stop
set_again (r ∷ t ∷ rs) rest c l stop = rw (braces_text (r ∷ t ∷ rs) rest) (rw (brace (numbers (flat_map elements (r ∷ t ∷ rs)) ++ (codes "}" ++ rest))) (braces_again r (t ∷ rs) rest c l))
