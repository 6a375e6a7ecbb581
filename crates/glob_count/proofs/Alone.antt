-- A set in the limit has what no range has exactly where an end of one of its ranges lies outside.
use Rattle.std.proofs.Common.{◌≡◌, ◌∙◌, ℤ, pos, ◌-ℤ◌, ◌+ℤ◌, ◌≤ℤ◌, ◌<ℤ◌, List, [], ◌∷◌, ◌++◌, Bool, false, ◌&&◌, int_le, refl, sym, ap, arith, append_assoc}
use Rattle.std.proofs.lemmas.Bool.Decides.{nat_tests}
use Rattle.std.proofs.lemmas.Int.{ints, clamps, by_lt_z}
use Rattle.std.specs.Int.{int_max, int_min}
use Rattle.std.specs.List.{flat_map, list_all}
use Rattle.mz_value.specs.Ranges.{Range, AreCanonical, AreInLimit, IsInLimit, least, greatest, range_of}
use Rattle.mz_value.proofs.Comparisons.{int_le_false, int_le_true}
use Rattle.mz_value.proofs.Walking.{range_of_none, range_of_some}
use Rattle.mz_operations.specs.Sets.{complement, difference, intersection, is_empty_set, missing_from, overlap}
use Rattle.mz_globals.specs.Counting.{holds_only}

-- the ends of a range lie in another
abbrev lies : Range → Range → Bool
lies w r = int_le w.0 r.0 && int_le r.1 w.1

-- ---- what a range has in common with others

abbrev common : Range → List Range → List Range
common r ss = flat_map (overlap r) ss

one_apart : (r s : Range) → int_min r.1 s.1 <ℤ int_max r.0 s.0 → common r (s ∷ []) ≡ []
one_apart r s h = ap (λ ts. ts ++ []) (range_of_none (int_max r.0 s.0) (int_min r.1 s.1) h)

one_shared : (r s : Range) → int_max r.0 s.0 ≤ℤ int_min r.1 s.1 → common r (s ∷ []) ≡ (int_max r.0 s.0, int_min r.1 s.1) ∷ []
one_shared r s h = ap (λ ts. ts ++ []) (range_of_some (int_max r.0 s.0) (int_min r.1 s.1) h)

-- nothing below what it begins with, and nothing above what it ends with
none_below : (r : Range) (lo : ℤ) → lo ≤ℤ r.0 → common r (range_of least (lo -ℤ pos 1)) ≡ []
none_below r lo h = by_lt_z (lo -ℤ pos 1) least
    (λ e. ap (common r) (range_of_none least (lo -ℤ pos 1) e))
    (λ l. ap (common r) (range_of_some least (lo -ℤ pos 1) l) ∙ one_apart r (least, lo -ℤ pos 1) (omega (arith, ints, clamps)))

none_above : (r : Range) (hi : ℤ) → r.1 ≤ℤ hi → common r (range_of (hi +ℤ pos 1) greatest) ≡ []
none_above r hi h = by_lt_z greatest (hi +ℤ pos 1)
    (λ e. ap (common r) (range_of_none (hi +ℤ pos 1) greatest e))
    (λ l. ap (common r) (range_of_some (hi +ℤ pos 1) greatest l) ∙ one_apart r (hi +ℤ pos 1, greatest) (omega (arith, ints, clamps)))

some_below : (r : Range) (lo : ℤ) → r.0 ≤ℤ r.1 → IsInLimit r.0 → r.0 <ℤ lo → common r (range_of least (lo -ℤ pos 1)) ≡ (int_max r.0 least, int_min r.1 (lo -ℤ pos 1)) ∷ []
some_below r lo n l h =
    ap (common r) (range_of_some least (lo -ℤ pos 1) (omega (arith, ints, l.0)))
    ∙ one_shared r (least, lo -ℤ pos 1) (omega (arith, ints, clamps, l.0))

some_above : (r : Range) (hi : ℤ) → r.0 ≤ℤ r.1 → IsInLimit r.1 → hi <ℤ r.1 → common r (range_of (hi +ℤ pos 1) greatest) ≡ (int_max r.0 (hi +ℤ pos 1), int_min r.1 greatest) ∷ []
some_above r hi n l h =
    ap (common r) (range_of_some (hi +ℤ pos 1) greatest (omega (arith, ints, l.1)))
    ∙ one_shared r (hi +ℤ pos 1, greatest) (omega (arith, ints, clamps, l.1))

common_both : (r : Range) (ss ts : List Range) → common r (ss ++ ts) ≡ common r ss ++ common r ts
common_both r [] ts = refl
common_both r (s ∷ ss) ts = ap (λ us. overlap r s ++ us) (common_both r ss ts) ∙ sym (append_assoc (overlap r s) (common r ss) (common r ts))

not_empty : (s : Range) (ss : List Range) → is_empty_set (s ∷ ss) ≡ false
not_empty s ss = grind (arith, nat_tests)

empty_both : (ss ts : List Range) → is_empty_set (ss ++ ts) ≡ (is_empty_set ss && is_empty_set ts)
empty_both [] ts = refl
empty_both (s ∷ ss) ts = not_empty s (ss ++ ts) ∙ ap (λ b. b && is_empty_set ts) (sym (not_empty s ss))

-- ---- what a range has that another has not

outside : (lo hi : ℤ) → lo ≤ℤ hi → complement (range_of lo hi) ≡ range_of least (lo -ℤ pos 1) ++ range_of (hi +ℤ pos 1) greatest
unfolding complement missing_from
outside lo hi h = ap (missing_from least) (range_of_some lo hi h)

outside_none : (lo hi : ℤ) → hi <ℤ lo → complement (range_of lo hi) ≡ (least, greatest) ∷ []
unfolding complement missing_from
outside_none lo hi h = ap (missing_from least) (range_of_none lo hi h)

both_tests : (a b c d : Bool) → a ≡ c → b ≡ d → (a && b) ≡ (c && d)
both_tests a b c d p q = cc

below_told : (w r : Range) → r.0 ≤ℤ r.1 → IsInLimit r.0 → is_empty_set (common r (range_of least (w.0 -ℤ pos 1))) ≡ int_le w.0 r.0
below_told w r n l = by_lt_z r.0 w.0
    (λ h. ap is_empty_set (some_below r w.0 n l h) ∙ not_empty (int_max r.0 least, int_min r.1 (w.0 -ℤ pos 1)) [] ∙ sym (int_le_false w.0 r.0 h))
    (λ h. ap is_empty_set (none_below r w.0 h) ∙ sym (int_le_true w.0 r.0 h))

above_told : (w r : Range) → r.0 ≤ℤ r.1 → IsInLimit r.1 → is_empty_set (common r (range_of (w.1 +ℤ pos 1) greatest)) ≡ int_le r.1 w.1
above_told w r n l = by_lt_z w.1 r.1
    (λ h. ap is_empty_set (some_above r w.1 n l h) ∙ not_empty (int_max r.0 (w.1 +ℤ pos 1), int_min r.1 greatest) [] ∙ sym (int_le_false r.1 w.1 h))
    (λ h. ap is_empty_set (none_above r w.1 h) ∙ sym (int_le_true r.1 w.1 h))

-- nothing lies in a range that has no number
never : (w r : Range) → r.0 ≤ℤ r.1 → w.1 <ℤ w.0 → lies w r ≡ false
never w r n h = by_lt_z r.0 w.0
    (λ l. ap (λ b. b && int_le r.1 w.1) (int_le_false w.0 r.0 l))
    (λ l. ap (λ b. b && int_le r.1 w.1) (int_le_true w.0 r.0 l) ∙ int_le_false r.1 w.1 (omega (arith, ints)))

one_told : (w r : Range) → r.0 ≤ℤ r.1 → IsInLimit r.0 → IsInLimit r.1 → is_empty_set (common r (complement (range_of w.0 w.1))) ≡ lies w r
one_told w r n l m = by_lt_z w.1 w.0
    (λ h.
    ap (λ ss. is_empty_set (common r ss)) (outside_none w.0 w.1 h)
    ∙ ap is_empty_set (one_shared r (least, greatest) (omega (arith, ints, clamps, l.0, m.1)))
    ∙ not_empty (int_max r.0 least, int_min r.1 greatest) []
    ∙ sym (never w r n h))
    (λ h.
    ap (λ ss. is_empty_set (common r ss)) (outside w.0 w.1 h)
    ∙ ap is_empty_set (common_both r (range_of least (w.0 -ℤ pos 1)) (range_of (w.1 +ℤ pos 1) greatest))
    ∙ empty_both (common r (range_of least (w.0 -ℤ pos 1))) (common r (range_of (w.1 +ℤ pos 1) greatest))
    ∙ both_tests (is_empty_set (common r (range_of least (w.0 -ℤ pos 1)))) (is_empty_set (common r (range_of (w.1 +ℤ pos 1) greatest))) (int_le w.0 r.0) (int_le r.1 w.1) (below_told w r n l) (above_told w r n m))

pub holds_by_ends : (w : Range) (s : List Range) → AreCanonical s → AreInLimit s → list_all (lies w) s ≡ holds_only w s
unfolding difference intersection
holds_by_ends w [] c l = refl
holds_by_ends w (r ∷ rs) c l =
    both_tests (lies w r) (list_all (lies w) rs) (is_empty_set (common r (complement (range_of w.0 w.1)))) (holds_only w rs) (sym (one_told w r c.0 l.0 l.1)) (holds_by_ends w rs c.2 l.2)
    ∙ sym (empty_both (common r (complement (range_of w.0 w.1))) (difference rs (range_of w.0 w.1)))
