-- A node's term lies in its bounds where its parts' terms do, kind by kind.
use Rattle.std.proofs.Common.{◌≡◌, ℤ, pos, List, [], ◌∷◌, Bool, true, false, cond, ◌&&◌, Option, Some, None, refl, sym, subst, arith}
use Rattle.std.specs.Option.{option_and_then, option_map}
use Rattle.std.specs.Ordering.{int_eq}
use Rattle.std.proofs.lemmas.Int.{ints}
use Rattle.mz_value.specs.Ranges.{Range}
use Rattle.mz_interval.specs.Ends.{Ends, Encloses, hull_of, is_number}
use Rattle.mz_interval.proofs.Hulls.{hull_of-left, hull_of-right}
use Rattle.mz_operations.specs.declared.row.Arith.{Arith as ArithRow}
use Rattle.mz_operations.specs.declared.row.Sign.TheVariants.{Abs as AbsRow}
use Rattle.mz_operations.specs.declared.row.Side.{Side}
use Rattle.mz_operations.specs.Views.{number_of_bool}
use Rattle.mz_operations.specs.Sets.{union}
use Rattle.mz_operations.specs.Numbers.{computed, signed, toward}
use Rattle.mz_operations.specs.Bounds.{arith_ends, sign_ends, toward_ends, extreme_from, extreme_ends}
use Rattle.mz_operations.specs.Laws.{IsPart}
use Rattle.mz_operations.proofs.Arithmetic.{toward_in, arith_encloses, sign_encloses}
use Rattle.mz_operations.proofs.SetBounds.{union_left, union_right, part_part}
use Rattle.mz_arena.specs.Values.{number, set, numbers, empty, Term, as_number, as_numbers, bit, is_true, arith_term, sign_term, extreme_number, extreme_value, extreme_term, to_int_term, if_term, guard_term}
use Rattle.mz_arena.specs.Extents.{Known, whole, truth, subset, wholes, empty as no_element, as_whole, as_truth, as_subset, as_wholes, as_single, in_limit, open_truth, is_bit, arith_bounds, arith_extent, abs_bounds, abs_extent, extreme_extent, to_int_extent, comparison_extent, connective_extent, not_extent, member_extent, set_comparison_extent, branch_extent, if_extent, guarded_extent, guard_extent, bool_extent}
use Rattle.mz_arena.specs.InBounds.{AllEnclose, LiesIn, Lies, HasSets}

-- what is there of the bounds, and what of the term
abbrev pub Meets : {A B : Type 0} → (A → B → Type 0) → Option A → Option B → Type 0
Meets m None t = Unit {0}
Meets m (Some a) None = Unit {0}
Meets m (Some a) (Some b) = m a b

-- where there are no bounds, nothing is asked
pub then_lies : {A : Type 0} (o : Option A) (f : A → Known) (t : Term) → ((a : A) → Lies (f a) t) → Lies (option_and_then f o) t
then_lies None f t h = tt
then_lies (Some a) f t h = h a

-- ---- integers

pub whole_meets : (x : Known) (s : Term) → Lies x s → Meets Encloses (as_whole x) (as_number s)
whole_meets None s h = tt
whole_meets (Some (whole e)) None h = tt
whole_meets (Some (whole e)) (Some (number n)) h = h
whole_meets (Some (whole e)) (Some _) h = tt
whole_meets (Some _) s h = tt

pub whole_none : (o : Option Ends) → Lies (option_map whole o) None
whole_none None = tt
whole_none (Some e) = tt

pub limited_lies : (e : Ends) (n : ℤ) → Encloses e n → Lies (in_limit e) (Some (number n))
limited_lies e n h = by (is_number e.0 && is_number e.1)
  where
    by : (b : Bool) → Lies (option_map whole (cond b (Some e) None)) (Some (number n))
    by true = h
    by false = tt

arith_meets : (op : ArithRow) (a b : Option Ends) (i j : Option ℤ) → Meets Encloses a i → Meets Encloses b j → Lies (option_map whole (arith_bounds op a b)) (option_and_then (λ m. option_and_then (λ n. option_and_then (λ r. Some (number r)) (computed op m n)) j) i)
arith_meets op None b i j p q = tt
arith_meets op (Some e) None i j p q = tt
arith_meets op (Some e) (Some f) None j p q = whole_none _
arith_meets op (Some e) (Some f) (Some m) None p q = whole_none _
arith_meets op (Some e) (Some f) (Some m) (Some n) p q = by (computed op m n) refl
  where
    by : (o : Option ℤ) → computed op m n ≡ o → Lies (in_limit (arith_ends op e f)) (option_and_then (λ r. Some (number r)) o)
    by None h = whole_none _
    by (Some r) h = limited_lies (arith_ends op e f) r (arith_encloses op e f m n r p q h)

pub arith_lies : (op : ArithRow) (x y : Known) (s t : Term) → Lies x s → Lies y t → Lies (arith_extent op x y) (arith_term op s t)
unfolding arith_term
arith_lies op x y s t p q = arith_meets op (as_whole x) (as_whole y) (as_number s) (as_number t) (whole_meets x s p) (whole_meets y t q)

pub abs_lies : (x : Known) (s : Term) → Lies x s → Lies (abs_extent x) (sign_term AbsRow s)
unfolding sign_term
abs_lies x s h = by (as_whole x) (as_number s) (whole_meets x s h)
  where
    by : (a : Option Ends) (i : Option ℤ) → Meets Encloses a i → Lies (option_map whole (abs_bounds a)) (option_and_then (λ n. Some (number (signed AbsRow n))) i)
    by None i p = tt
    by (Some e) None p = whole_none _
    by (Some e) (Some n) p = limited_lies (sign_ends AbsRow e) (signed AbsRow n) (sign_encloses AbsRow e n p)

-- the extremes of lists
extreme_from_in : (side : Side) (e : Ends) (n : ℤ) (es : List Ends) (ns : List ℤ) → Encloses e n → AllEnclose es ns → Encloses (extreme_from side e es) (extreme_number side n ns)
unfolding extreme_from
extreme_from_in side e n [] [] h all = h
extreme_from_in side e n [] (m ∷ ns) h all = absurd all
extreme_from_in side e n (f ∷ es) [] h all = absurd all
extreme_from_in side e n (f ∷ es) (m ∷ ns) h all = extreme_from_in side (toward_ends side e f) (toward side n m) es ns (toward_in side e f n m h all.0) all.1

pub extreme_in : (side : Side) (es : List Ends) (ns : List ℤ) → AllEnclose es ns → Lies (Some (whole (extreme_ends side es))) (extreme_value side ns)
extreme_in side [] [] all = tt
extreme_in side [] (n ∷ ns) all = absurd all
extreme_in side (e ∷ es) [] all = absurd all
extreme_in side (e ∷ es) (n ∷ ns) all = extreme_from_in side e n es ns all.0 all.1

pub wholes_meets : (y : Known) (s : Term) → Lies y s → Meets AllEnclose (as_wholes y) (as_numbers s)
wholes_meets None s h = tt
wholes_meets (Some (wholes es)) None h = tt
wholes_meets (Some (wholes es)) (Some (numbers ns)) h = h
wholes_meets (Some (wholes es)) (Some empty) h = absurd h
wholes_meets (Some (wholes es)) (Some _) h = tt
wholes_meets (Some no_element) None h = tt
wholes_meets (Some no_element) (Some empty) h = tt
wholes_meets (Some no_element) (Some (numbers ns)) h = absurd h
wholes_meets (Some no_element) (Some _) h = tt
wholes_meets (Some _) s h = tt

pub extreme_lies : (side : Side) (x : Known) (s : Term) → Lies x s → Lies (extreme_extent side x) (extreme_term side s)
unfolding extreme_term
extreme_lies side x s h = by (as_wholes x) (as_numbers s) (wholes_meets x s h)
  where
    by : (a : Option (List Ends)) (i : Option (List ℤ)) → Meets AllEnclose a i → Lies (option_map (λ es. whole (extreme_ends side es)) a) (option_and_then (extreme_value side) i)
    by None i p = tt
    by (Some es) None p = tt
    by (Some es) (Some ns) p = extreme_in side es ns p

-- ---- Booleans

pub bit_lies : (b : Bool) → Lies open_truth (bit b)
bit_lies true = record { bit = refl; inside = record { from = omega (arith, ints); to = omega (arith, ints) } }
bit_lies false = record { bit = refl; inside = record { from = omega (arith, ints); to = omega (arith, ints) } }

pub comparison_lies : (x y : Known) (b : Bool) → Lies (comparison_extent x y) (bit b)
unfolding comparison_extent
comparison_lies x y b = then_lies (as_whole x) _ (bit b) (λ e. then_lies (as_whole y) _ (bit b) (λ f. bit_lies b))

pub connective_lies : (x y : Known) (b : Bool) → Lies (connective_extent x y) (bit b)
unfolding connective_extent
connective_lies x y b = then_lies (as_truth x) _ (bit b) (λ e. then_lies (as_truth y) _ (bit b) (λ f. bit_lies b))

pub not_lies : (x : Known) (b : Bool) → Lies (not_extent x) (bit b)
unfolding not_extent
not_lies x b = then_lies (as_truth x) _ (bit b) (λ e. bit_lies b)

pub member_lies : (x y : Known) (b : Bool) → Lies (member_extent x y) (bit b)
unfolding member_extent
member_lies x y b = then_lies (as_whole x) _ (bit b) (λ e. then_lies (as_subset y) _ (bit b) (λ u. bit_lies b))

pub set_comparison_lies : (x y : Known) (b : Bool) → Lies (set_comparison_extent x y) (bit b)
unfolding set_comparison_extent
set_comparison_lies x y b = then_lies (as_subset x) _ (bit b) (λ u. then_lies (as_subset y) _ (bit b) (λ w. bit_lies b))

pub bool_lies : (n : ℤ) → Lies (bool_extent n) (Some (number n))
unfolding bool_extent
bool_lies n = by (is_bit n) refl
  where
    by : (b : Bool) → is_bit n ≡ b → Lies (cond b (Some (truth (n, n))) None) (Some (number n))
    by true h = record { bit = h; inside = record { from = omega (arith, ints); to = omega (arith, ints) } }
    by false h = tt

-- a number that is 0 or 1
bit_is : (n : ℤ) → is_bit n ≡ true → number_of_bool (int_eq n (pos 1)) ≡ n
bit_is n h = by (int_eq n (pos 1)) refl
  where
    by : (b : Bool) → int_eq n (pos 1) ≡ b → number_of_bool b ≡ n
    by true e = grind (arith, ints)
    by false e = grind (arith, ints)

pub to_int_lies : (x : Known) (s : Term) → Lies x s → Lies (to_int_extent x) (to_int_term s)
unfolding to_int_extent to_int_term
to_int_lies (Some (truth e)) None h = h
to_int_lies (Some (truth e)) (Some (number n)) h = subst (Encloses e) (sym (bit_is n h.bit)) h.inside
to_int_lies (Some (truth e)) (Some _) h = absurd h
to_int_lies None s h = tt
to_int_lies (Some _) s h = tt

-- ---- branches and guards: bounds that are wider

whole_wider : (e g : Ends) (s : Term) → ((n : ℤ) → Encloses e n → Encloses g n) → Lies (Some (whole e)) s → Lies (Some (whole g)) s
whole_wider e g None w h = tt
whole_wider e g (Some (number n)) w h = w n h
whole_wider e g (Some _) w h = absurd h

pub bit_open : (n : ℤ) → is_bit n ≡ true → LiesIn (truth (pos 0, pos 1)) (number n)
bit_open n h = record { bit = h; inside = record { from = grind (arith, ints); to = grind (arith, ints) } }

pub zero_open : Encloses (pos 0, pos 1) (pos 0)
zero_open = record { from = omega (arith, ints); to = omega (arith, ints) }

truth_wider : (e : Ends) (s : Term) → Lies (Some (truth e)) s → Lies open_truth s
truth_wider e None h = zero_open
truth_wider e (Some (number n)) h = bit_open n h.bit
truth_wider e (Some _) h = absurd h

set_wider : (u w : List Range) (s : Term) → IsPart u w → Lies (Some (subset u)) s → Lies (Some (subset w)) s
set_wider u w None p h = tt
set_wider u w (Some (set s)) p h = record { set = h.set; part = part_part s u w h.part p }
set_wider u w (Some _) p h = absurd h

-- one of two terms
cond_lies : (b : Bool) (x : Known) (s t : Term) → Lies x s → Lies x t → Lies x (cond b s t)
cond_lies true x s t p q = p
cond_lies false x s t p q = q

branch_lies : (b : Bool) (y z : Known) (s t : Term) → HasSets y → HasSets z → Lies y s → Lies z t → Lies (option_and_then (λ c. branch_extent c z) (as_single y)) (cond b s t)
branch_lies b (Some (whole e)) (Some (whole f)) s t hy hz p q =
    cond_lies b (Some (whole (hull_of e f))) s t (whole_wider e (hull_of e f) s (λ n h. hull_of-left e f n h) p) (whole_wider f (hull_of e f) t (λ n h. hull_of-right e f n h) q)
branch_lies b (Some (whole e)) None s t hy hz p q = tt
branch_lies b (Some (whole e)) (Some _) s t hy hz p q = tt
branch_lies b (Some (truth e)) (Some (truth f)) s t hy hz p q = cond_lies b open_truth s t (truth_wider e s p) (truth_wider f t q)
branch_lies b (Some (truth e)) None s t hy hz p q = tt
branch_lies b (Some (truth e)) (Some _) s t hy hz p q = tt
branch_lies b (Some (subset u)) (Some (subset w)) s t hy hz p q =
    cond_lies b (Some (subset (union u w))) s t (set_wider u (union u w) s (union_left u w hy hz) p) (set_wider w (union u w) t (union_right u w hy hz) q)
branch_lies b (Some (subset u)) None s t hy hz p q = tt
branch_lies b (Some (subset u)) (Some _) s t hy hz p q = tt
branch_lies b None z s t hy hz p q = tt
branch_lies b (Some _) z s t hy hz p q = tt

pub if_lies : (x y z : Known) (r s t : Term) → HasSets y → HasSets z → Lies y s → Lies z t → Lies (if_extent x y z) (if_term r s t)
unfolding if_extent if_term
if_lies x y z r s t hy hz p q = then_lies (as_truth x) _ (cond (is_true r) s t) (λ c. branch_lies (is_true r) y z s t hy hz p q)

guarded_lies : (b : Bool) (y : Known) (s : Term) → Lies y s → Lies (option_and_then guarded_extent (as_single y)) (cond b s None)
guarded_lies b (Some (whole e)) s p = cond_lies b (Some (whole e)) s None p tt
guarded_lies b (Some (truth e)) s p = cond_lies b open_truth s None (truth_wider e s p) zero_open
guarded_lies b (Some (subset u)) s p = cond_lies b (Some (subset u)) s None p tt
guarded_lies b None s p = tt
guarded_lies b (Some _) s p = tt

pub guard_lies : (x y : Known) (r s : Term) → Lies y s → Lies (guard_extent x y) (guard_term r s)
unfolding guard_extent guard_term
guard_lies x y r s p = then_lies (as_truth x) _ (cond (is_true r) s None) (λ c. guarded_lies (is_true r) y s p)
