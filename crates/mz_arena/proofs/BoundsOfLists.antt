-- Elements of lists and sets lie in their bounds.
use Rattle.std.proofs.Common.{◌≡◌, ℕ, zero, suc, ◌-◌, ◌<◌, ◌≤◌, ℤ, pos, negsuc, ◌≤ℤ◌, List, [], ◌∷◌, drop, take, slice_get, Bool, true, false, cond, Option, Some, None, refl, ap, subst, ◌∙◌, arith}
use Rattle.std.specs.Option.{option_and_then, option_map}
use Rattle.std.proofs.lemmas.Int.{ints}
use Rattle.mz_value.specs.Ranges.{Range, cardinality}
use Rattle.mz_interval.specs.Ends.{Ends, Encloses}
use Rattle.mz_operations.specs.declared.row.SetOp.{SetOp as SetRow}
use Rattle.mz_operations.specs.Sets.{combined}
use Rattle.mz_operations.specs.Bounds.{card_ends, hull_of_all, union_of_all, combined_upper}
use Rattle.mz_operations.specs.Laws.{AreSets}
use Rattle.mz_operations.proofs.Arithmetic.{hull_encloses}
use Rattle.mz_operations.proofs.CardBounds.{card_encloses}
use Rattle.mz_operations.proofs.SetBounds.{set_encloses, union_encloses, part_part}
use Rattle.mz_arena.specs.Values.{number, set, numbers, sets, empty, Term, as_number, as_set, as_numbers, as_sets, element_at, value_at, access_term, cons_term, set_term, card_term}
use Rattle.mz_arena.specs.Extents.{Extent, Known, whole, truth, subset, wholes, truths, subsets, empty as no_element, as_whole, as_subset, as_wholes, is_truths, as_subsets, as_list, open_truth, is_bit, not_negative, skipped, reached, element_extent, access_extent, before_extent, cons_extent, set_extent, card_bounds, card_extent}
use Rattle.mz_arena.specs.InBounds.{IsSetIn, AllEnclose, AreBits, AreSetsIn, Lies, HasSets}
use Rattle.mz_arena.proofs.Sets.{combined_set, reached_sets}
use Rattle.mz_arena.proofs.Families.{Meets, then_lies, whole_meets, whole_none, limited_lies, wholes_meets, bit_open, zero_open}

-- ---- places

get-drop : {A : Type 0} (m k : ℕ) (xs : List A) → m ≤ k → slice_get (drop m xs) (k - m) ≡ slice_get xs k
get-drop zero k xs h = let same : k - 0 ≡ k = omega arith in ap (slice_get xs) same
get-drop (suc m) k [] h = refl
get-drop (suc m) zero (x ∷ xs) h = absurd (omega arith)
get-drop (suc m) (suc k) (x ∷ xs) h = let same : suc k - suc m ≡ k - m = omega arith in ap (slice_get (drop m xs)) same ∙ get-drop m k xs (omega arith)

get-take : {A : Type 0} (n j : ℕ) (xs : List A) → j < n → slice_get (take n xs) j ≡ slice_get xs j
get-take zero j xs h = absurd (omega arith)
get-take (suc n) j [] h = refl
get-take (suc n) zero (x ∷ xs) h = refl
get-take (suc n) (suc j) (x ∷ xs) h = get-take n j xs (omega arith)

low_place : (l : ℤ) (k : ℕ) → l ≤ℤ pos (suc k) → not_negative l - 1 ≤ k
low_place (pos n) k h = omega (arith, ints)
low_place (negsuc n) k h = omega arith

high_place : (h : ℤ) (k : ℕ) → pos (suc k) ≤ℤ h → suc k ≤ not_negative h
high_place (pos n) k p = omega (arith, ints)
high_place (negsuc n) k p = absurd (omega (arith, ints))

-- a place between the ends is reached
pub reached_at : {A : Type 0} (e : Ends) (k : ℕ) (xs : List A) → Encloses e (pos (suc k)) → slice_get (reached e xs) (k - skipped e) ≡ slice_get xs k
reached_at e k xs h =
    let low = low_place e.0 k h.from in
    let high = high_place e.1 k h.to in
    get-take (not_negative e.1 - skipped e) (k - skipped e) (drop (skipped e) xs) (omega arith) ∙ get-drop (skipped e) k xs low

-- ---- elements

record HasEnds (es : List Ends) (k : ℕ) (n : ℤ) : Type 0 where
  ends : Ends
  there : slice_get es k ≡ Some ends
  inside : Encloses ends n

number_at : (es : List Ends) (ns : List ℤ) (k : ℕ) (n : ℤ) → AllEnclose es ns → slice_get ns k ≡ Some n → HasEnds es k n
number_at [] [] k n all h = cc
number_at [] (m ∷ ns) k n all h = absurd all
number_at (e ∷ es) [] k n all h = absurd all
number_at (e ∷ es) (m ∷ ns) zero n all h = let same : m ≡ n = cc in record { ends = e; there = refl; inside = subst (Encloses e) same all.0 }
number_at (e ∷ es) (m ∷ ns) (suc k) n all h = let rest = number_at es ns k n all.1 h in record { ends = rest.ends; there = rest.there; inside = rest.inside }

bit_at : (ns : List ℤ) (k : ℕ) (n : ℤ) → AreBits ns → slice_get ns k ≡ Some n → is_bit n ≡ true
bit_at [] k n all h = cc
bit_at (m ∷ ns) zero n all h = let same : m ≡ n = cc in subst (λ i. is_bit i ≡ true) same all.0
bit_at (m ∷ ns) (suc k) n all h = bit_at ns k n all.1 h

record HasUpper (us : List (List Range)) (k : ℕ) (s : List Range) : Type 0 where
  upper : List Range
  there : slice_get us k ≡ Some upper
  inside : IsSetIn upper s

set_at : (us ss : List (List Range)) (k : ℕ) (s : List Range) → AreSetsIn us ss → slice_get ss k ≡ Some s → HasUpper us k s
set_at [] [] k s all h = cc
set_at [] (t ∷ ss) k s all h = absurd all
set_at (u ∷ us) [] k s all h = absurd all
set_at (u ∷ us) (t ∷ ss) zero s all h = let same : t ≡ s = cc in record { upper = u; there = refl; inside = subst (λ z. IsSetIn u z) same all.0 }
set_at (u ∷ us) (t ∷ ss) (suc k) s all h = let rest = set_at us ss k s all.1 h in record { upper = rest.upper; there = rest.there; inside = rest.inside }

-- ---- accesses

number_lies : (e : Ends) (i : ℤ) (es : List Ends) (ns : List ℤ) → Encloses e i → AllEnclose es ns → Lies (Some (whole (hull_of_all (reached e es)))) (option_map number (element_at ns i))
number_lies e (pos zero) es ns h all = tt
number_lies e (negsuc n) es ns h all = tt
number_lies e (pos (suc k)) es ns h all = by (slice_get ns k) refl
  where
    by : (o : Option ℤ) → slice_get ns k ≡ o → Lies (Some (whole (hull_of_all (reached e es)))) (option_map number o)
    by None g = tt
    by (Some n) g = let at = number_at es ns k n all g in hull_encloses (reached e es) (k - skipped e) at.ends n (reached_at e k es h ∙ at.there) at.inside

truth_lies : (i : ℤ) (ns : List ℤ) → AreBits ns → Lies open_truth (option_map number (element_at ns i))
truth_lies (pos zero) ns all = zero_open
truth_lies (negsuc n) ns all = zero_open
truth_lies (pos (suc k)) ns all = by (slice_get ns k) refl
  where
    by : (o : Option ℤ) → slice_get ns k ≡ o → Lies open_truth (option_map number o)
    by None g = zero_open
    by (Some n) g = bit_open n (bit_at ns k n all g)

set_lies : (e : Ends) (i : ℤ) (us ss : List (List Range)) → AreSets us → Encloses e i → AreSetsIn us ss → Lies (Some (subset (union_of_all (reached e us)))) (option_map set (element_at ss i))
set_lies e (pos zero) us ss p h all = tt
set_lies e (negsuc n) us ss p h all = tt
set_lies e (pos (suc k)) us ss p h all = by (slice_get ss k) refl
  where
    by : (o : Option (List Range)) → slice_get ss k ≡ o → Lies (Some (subset (union_of_all (reached e us)))) (option_map set o)
    by None g = tt
    by (Some s) g =
        let at = set_at us ss k s all g in
        record {
          set = at.inside.set;
          part = part_part s at.upper (union_of_all (reached e us)) at.inside.part (union_encloses (reached e us) (k - skipped e) at.upper (reached_sets e us p) (reached_at e k us h ∙ at.there));
        }

-- an undefined access
element_none : (e : Ends) (b : Extent) → Lies (element_extent e b) None
element_none e (wholes es) = tt
element_none e truths = zero_open
element_none e (subsets us) = tt
element_none e no_element = tt
element_none e _ = tt

element_lies : (e : Ends) (i : ℤ) (y : Known) (s : Term) → HasSets y → Encloses e i → Lies y s → Lies (option_and_then (element_extent e) (as_list y)) (option_and_then (λ list. value_at list i) s)
element_lies e i (Some (wholes es)) (Some (numbers ns)) p h q = number_lies e i es ns h q
element_lies e i (Some (wholes es)) None p h q = tt
element_lies e i (Some (wholes es)) (Some _) p h q = absurd q
element_lies e i (Some truths) (Some (numbers ns)) p h q = truth_lies i ns q
element_lies e i (Some truths) None p h q = zero_open
element_lies e i (Some truths) (Some _) p h q = absurd q
element_lies e i (Some (subsets us)) (Some (sets ss)) p h q = set_lies e i us ss p h q
element_lies e i (Some (subsets us)) None p h q = tt
element_lies e i (Some (subsets us)) (Some _) p h q = absurd q
element_lies e i (Some no_element) (Some empty) p h q = tt
element_lies e i (Some no_element) None p h q = tt
element_lies e i (Some no_element) (Some _) p h q = absurd q
element_lies e i None s p h q = tt
element_lies e i (Some _) s p h q = tt

list_none : (e : Ends) (y : Known) → Lies (option_and_then (element_extent e) (as_list y)) None
list_none e y = then_lies (as_list y) (element_extent e) None (λ b. element_none e b)

pub access_lies : (x y : Known) (r s : Term) → HasSets y → Lies x r → Lies y s → Lies (access_extent x y) (access_term r s)
unfolding access_extent access_term
access_lies x y r s p h q = by (as_whole x) (as_number r) (whole_meets x r h)
  where
    by : (a : Option Ends) (i : Option ℤ) → Meets Encloses a i → Lies (option_and_then (λ e. option_and_then (λ b. element_extent e b) (as_list y)) a) (option_and_then (λ j. option_and_then (λ list. value_at list j) s) i)
    by None i g = tt
    by (Some e) None g = list_none e y
    by (Some e) (Some j) g = element_lies e j y s p g q

-- ---- lists with an element more

subsets_meets : (y : Known) (s : Term) → Lies y s → Meets AreSetsIn (as_subsets y) (as_sets s)
subsets_meets None s h = tt
subsets_meets (Some (subsets us)) None h = tt
subsets_meets (Some (subsets us)) (Some (sets ss)) h = h
subsets_meets (Some (subsets us)) (Some empty) h = absurd h
subsets_meets (Some (subsets us)) (Some _) h = tt
subsets_meets (Some no_element) None h = tt
subsets_meets (Some no_element) (Some empty) h = tt
subsets_meets (Some no_element) (Some (sets ss)) h = absurd h
subsets_meets (Some no_element) (Some _) h = tt
subsets_meets (Some _) s h = tt

number_before : (e : Ends) (n : ℤ) (a : Option (List Ends)) (i : Option (List ℤ)) → Encloses e n → Meets AllEnclose a i → Lies (option_and_then (λ es. Some (wholes (e ∷ es))) a) (option_map (λ ns. numbers (n ∷ ns)) i)
number_before e n None i h m = tt
number_before e n (Some es) None h m = tt
number_before e n (Some es) (Some ns) h m = (h, m)

set_before : (u s : List Range) (a i : Option (List (List Range))) → IsSetIn u s → Meets AreSetsIn a i → Lies (option_and_then (λ us. Some (subsets (u ∷ us))) a) (option_map (λ ss. sets (s ∷ ss)) i)
set_before u s None i h m = tt
set_before u s (Some us) None h m = tt
set_before u s (Some us) (Some ss) h m = (h, m)

abbrev absent : Known
absent = None

truth_before : (n : ℤ) (y : Known) (s : Term) → is_bit n ≡ true → Lies y s → Lies (cond (is_truths y) (Some truths) absent) (option_map (λ ns. numbers (n ∷ ns)) (as_numbers s))
truth_before n (Some truths) None h q = tt
truth_before n (Some truths) (Some (numbers ns)) h q = (h, q)
truth_before n (Some truths) (Some _) h q = absurd q
truth_before n (Some no_element) None h q = tt
truth_before n (Some no_element) (Some empty) h q = (h, tt)
truth_before n (Some no_element) (Some _) h q = absurd q
truth_before n None s h q = tt
truth_before n (Some _) s h q = tt

-- a list with an undefined element
before_none : (b : Extent) (y : Known) → Lies (before_extent b y) None
before_none (whole e) y = then_lies (as_wholes y) _ None (λ es. tt)
before_none (truth e) y = by (is_truths y)
  where
    by : (t : Bool) → Lies (cond t (Some truths) absent) None
    by true = tt
    by false = tt
before_none (subset u) y = then_lies (as_subsets y) _ None (λ us. tt)
before_none _ y = tt

pub cons_lies : (x y : Known) (r s : Term) → Lies x r → Lies y s → Lies (cons_extent x y) (cons_term r s)
unfolding cons_extent cons_term
cons_lies (Some (whole e)) y (Some (number n)) s h q = number_before e n (as_wholes y) (as_numbers s) h (wholes_meets y s q)
cons_lies (Some (whole e)) y None s h q = before_none (whole e) y
cons_lies (Some (whole e)) y (Some _) s h q = absurd h
cons_lies (Some (truth e)) y (Some (number n)) s h q = truth_before n y s h.bit q
cons_lies (Some (truth e)) y None s h q = before_none (truth e) y
cons_lies (Some (truth e)) y (Some _) s h q = absurd h
cons_lies (Some (subset u)) y (Some (set t)) s h q = set_before u t (as_subsets y) (as_sets s) h (subsets_meets y s q)
cons_lies (Some (subset u)) y None s h q = before_none (subset u) y
cons_lies (Some (subset u)) y (Some _) s h q = absurd h
cons_lies None y r s h q = tt
cons_lies (Some _) y r s h q = tt

-- ---- sets

subset_meets : (x : Known) (s : Term) → Lies x s → Meets IsSetIn (as_subset x) (as_set s)
subset_meets None s h = tt
subset_meets (Some (subset u)) None h = tt
subset_meets (Some (subset u)) (Some (set s)) h = h
subset_meets (Some (subset u)) (Some _) h = tt
subset_meets (Some _) s h = tt

pub set_op_lies : (op : SetRow) (x y : Known) (s t : Term) → HasSets x → HasSets y → Lies x s → Lies y t → Lies (set_extent op x y) (set_term op s t)
unfolding set_extent set_term
set_op_lies op (Some (subset u)) (Some (subset w)) s t hx hy p q = by (as_set s) (as_set t) (subset_meets (Some (subset u)) s p) (subset_meets (Some (subset w)) t q)
  where
    by : (a b : Option (List Range)) → Meets IsSetIn (Some u) a → Meets IsSetIn (Some w) b → Lies (Some (subset (combined_upper op u w))) (option_and_then (λ c. option_and_then (λ d. Some (set (combined op c d))) b) a)
    by None b g h = tt
    by (Some c) None g h = tt
    by (Some c) (Some d) g h = record { set = combined_set op c d g.set h.set; part = set_encloses op c d u w g.set h.set hx hy g.part h.part }
set_op_lies op (Some (subset u)) None s t hx hy p q = tt
set_op_lies op (Some (subset u)) (Some _) s t hx hy p q = tt
set_op_lies op None y s t hx hy p q = tt
set_op_lies op (Some _) y s t hx hy p q = tt

pub card_lies : (x : Known) (s : Term) → HasSets x → Lies x s → Lies (card_extent x) (card_term s)
unfolding card_term
card_lies (Some (subset u)) s hx p = by (as_set s) (subset_meets (Some (subset u)) s p)
  where
    by : (a : Option (List Range)) → Meets IsSetIn (Some u) a → Lies (option_map whole (card_bounds (Some u))) (option_and_then (λ c. Some (number (pos (cardinality c)))) a)
    by None g = whole_none _
    by (Some c) g = limited_lies (card_ends u) (pos (cardinality c)) (card_encloses c u g.set.0 hx.0 g.part)
card_lies None s hx p = tt
card_lies (Some _) s hx p = tt
