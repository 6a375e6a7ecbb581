-- The elements that indices with bounds reach, range by range.
use Rattle.std.proofs.Common.{◌≡◌, ◌∙◌, ℕ, zero, suc, ◌+◌, ◌*◌, List, [], ◌∷◌, ◌++◌, map, length, take, drop, Some, slice_get, Bool, true, false, ◌&&◌, refl, sym, ap, arith, append-nil, length-append}
use Rattle.std.specs.Prelude.{ℤ, pos, ◌+ℤ◌, ◌-ℤ◌, ◌≤ℤ◌, ◌<ℤ◌, int_le, nat_abs, unsigned_abs, cond, zip, filter, if◌then◌else◌}
use Rattle.std.specs.Int.{int_max, int_min}
use Rattle.std.specs.List.{flat_map}
use Rattle.std.proofs.lemmas.Int.{ints, clamps, by_lt_z}
use Rattle.std.proofs.lemmas.List.{map-append, drop-drop}
use Rattle.std.proofs.lemmas.List.Elements.{filter-append}
use Rattle.mz_value.specs.Ranges.{Range, range_of}
use Rattle.mz_value.specs.Shown.{elements, numbers_from, range_elements}
use Rattle.mz_value.proofs.Comparisons.{int_le_true, int_le_false}
use Rattle.mz_value.proofs.Walking.{range_of_some, range_of_none}
use Rattle.mz_interval.specs.Ends.{Ends}
use Rattle.mz_index.specs.Places.{count_of, length_of}
use Rattle.mz_operations.specs.Sets.{is_within}
use Rattle.mz_operations.specs.Bounds.{index_tuples, is_reached, reached}
use Rattle.mz_meaning.specs.Arrays.{ends_in}
use Rattle.mz_eval_cells.specs.declared.types.Bound.{Bound}
use Rattle.mz_eval_cells.specs.Views.{known_bound}
use Rattle.mz_eval_access.specs.StepsPlaces.{swept, runs, reach, steps_between}

-- ---- tuples and elements side by side

abbrev kept : {A : Type 0} → List Ends → List (List ℤ) → List A → List A
kept es ts xs = map (λ p. p.1) (filter (λ p. is_reached es p.0) (zip ts xs))

zip_none : {X Y : Type 0} (ys : List X) (zs : List Y) → zs ≡ [] → zip ys zs ≡ []
zip_none [] zs e = refl
zip_none (y ∷ ys) [] e = refl
zip_none (y ∷ ys) (z ∷ zs) e = absurd (cc)

zip_append : {X Y : Type 0} (xs ys : List X) (zs : List Y) → zip (xs ++ ys) zs ≡ zip xs zs ++ zip ys (drop (length xs) zs)
zip_append [] ys zs = refl
zip_append (x ∷ xs) ys [] = sym (zip_none ys [] refl)
zip_append (x ∷ xs) ys (z ∷ zs) = ap (λ t. (x, z) ∷ t) (zip_append xs ys zs)

kept_append : {A : Type 0} (es : List Ends) (ts us : List (List ℤ)) (xs : List A) → kept es (ts ++ us) xs ≡ kept es ts xs ++ kept es us (drop (length ts) xs)
kept_append es ts us xs =
    ap (λ t. map (λ p. p.1) (filter (λ p. is_reached es p.0) t)) (zip_append ts us xs)
    ∙ ap (map (λ p. p.1)) (filter-append (λ p. is_reached es p.0) (zip ts xs) (zip us (drop (length ts) xs)))
    ∙ map-append (λ p. p.1) (filter (λ p. is_reached es p.0) (zip ts xs)) (filter (λ p. is_reached es p.0) (zip us (drop (length ts) xs)))

one_kept : {A : Type 0} (a b : Bool) (x : A) (p q : List ℤ × A) (ps qs : List (List ℤ × A)) → a ≡ b → p.1 ≡ q.1 → map (λ r. r.1) ps ≡ map (λ r. r.1) qs → map (λ r. r.1) (cond a (p ∷ ps) ps) ≡ map (λ r. r.1) (cond b (q ∷ qs) qs)
one_kept true true x p q ps qs e f g = ap (λ y. y ∷ map (λ r. r.1) ps) f ∙ ap (λ t. q.1 ∷ t) g
one_kept true false x p q ps qs e f g = absurd (cc)
one_kept false true x p q ps qs e f g = absurd (cc)
one_kept false false x p q ps qs e f g = g

kept_inside : {A : Type 0} (e : Ends) (es : List Ends) (i : ℤ) (ts : List (List ℤ)) (xs : List A) → is_within e i ≡ true → kept (e ∷ es) (map (λ is. i ∷ is) ts) xs ≡ kept es ts xs
unfolding is_reached
kept_inside e es i [] xs h = refl
kept_inside e es i (is ∷ ts) [] h = refl
kept_inside e es i (is ∷ ts) (x ∷ xs) h =
    one_kept (is_within e i && is_reached es is) (is_reached es is) x (i ∷ is, x) (is, x) (filter (λ p. is_reached (e ∷ es) p.0) (zip (map (λ js. i ∷ js) ts) xs)) (filter (λ p. is_reached es p.0) (zip ts xs)) (ap (λ t. t && is_reached es is) h) refl (kept_inside e es i ts xs h)

none_kept : {A : Type 0} (a : Bool) (p : List ℤ × A) (ps : List (List ℤ × A)) → a ≡ false → map (λ r. r.1) ps ≡ [] → map (λ r. r.1) (cond a (p ∷ ps) ps) ≡ []
none_kept true p ps e g = absurd (cc)
none_kept false p ps e g = g

kept_outside : {A : Type 0} (e : Ends) (es : List Ends) (i : ℤ) (ts : List (List ℤ)) (xs : List A) → is_within e i ≡ false → kept (e ∷ es) (map (λ is. i ∷ is) ts) xs ≡ []
unfolding is_reached
kept_outside e es i [] xs h = refl
kept_outside e es i (is ∷ ts) [] h = refl
kept_outside e es i (is ∷ ts) (x ∷ xs) h =
    none_kept (is_within e i && is_reached es is) (i ∷ is, x) (filter (λ p. is_reached (e ∷ es) p.0) (zip (map (λ js. i ∷ js) ts) xs)) (ap (λ t. t && is_reached es is) h) (kept_outside e es i ts xs h)

kept_by : {A : Type 0} (e : Ends) (es : List Ends) (i : ℤ) (ts : List (List ℤ)) (xs : List A) → kept (e ∷ es) (map (λ is. i ∷ is) ts) xs ≡ (if is_within e i then kept es ts xs else [])
kept_by {A} e es i ts xs = by (is_within e i) refl
  where
    by : (t : Bool) → is_within e i ≡ t → kept (e ∷ es) (map (λ is. i ∷ is) ts) xs ≡ (if is_within e i then kept es ts xs else [])
    by true h = kept_inside e es i ts xs h ∙ sym (ap (λ t. if t then kept es ts xs else []) h)
    by false h = kept_outside e es i ts xs h ∙ sym (ap (λ t. if t then kept es ts xs else []) h)

-- no bounds, but indices
kept_bare : {A : Type 0} (i : ℤ) (ts : List (List ℤ)) (xs : List A) → kept [] (map (λ is. i ∷ is) ts) xs ≡ []
unfolding is_reached
kept_bare i [] xs = refl
kept_bare i (is ∷ ts) [] = refl
kept_bare i (is ∷ ts) (x ∷ xs) = kept_bare i ts xs

all_bare : {A : Type 0} (ts : List (List ℤ)) (is : List ℤ) (xs : List A) → kept [] (flat_map (λ i. map (λ js. i ∷ js) ts) is) xs ≡ []
all_bare ts [] xs = refl
all_bare ts (i ∷ is) xs =
    kept_append [] (map (λ js. i ∷ js) ts) (flat_map (λ j. map (λ js. j ∷ js) ts) is) xs
    ∙ ap (λ t. t ++ kept [] (flat_map (λ j. map (λ js. j ∷ js) ts) is) (drop (length (map (λ js. i ∷ js) ts)) xs)) (kept_bare i ts xs)
    ∙ all_bare ts is (drop (length (map (λ js. i ∷ js) ts)) xs)

-- ---- how many tuples there are

length_mapped : {X Y : Type 0} (f : X → Y) (xs : List X) → length (map f xs) ≡ length xs
length_mapped f [] = refl
length_mapped f (x ∷ xs) = ap suc (length_mapped f xs)

length_each : {X Y : Type 0} (f : X → List Y) (c : ℕ) (xs : List X) → ((x : X) → length (f x) ≡ c) → length (flat_map f xs) ≡ length xs * c
length_each f c [] same = omega arith
length_each f c (x ∷ xs) same =
    let more : c + length xs * c ≡ suc (length xs) * c = grind arith in
    length-append (f x) (flat_map f xs) ∙ ap (λ n. n + length (flat_map f xs)) (same x) ∙ ap (λ n. c + n) (length_each f c xs same) ∙ more

count_numbers : (n : ℤ) (k : ℕ) → length (numbers_from n k) ≡ k
count_numbers n zero = refl
count_numbers n (suc k) = ap suc (count_numbers (n +ℤ pos 1) k)

range_numbers : (r : Range) → elements (range_of r.0 r.1) ≡ numbers_from r.0 (length_of r)
unfolding range_elements
range_numbers r =
    by_lt_z r.1 r.0
    (λ l. ap elements (range_of_none r.0 r.1 l) ∙ sym (ap (λ t. numbers_from r.0 (if t then unsigned_abs (r.1 -ℤ r.0) + 1 else 0)) (int_le_false r.0 r.1 l)))
    (λ l.
    let count : suc (nat_abs (r.1 -ℤ r.0)) ≡ unsigned_abs (r.1 -ℤ r.0) + 1 = omega arith in
    ap elements (range_of_some r.0 r.1 l)
    ∙ append-nil (numbers_from r.0 (suc (nat_abs (r.1 -ℤ r.0))))
    ∙ ap (numbers_from r.0) count
    ∙ sym (ap (λ t. numbers_from r.0 (if t then unsigned_abs (r.1 -ℤ r.0) + 1 else 0)) (int_le_true r.0 r.1 l)))

tuples_more : (r : Range) (rs : List Range) → index_tuples (r ∷ rs) ≡ flat_map (λ i. map (λ is. i ∷ is) (index_tuples rs)) (numbers_from r.0 (length_of r))
unfolding index_tuples
tuples_more r rs = ap (flat_map (λ i. map (λ is. i ∷ is) (index_tuples rs))) (range_numbers r)

count_tuples : (rs : List Range) → length (index_tuples rs) ≡ count_of rs
unfolding index_tuples
count_tuples [] = refl
count_tuples (r ∷ rs) =
    ap length (tuples_more r rs)
    ∙ length_each (λ i. map (λ is. i ∷ is) (index_tuples rs)) (count_of rs) (numbers_from r.0 (length_of r)) (λ i. length_mapped (λ is. i ∷ is) (index_tuples rs) ∙ count_tuples rs)
    ∙ ap (λ n. n * count_of rs) (count_numbers r.0 (length_of r))

-- ---- index by index

swept_is : {A : Type 0} (go : List A → List A) (e : Ends) (es : List Ends) (ts : List (List ℤ)) (c n : ℕ) (i : ℤ) (xs : List A) → ((ys : List A) → kept es ts ys ≡ go ys) → length ts ≡ c → kept (e ∷ es) (flat_map (λ j. map (λ is. j ∷ is) ts) (numbers_from i n)) xs ≡ swept go e c n i xs
unfolding swept
swept_is go e es ts c zero i xs same count = refl
swept_is go e es ts c (suc n) i xs same count =
    let first = map (λ is. i ∷ is) ts in
    let rest = flat_map (λ j. map (λ is. j ∷ is) ts) (numbers_from (i +ℤ pos 1) n) in
    kept_append (e ∷ es) first rest xs
    ∙ ap (λ t. t ++ kept (e ∷ es) rest (drop (length first) xs)) (kept_by e es i ts xs ∙ ap (λ t. if is_within e i then t else []) (same xs))
    ∙ ap (λ k. (if is_within e i then go xs else []) ++ kept (e ∷ es) rest (drop k xs)) (length_mapped (λ is. i ∷ is) ts ∙ count)
    ∙ ap (λ t. (if is_within e i then go xs else []) ++ t) (swept_is go e es ts c n (i +ℤ pos 1) (drop c xs) same count)

pub kept_is : {A : Type 0} (rs : List Range) (es : List Ends) (xs : List A) → kept es (index_tuples rs) xs ≡ reach rs es xs
unfolding reach index_tuples is_reached
kept_is [] [] [] = refl
kept_is [] [] (x ∷ xs) = refl
kept_is [] (e ∷ es) [] = refl
kept_is [] (e ∷ es) (x ∷ xs) = refl
kept_is (r ∷ rs) [] xs = all_bare (index_tuples rs) (elements (range_of r.0 r.1)) xs
kept_is (r ∷ rs) (e ∷ es) xs =
    ap (λ ts. kept (e ∷ es) ts xs) (tuples_more r rs) ∙ swept_is (reach rs es) e es (index_tuples rs) (count_of rs) (length_of r) r.0 xs (kept_is rs es) (count_tuples rs)

pub reached_is : {A : Type 0} (rs : List Range) (es : List Ends) (xs : List A) → reached rs es xs ≡ reach rs es xs
unfolding reached
reached_is rs es xs = kept_is rs es xs

-- ---- what the loop over indices leaves out

drop_none : {X : Type 0} (n : ℕ) (xs : List X) → xs ≡ [] → drop n xs ≡ []
drop_none zero xs e = e
drop_none (suc n) [] e = refl
drop_none (suc n) (x ∷ xs) e = absurd (cc)

and_false : (a : Bool) → (a && false) ≡ false
and_false true = refl
and_false false = refl

either_none : {X : Type 0} (t : Bool) (xs : List X) → xs ≡ [] → (if t then xs else []) ≡ []
either_none true xs e = e
either_none false xs e = refl

swept_none : {A : Type 0} (go : List A → List A) (e : Ends) (c n : ℕ) (i : ℤ) (xs : List A) → ((ys : List A) → ys ≡ [] → go ys ≡ []) → xs ≡ [] → swept go e c n i xs ≡ []
unfolding swept
swept_none go e c zero i xs g f = refl
swept_none go e c (suc n) i xs g f =
    ap (λ t. t ++ swept go e c n (i +ℤ pos 1) (drop c xs)) (either_none (is_within e i) (go xs) (g xs f))
    ∙ swept_none go e c n (i +ℤ pos 1) (drop c xs) g (drop_none c xs f)

reach_none : {A : Type 0} (rs : List Range) (es : List Ends) (xs : List A) → xs ≡ [] → reach rs es xs ≡ []
unfolding reach
reach_none [] [] [] f = refl
reach_none [] [] (x ∷ xs) f = absurd (cc)
reach_none [] (e ∷ es) xs f = refl
reach_none (r ∷ rs) [] xs f = refl
reach_none (r ∷ rs) (e ∷ es) xs f = swept_none (reach rs es) e (count_of rs) (length_of r) r.0 xs (reach_none rs es) f

pub nothing_reached : {A : Type 0} (rs : List Range) (es : List Ends) → reached {A = A} rs es [] ≡ []
nothing_reached rs es = reached_is rs es [] ∙ reach_none rs es [] refl

pub nothing_more : {A : Type 0} (all : List A) (rs : List Range) (es : List Ends) (xs : List A) → xs ≡ [] → all ++ reach rs es xs ≡ all
nothing_more all rs es xs f = ap (λ t. all ++ t) (reach_none rs es xs f) ∙ append-nil all

outside_above : (e : Ends) (i : ℤ) → e.1 <ℤ i → is_within e i ≡ false
outside_above e i l = ap (λ t. int_le e.0 i && t) (int_le_false i e.1 l) ∙ and_false (int_le e.0 i)

outside_below : (e : Ends) (i : ℤ) → i <ℤ e.0 → is_within e i ≡ false
outside_below e i l = ap (λ t. t && int_le i e.1) (int_le_false e.0 i l)

inside : (e : Ends) (i : ℤ) → e.0 ≤ℤ i → i ≤ℤ e.1 → is_within e i ≡ true
inside e i l h = rw (int_le_true e.0 i l, int_le_true i e.1 h) refl

swept_above : {A : Type 0} (go : List A → List A) (e : Ends) (c n : ℕ) (i : ℤ) (xs : List A) → e.1 <ℤ i → swept go e c n i xs ≡ []
unfolding swept
swept_above go e c zero i xs l = refl
swept_above go e c (suc n) i xs l =
    ap (λ t. (if t then go xs else []) ++ swept go e c n (i +ℤ pos 1) (drop c xs)) (outside_above e i l) ∙ swept_above go e c n (i +ℤ pos 1) (drop c xs) (omega (arith, ints))

swept_below : {A : Type 0} (go : List A → List A) (e : Ends) (c k n m : ℕ) (i j : ℤ) (xs : List A) → m ≡ k + n → j ≡ i +ℤ pos k → j ≤ℤ e.0 → swept go e c m i xs ≡ swept go e c n j (drop (k * c) xs)
unfolding swept
swept_below go e c zero n m i j xs f g l =
    let same : m ≡ n = omega arith in
    let here : i ≡ j = omega (arith, ints) in
    let none : 0 * c ≡ 0 = omega arith in
    ap (λ a. swept go e c a i xs) same ∙ ap (λ a. swept go e c n a xs) here ∙ sym (ap (λ a. swept go e c n j (drop a xs)) none)
swept_below go e c (suc k) n m i j xs f g l =
    let more : m ≡ suc (k + n) = omega arith in
    let out : is_within e i ≡ false = outside_below e i (omega (arith, ints)) in
    let steps : c + k * c ≡ suc k * c = grind arith in
    ap (λ a. swept go e c a i xs) more
    ∙ ap (λ t. (if t then go xs else []) ++ swept go e c (k + n) (i +ℤ pos 1) (drop c xs)) out
    ∙ swept_below go e c k n (k + n) (i +ℤ pos 1) j (drop c xs) refl (omega (arith, ints)) l
    ∙ ap (swept go e c n j) (drop-drop (k * c) c xs ∙ ap (λ a. drop a xs) steps)

length_some : (lo hi : ℤ) → lo ≤ℤ hi → length_of (lo, hi) ≡ unsigned_abs (hi -ℤ lo) + 1
length_some lo hi l = ap (λ t. if t then unsigned_abs (hi -ℤ lo) + 1 else 0) (int_le_true lo hi l)

length_zero : (lo hi : ℤ) → hi <ℤ lo → length_of (lo, hi) ≡ 0
length_zero lo hi l = ap (λ t. if t then unsigned_abs (hi -ℤ lo) + 1 else 0) (int_le_false lo hi l)

steps_some : (lo i : ℤ) → lo ≤ℤ i → steps_between lo i ≡ nat_abs (i -ℤ lo)
steps_some lo i l = ap (λ t. if t then nat_abs (i -ℤ lo) else 0) (int_le_true lo i l)

-- no index of the range lies within the bounds
starts_past : {A : Type 0} (go : List A → List A) (r : Range) (e : Ends) (c : ℕ) (first : ℤ) (xs ys : List A) → r.0 ≤ℤ e.0 → r.1 <ℤ e.0 → first ≡ e.0 → swept go e c (length_of r) r.0 xs ≡ swept go e c (length_of (first, r.1)) first ys
unfolding swept
starts_past go r e c first xs ys l m f =
    let none = length_zero first r.1 (omega (arith, ints)) in
    let ends : (r.0 +ℤ pos (length_of r)) ≤ℤ e.0 =
    by_lt_z r.1 r.0
    (λ a. let n = length_zero r.0 r.1 a in omega (arith, ints))
    (λ a. let n = length_some r.0 r.1 a in omega (arith, ints)) in
    swept_below go e c (length_of r) 0 (length_of r) r.0 (r.0 +ℤ pos (length_of r)) xs (omega arith) refl ends ∙ sym (ap (λ a. swept go e c a first ys) none)

starts_later : {A : Type 0} (go : List A → List A) (r : Range) (e : Ends) (c : ℕ) (first : ℤ) (xs : List A) → r.0 ≤ℤ e.0 → e.0 ≤ℤ r.1 → first ≡ e.0 → swept go e c (length_of r) r.0 xs ≡ swept go e c (length_of (first, r.1)) first (drop (steps_between r.0 first * c) xs)
starts_later go r e c first xs l m f =
    let steps = steps_some r.0 first (omega (arith, ints)) in
    let whole = length_some r.0 r.1 (omega (arith, ints)) in
    let rest = length_some first r.1 (omega (arith, ints)) in
    let count : length_of r ≡ steps_between r.0 first + length_of (first, r.1) = omega (arith, ints) in
    let place : first ≡ r.0 +ℤ pos (steps_between r.0 first) = omega (arith, ints) in
    swept_below go e c (steps_between r.0 first) (length_of (first, r.1)) (length_of r) r.0 first xs count place (omega (arith, ints))

starts_here : {A : Type 0} (go : List A → List A) (r : Range) (e : Ends) (c : ℕ) (first : ℤ) (xs : List A) → first ≡ r.0 → swept go e c (length_of r) r.0 xs ≡ swept go e c (length_of (first, r.1)) first (drop (steps_between r.0 first * c) xs)
starts_here go r e c first xs f =
    let steps = steps_some r.0 first (omega (arith, ints)) in
    let zero_steps : steps_between r.0 first ≡ 0 = omega (arith, ints) in
    let zero_times : 0 * c ≡ 0 = omega arith in
    let none : steps_between r.0 first * c ≡ 0 = ap (λ n. n * c) zero_steps ∙ zero_times in
    ap (λ i. swept go e c (length_of (i, r.1)) i xs) (sym f) ∙ sym (ap (λ n. swept go e c (length_of (first, r.1)) first (drop n xs)) none)

pub sweep_starts : {A : Type 0} (go : List A → List A) (r : Range) (e : Ends) (c : ℕ) (first : ℤ) (xs : List A) → first ≡ int_max r.0 e.0 → swept go e c (length_of r) r.0 xs ≡ swept go e c (length_of (first, r.1)) first (drop (steps_between r.0 first * c) xs)
sweep_starts go r e c first xs f =
    by_lt_z r.0 e.0
    (λ l.
    by_lt_z r.1 e.0
    (λ m. starts_past go r e c first xs (drop (steps_between r.0 first * c) xs) (omega (arith, ints)) m (omega (arith, ints, clamps)))
    (λ m. starts_later go r e c first xs (omega (arith, ints)) m (omega (arith, ints, clamps))))
    (λ l. starts_here go r e c first xs (omega (arith, ints, clamps)))

pub sweep_step : {A : Type 0} (go : List A → List A) (r : Range) (e : Ends) (c : ℕ) (i j : ℤ) (xs : List A) → e.0 ≤ℤ i → i ≤ℤ e.1 → i ≤ℤ r.1 → j ≡ i +ℤ pos 1 → swept go e c (length_of (i, r.1)) i xs ≡ go xs ++ swept go e c (length_of (j, r.1)) j (drop c xs)
unfolding swept
sweep_step go r e c i j xs l h m f =
    let here = length_some i r.1 m in
    let count : length_of (i, r.1) ≡ suc (length_of (j, r.1)) =
    by_lt_z r.1 j
    (λ a. let n = length_zero j r.1 a in omega (arith, ints))
    (λ a. let n = length_some j r.1 a in omega (arith, ints)) in
    ap (λ n. swept go e c n i xs) count
    ∙ ap (λ t. (if t then go xs else []) ++ swept go e c (length_of (j, r.1)) (i +ℤ pos 1) (drop c xs)) (inside e i l h)
    ∙ ap (λ k. go xs ++ swept go e c (length_of (j, r.1)) k (drop c xs)) (sym f)

pub sweep_past : {A : Type 0} (go : List A → List A) (r : Range) (e : Ends) (c : ℕ) (i : ℤ) (xs : List A) → int_min r.1 e.1 <ℤ i → swept go e c (length_of (i, r.1)) i xs ≡ []
unfolding swept
sweep_past go r e c i xs l =
    by_lt_z r.1 i
    (λ a. ap (λ n. swept go e c n i xs) (length_zero i r.1 a))
    (λ a. swept_above go e c (length_of (i, r.1)) i xs (omega (arith, ints, clamps)))

pub runs_step : {A : Type 0} (go : List A → List A) (c n m : ℕ) (xs : List A) → n ≡ suc m → runs go c n xs ≡ go xs ++ runs go c m (drop c xs)
unfolding runs
runs_step go c n m xs f = ap (λ k. runs go c k xs) f

pub runs_none : {A : Type 0} (go : List A → List A) (c n : ℕ) (xs : List A) → n ≡ 0 → runs go c n xs ≡ []
unfolding runs
runs_none go c n xs f = ap (λ k. runs go c k xs) f

swept_runs : {A : Type 0} (go : List A → List A) (r : Range) (e : Ends) (c n : ℕ) (i : ℤ) (xs : List A) → e.0 ≤ℤ i → n ≡ length_of (i, int_min r.1 e.1) → swept go e c (length_of (i, r.1)) i xs ≡ runs go c n xs
unfolding runs
swept_runs go r e c zero i xs l f =
    by_lt_z (int_min r.1 e.1) i
    (λ a. sweep_past go r e c i xs a)
    (λ a. let some = length_some i (int_min r.1 e.1) a in absurd (omega (arith, ints)))
swept_runs go r e c (suc n) i xs l f =
    by_lt_z (int_min r.1 e.1) i
    (λ a. let none = length_zero i (int_min r.1 e.1) a in absurd (omega (arith, ints)))
    (λ a.
    let here = length_some i (int_min r.1 e.1) a in
    let next : n ≡ length_of (i +ℤ pos 1, int_min r.1 e.1) =
    by_lt_z (int_min r.1 e.1) (i +ℤ pos 1)
    (λ b. let none = length_zero (i +ℤ pos 1) (int_min r.1 e.1) b in omega (arith, ints))
    (λ b. let some = length_some (i +ℤ pos 1) (int_min r.1 e.1) b in omega (arith, ints)) in
    sweep_step go r e c i (i +ℤ pos 1) xs l (omega (arith, ints, clamps)) (omega (arith, ints, clamps)) refl
    ∙ ap (λ t. go xs ++ t) (swept_runs go r e c n (i +ℤ pos 1) (drop c xs) (omega (arith, ints)) next))

abbrev low_of : Range → ℤ
low_of r = r.0

abbrev high_of : Range → ℤ
high_of r = r.1

pub sweep_runs : {A : Type 0} (go : List A → List A) (r : Range) (e : Ends) (o : Range) (c n : ℕ) (xs ys : List A) → o ≡ (int_max r.0 e.0, int_min r.1 e.1) → n ≡ length_of o → ys ≡ drop (steps_between r.0 o.0 * c) xs → swept go e c (length_of r) r.0 xs ≡ runs go c n ys
sweep_runs go r e o c n xs ys f g h =
    let first : o.0 ≡ int_max r.0 e.0 = ap low_of f in
    let last : o.1 ≡ int_min r.1 e.1 = ap high_of f in
    sweep_starts go r e c o.0 xs first
    ∙ swept_runs go r e c n o.0 (drop (steps_between r.0 o.0 * c) xs) (omega (arith, ints, clamps)) (g ∙ ap (λ k. length_of (o.0, k)) last)
    ∙ ap (runs go c n) (sym h)

-- ---- one index

abbrev overlap : Range → Ends → Range
overlap r e = (int_max r.0 e.0, int_min r.1 e.1)

run_once : {A : Type 0} (xs : List A) → runs (reach [] []) 1 1 xs ≡ take 1 xs
unfolding reach
run_once xs = runs_step (reach [] []) 1 1 0 xs refl ∙ ap (λ t. take 1 xs ++ t) (runs_none (reach [] []) 1 0 (drop 1 xs) refl) ∙ append-nil (take 1 xs)

-- what stands at one index inside the range of a list
one_place : {A : Type 0} (r : Range) (e : Ends) (xs : List A) → e.0 ≡ e.1 → r.0 ≤ℤ e.0 → e.0 ≤ℤ r.1 → reached (r ∷ []) (e ∷ []) xs ≡ take 1 (drop (steps_between r.0 e.0) xs)
unfolding reach
one_place r e xs f l h =
    let first : int_max r.0 e.0 ≡ e.0 = omega (arith, ints, clamps) in
    let last : int_min r.1 e.1 ≡ e.0 = omega (arith, ints, clamps) in
    let some = length_some (int_max r.0 e.0) (int_min r.1 e.1) (omega (arith, ints)) in
    let count : 1 ≡ length_of (overlap r e) = omega (arith, ints) in
    let steps : steps_between r.0 e.0 * 1 ≡ steps_between r.0 e.0 = omega arith in
    reached_is (r ∷ []) (e ∷ []) xs
    ∙ sweep_runs (reach [] []) r e (overlap r e) 1 1 xs (drop (steps_between r.0 (int_max r.0 e.0) * 1) xs) refl count refl
    ∙ run_once (drop (steps_between r.0 (int_max r.0 e.0) * 1) xs)
    ∙ ap (λ i. take 1 (drop (steps_between r.0 i * 1) xs)) first
    ∙ ap (λ k. take 1 (drop k xs)) steps

first_of : {X Y : Type 0} (f : X → Y) (xs : List X) (k : ℕ) (x : X) → slice_get xs k ≡ Some x → take 1 (drop k (map f xs)) ≡ f x ∷ []
first_of f [] k x e = absurd (cc)
first_of f (y ∷ xs) zero x e = let same : y ≡ x = cc in ap (λ z. f z ∷ []) same
first_of f (y ∷ xs) (suc k) x e = first_of f xs k x e

pub one_reached : (r : Range) (e : Ends) (all : List Bound) (k : ℕ) (b : Bound) → (e.0 ≡ e.1) × (r.0 ≤ℤ e.0) × (e.0 ≤ℤ r.1) → k ≡ steps_between r.0 e.0 → slice_get all k ≡ Some b → map ends_in (reached (r ∷ []) (e ∷ []) (map known_bound all)) ≡ ends_in (known_bound b) ∷ []
one_reached r e all k b h s g =
    ap (map ends_in) (one_place r e (map known_bound all) h.0 h.1 h.2 ∙ ap (λ j. take 1 (drop j (map known_bound all))) (sym s) ∙ first_of known_bound all k b g)
