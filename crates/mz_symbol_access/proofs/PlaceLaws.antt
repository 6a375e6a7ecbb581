-- The place of an access, from the terms of its indices.
use Rattle.std.proofs.Common.{◌≡◌, ◌∙◌, ℕ, suc, ◌+◌, ◌-◌, ◌*◌, ◌≤◌, ℤ, pos, ◌+ℤ◌, ◌*ℤ◌, int_le, Bool, true, false, ◌&&◌, List, [], ◌∷◌, length, map, take, drop, get_or, Option, Some, None, refl, sym, ap, arith, if◌then◌else◌}
use Rattle.std.proofs.lemmas.Int.{ints}
use Rattle.std.specs.Option.{option_map, option_and_then}
use Rattle.mz_index.specs.Places.{Range, count_of, is_inside, offset_of, place_of}
use Rattle.mz_value.specs.Contents.{Content}
use Rattle.mz_value.specs.Contents as values
use Rattle.mz_core.specs.declared.types.Base.{Base}
use Rattle.mz_core.specs.declared.types.Base.TheVariants as base
use Rattle.mz_operations.specs.Views.{◌>>=◌, as_element}
use Rattle.mz_operations.specs.Numbers.{computed}
use Rattle.mz_arena.specs.Values.{Term, number, as_number, arith_term}
use Rattle.mz_meaning.specs.Arrays.{all_there, all_indices, indices_in}
use Rattle.mz_meaning.specs.Runs.{State, Out}
use Rattle.mz_symbol.specs.declared.types.Symbol.{Symbol}
use Rattle.mz_symbol.specs.Symbols.{value_by, value_at, symbol_value}
use Rattle.mz_symbol.specs.Readings.{Reading, IsGiven, symbol_seen}
use Rattle.mz_symbol.proofs.ConstantLaws.{out_value, out_state}
use Rattle.mz_symbol_rows.proofs.RowLaws.{out_both}
use Rattle.mz_symbol_arrays.proofs.Given.{held_given}
use Rattle.mz_symbol_access.specs.StepsPlace.{whole, is_index, AreIndices, step_of, offset_in, joined_term, places_of, placed, place_term}

-- ---- one dimension more

offset_pos : (r : Range) (i : ℤ) → is_inside r i ≡ true → i +ℤ step_of r false ≡ pos (offset_of r i)
offset_pos r i h = by (int_le r.0 i) refl h
  where
    by : (p : Bool) → int_le r.0 i ≡ p → (p && int_le i r.1) ≡ true → i +ℤ step_of r false ≡ pos (offset_of r i)
    by true e k = omega (arith, ints)
    by false e k = absurd (cc)

offset_next : (r : Range) (i : ℤ) → is_inside r i ≡ true → i +ℤ step_of r true ≡ pos (suc (offset_of r i * 1 + 0))
offset_next r i h = by (int_le r.0 i) refl h
  where
    by : (p : Bool) → int_le r.0 i ≡ p → (p && int_le i r.1) ≡ true → i +ℤ step_of r true ≡ pos (suc (offset_of r i * 1 + 0))
    by true e k = omega (arith, ints)
    by false e k = absurd (cc)

row_place : (a n p : ℕ) → pos a *ℤ pos n +ℤ pos (suc p) ≡ pos (suc (a * n + p))
row_place a n p = ap (λ m. m +ℤ pos (suc p)) (times a n) ∙ plus (a * n) p
  where
    times : (a n : ℕ) → pos a *ℤ pos n ≡ pos (a * n)
    times a n = grind (arith, ints)

    plus : (m p : ℕ) → pos m +ℤ pos (suc p) ≡ pos (suc (m + p))
    plus m p = omega (arith, ints)

joined_some : (n : ℕ) (i : ℤ) (a : ℕ) (o : Option ℕ) → i ≡ pos a → joined_term n (whole i) (option_map (λ k. number (pos (suc k))) o) ≡ option_map (λ k. number (pos (suc k))) (option_map (λ p. a * n + p) o)
unfolding arith_term computed
joined_some n i a None e = refl
joined_some n i a (Some p) e = ap (λ m. whole m) (ap (λ j. j *ℤ pos n +ℤ pos (suc p)) e ∙ row_place a n p)

joined_none : (n : ℕ) (y : Term) → joined_term n None y ≡ None
unfolding arith_term
joined_none n y = refl

abbrev placed_in : Range → List Range → ℤ → Option ℕ → Bool → Term
placed_in r rs i o b = option_map (λ k. number (pos (suc k))) (if b then option_map (λ place. offset_of r i * count_of rs + place) o else None)

inside_by : (r : Range) (rs : List Range) (i : ℤ) (os : List (Option ℤ)) (p : Bool) → is_inside r i ≡ p → joined_term (count_of rs) (offset_in r false (Some i)) (place_term rs os) ≡ placed_in r rs i (placed rs os) (is_inside r i)
inside_by r rs i os true h =
    ap (λ b. joined_term (count_of rs) (if b then whole (i +ℤ step_of r false) else None) (place_term rs os)) h
    ∙ joined_some (count_of rs) (i +ℤ step_of r false) (offset_of r i) (placed rs os) (offset_pos r i h)
    ∙ ap (placed_in r rs i (placed rs os)) (sym h)
inside_by r rs i os false h =
    ap (λ b. joined_term (count_of rs) (if b then whole (i +ℤ step_of r false) else None) (place_term rs os)) h
    ∙ joined_none (count_of rs) (place_term rs os)
    ∙ ap (placed_in r rs i (placed rs os)) (sym h)

pub place_more : (r : Range) (rs : List Range) (o : Option ℤ) (os : List (Option ℤ)) → joined_term (count_of rs) (offset_in r false o) (place_term rs os) ≡ place_term (r ∷ rs) (o ∷ os)
place_more r rs None os = joined_none (count_of rs) (place_term rs os)
place_more r rs (Some i) os = inside_by r rs i os (is_inside r i) refl

last_by : (r : Range) (i : ℤ) (p : Bool) → is_inside r i ≡ p → offset_in r true (Some i) ≡ placed_in r [] i (Some 0) (is_inside r i)
last_by r i true h =
    ap (λ b. if b then whole (i +ℤ step_of r true) else None) h
    ∙ ap (λ m. whole m) (offset_next r i h)
    ∙ ap (placed_in r [] i (Some 0)) (sym h)
last_by r i false h =
    ap (λ b. if b then whole (i +ℤ step_of r true) else None) h
    ∙ ap (placed_in r [] i (Some 0)) (sym h)

pub place_last : (r : Range) (o : Option ℤ) → offset_in r true o ≡ place_term (r ∷ []) (o ∷ [])
place_last r None = refl
place_last r (Some i) = last_by r i (is_inside r i) refl

pub place_alone : (rd : Reading) (r : Range) (rs : List Range) (s : Symbol) (ss : List Symbol) → rs ≡ [] → ss ≡ [] → offset_in r true (as_number (rd.term s.term)) ≡ place_term (r ∷ rs) (places_of rd (s ∷ ss))
place_alone rd r rs s ss e f =
    let o : Option ℤ = as_number (rd.term s.term) in
    place_last r o ∙ ap (λ xs. place_term (r ∷ xs) (o ∷ [])) (sym e) ∙ ap (λ ys. place_term (r ∷ rs) (o ∷ places_of rd ys)) (sym f)

pub place_row : (rd : Reading) (r : Range) (rs : List Range) (s : Symbol) (ss : List Symbol) → joined_term (count_of rs) (offset_in r false (as_number (rd.term s.term))) (place_term rs (places_of rd ss)) ≡ place_term (r ∷ rs) (places_of rd (s ∷ ss))
place_row rd r rs s ss = place_more r rs (as_number (rd.term s.term)) (places_of rd ss)

pub place_step : (rd : Reading) (ranges : List Range) (indices : List Symbol) (r : Range) (rs : List Range) (s : Symbol) (ss : List Symbol) (place all : ℕ) (u v w : State) → ranges ≡ r ∷ rs → indices ≡ s ∷ ss → Out (place_term rs (places_of rd ss)) u ≡ Out (rd.term place) v → Out (joined_term (count_of rs) (offset_in r false (as_number (rd.term s.term))) (rd.term place)) v ≡ Out (rd.term all) w → Out (place_term ranges (places_of rd indices)) u ≡ Out (rd.term all) w
place_step rd ranges indices r rs s ss place all u v w e f g h =
    out_both (ap (λ xs. place_term xs (places_of rd indices)) e
    ∙ ap (λ ys. place_term (r ∷ rs) (places_of rd ys)) f
    ∙ sym (place_row rd r rs s ss)
    ∙ ap (joined_term (count_of rs) (offset_in r false (as_number (rd.term s.term)))) (out_value g)
    ∙ out_value h) (out_state g ∙ out_state h)

-- ---- a list as its pattern reads it

take_all : {A : Type 0} (xs : List A) → take (length xs) xs ≡ xs
take_all [] = refl
take_all (x ∷ xs) = ap (λ ys. x ∷ ys) (take_all xs)

pub split_first : {A : Type 0} (d : A) (xs : List A) → 1 ≤ length xs → xs ≡ get_or xs 0 d ∷ take (length xs - 1) (drop 1 xs)
split_first d [] h = absurd (omega (arith, h))
split_first d (x ∷ xs) h =
    let count : length xs ≡ length (x ∷ xs) - 1 = omega arith in
    ap (λ ys. x ∷ ys) (sym (take_all xs) ∙ ap (λ n. take n xs) count)

-- ---- the indices are those of the values

abbrev pub all_numbers : List (Option ℤ) → Option (List ℤ)
all_numbers [] = Some []
all_numbers (None ∷ os) = None
all_numbers (Some n ∷ os) = option_map (λ ns. n ∷ ns) (all_numbers os)

abbrev no_place : Option ℕ
no_place = None

none_inside : (p : Bool) → (if p then no_place else no_place) ≡ no_place
none_inside true = refl
none_inside false = refl

placed_by : (r : Range) (rs : List Range) (i : ℤ) (os : List (Option ℤ)) (ns : Option (List ℤ)) → option_and_then (place_of rs) ns ≡ placed rs os → option_and_then (place_of (r ∷ rs)) (option_map (λ ns. i ∷ ns) ns) ≡ placed (r ∷ rs) (Some i ∷ os)
placed_by r rs i os None e = sym (ap (λ o. if is_inside r i then option_map (λ place. offset_of r i * count_of rs + place) o else None) (sym e) ∙ none_inside (is_inside r i))
placed_by r rs i os (Some ns) e = ap (λ o. if is_inside r i then option_map (λ place. offset_of r i * count_of rs + place) o else None) e

placed_none : (ns : Option (List ℤ)) (n : ℤ) → option_and_then (place_of []) (option_map (λ ns. n ∷ ns) ns) ≡ no_place
placed_none None n = refl
placed_none (Some ns) n = refl

pub placed_is : (rs : List Range) (os : List (Option ℤ)) → option_and_then (place_of rs) (all_numbers os) ≡ placed rs os
placed_is [] [] = refl
placed_is [] (None ∷ os) = refl
placed_is [] (Some n ∷ os) = placed_none (all_numbers os) n
placed_is (r ∷ rs) [] = refl
placed_is (r ∷ rs) (None ∷ os) = refl
placed_is (r ∷ rs) (Some i ∷ os) = placed_by r rs i os (all_numbers os) (placed_is rs os)

abbrev index_of : Base → ℤ → Content
index_of (base.Enum e) n = values.case e n
index_of b n = values.int n

index_value : (b : Base) (t : Term) → is_index b ≡ true → value_by b t ≡ option_map (λ n. index_of b n) (as_number t)
index_value base.Int t h = refl
index_value (base.Enum e) t h = refl
index_value b t h = absurd (cc)

index_number : (b : Base) (n : ℤ) → as_element (index_of b n) ≡ Some n
unfolding as_element
index_number (base.Enum e) n = refl
index_number b n = refl

index_seen : (r : Reading) (s : Symbol) → IsGiven r.mode → is_index s.base ≡ true → s.occurs ≡ None → symbol_seen r s ≡ option_map (λ n. index_of s.base n) (as_number (r.term s.term))
index_seen r s g i o = held_given r.mode (symbol_value r.term s) g ∙ ap (λ q. value_at r.term s.base q s.term) o ∙ index_value s.base (r.term s.term) i

indices_more : (b : Base) (o : Option ℤ) (vs : List (Option Content)) (os : List (Option ℤ)) → indices_in vs ≡ all_numbers os → indices_in (option_map (λ n. index_of b n) o ∷ vs) ≡ all_numbers (o ∷ os)
indices_more b None vs os e = refl
indices_more b (Some n) vs os e = by (all_there vs) e
  where
    by : (xs : Option (List Content)) → option_and_then all_indices xs ≡ all_numbers os → option_and_then all_indices (option_map (λ ys. index_of b n ∷ ys) xs) ≡ option_map (λ ns. n ∷ ns) (all_numbers os)
    by None h = ap (option_map (λ ns. n ∷ ns)) h
    by (Some xs) h = ap (λ o. option_and_then (λ k. option_map (λ ks. k ∷ ks) (all_indices xs)) o) (index_number b n) ∙ ap (option_map (λ ns. n ∷ ns)) h

pub indices_are : (r : Reading) (ss : List Symbol) → IsGiven r.mode → AreIndices ss → indices_in (map (symbol_seen r) ss) ≡ all_numbers (places_of r ss)
indices_are r [] g h = refl
indices_are r (s ∷ ss) g h =
    ap (λ v. indices_in (v ∷ map (symbol_seen r) ss)) (index_seen r s g h.0.is h.0.plain)
    ∙ indices_more s.base (as_number (r.term s.term)) (map (symbol_seen r) ss) (places_of r ss) (indices_are r ss g h.1)
