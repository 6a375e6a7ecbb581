-- The element of an array: what its nodes mean is the element's value.
use Rattle.std.proofs.Common.{◌≡◌, ◌∙◌, inl, inr, ℕ, zero, suc, ℤ, pos, negsuc, ◌≤◌, int_le, Bool, true, false, not, ◌&&◌, ◌||◌, List, [], ◌∷◌, length, map, Option, Some, None, IsSome, slice_get, refl, sym, ap, subst, arith, if◌then◌else◌}
use Rattle.std.proofs.lemmas.Int.{ints}
use Rattle.std.proofs.lemmas.List.{length-map}
use Rattle.std.specs.Option.{option_map, option_and_then}
use Rattle.std.specs.Ordering.{int_eq}
use Rattle.mz_value.specs.Ranges.{Range}
use Rattle.mz_value.specs.Contents.{Content, contents}
use Rattle.mz_value.specs.Contents as values
use Rattle.mz_core.specs.declared.types.Base.{Base}
use Rattle.mz_core.specs.declared.types.Base.TheVariants as base
use Rattle.mz_index.specs.Places.{count_of, place_of}
use Rattle.mz_operations.specs.Views.{items_in}
use Rattle.mz_arena.specs.Values.{Term, number, set, numbers, sets, empty, as_number, as_set, as_numbers, as_sets, holds, is_true, bit, access_term, and_term, comparison_term, cons_term, guard_term, not_term, or_term}
use Rattle.mz_symbol.specs.Symbols.{content_by, value_by, value_at, symbol_value, all_there, HaveBase, IsItem, AreItems, IsOccurrence, list_term, item_terms, occurs_term, occurs_list, ArePlain, AreLists, IsOccursList}
use Rattle.mz_meaning.specs.Arrays.{accessed, element_at, indices_in}
use Rattle.mz_meaning.specs.Cells.{held}
use Rattle.mz_meaning.specs.Runs.{State, Out}
use Rattle.mz_symbol.specs.declared.types.Symbol.{Symbol}
use Rattle.mz_symbol.specs.declared.types.Lists.{Lists}
use Rattle.mz_symbol.specs.Runs.{Run}
use Rattle.mz_symbol.specs.Readings.{Reading, Reads, IsGiven, symbol_seen, state_of}
use Rattle.mz_symbol.specs.Lines.{HasLists}
use Rattle.mz_symbol.proofs.ConstantLaws.{out_value, out_state}
use Rattle.mz_symbol_rows.specs.StepsOptions.{symbol_of}
use Rattle.mz_symbol_rows.proofs.AskingLaws.{same_number}
use Rattle.mz_symbol_access.specs.StepsNowhere.{is_false, marked, IsLost}
use Rattle.mz_symbol_rows.proofs.RowLaws.{truth_by, bit_true, truth_is}
use Rattle.mz_symbol_arrays.specs.LineValues.{IsLineOf}
use Rattle.mz_symbol_arrays.proofs.Given.{held_given, held_by}
use Rattle.mz_symbol_arrays.proofs.RowLaws.{items_back}
use Rattle.mz_symbol_arrays.proofs.LineLaws.{line_defined, line_fails}
use Rattle.mz_symbol_access.specs.AccessValues.{access_value, at_node}
use Rattle.mz_symbol_access.specs.StepsPlace.{whole, AreIndices, places_of, placed}
use Rattle.mz_symbol_access.specs.StepsAlone.{is_among, IsBeyond, IsReached}
use Rattle.mz_symbol_access.specs.StepsTruth.{truth_term}
use Rattle.mz_symbol_access.specs.StepsElement.{is_number, plain_term, there_term, occurs_at, value_term, option_place, option_term, IsFound, IsItemAt, IsOptionAt, IsPlainAt}
use Rattle.mz_symbol_access.proofs.PlaceLaws.{all_numbers, placed_is, indices_are}
use Rattle.mz_symbol_access.proofs.TruthLaws.{HasTruths, guarded_true, guarded_false, truth_read, truth_nowhere}

-- ---- the term at a place of a list

unfoldable pub terms_list : List Term → Term
terms_list [] = Some empty
terms_list (x ∷ xs) = cons_term x (terms_list xs)

list_is : (t : ℕ → Term) (ss : List Symbol) → list_term t (item_terms ss) ≡ terms_list (map (λ s. t s.term) ss)
unfolding list_term terms_list
list_is t [] = refl
list_is t (s ∷ ss) = ap (cons_term (t s.term)) (list_is t ss)

occurrences_are : (t : ℕ → Term) (ss : List Symbol) → occurs_list t ss ≡ terms_list (map (λ s. occurs_term t s.occurs) ss)
unfolding occurs_list terms_list
occurrences_are t [] = refl
occurrences_are t (s ∷ ss) = ap (cons_term (occurs_term t s.occurs)) (occurrences_are t ss)

-- the term at a place, from 0
abbrev term_in : List Term → ℕ → Term
term_in xs p = option_and_then (λ x. x) (slice_get xs p)

abbrev at_place : Term → ℕ → Term
at_place y p = access_term (whole (pos (suc p))) y

-- a list of numbers
record AreNumbers (xs : List Term) : Type 0 where
  all : List ℤ
  is : as_numbers (terms_list xs) ≡ Some all
  at : (p : ℕ) → option_map (λ n. number n) (slice_get all p) ≡ term_in xs p

-- a list of sets
record AreSets (xs : List Term) : Type 0 where
  all : List (List Range)
  is : as_sets (terms_list xs) ≡ Some all
  at : (p : ℕ) → option_map (λ s. set s) (slice_get all p) ≡ term_in xs p

abbrev no_numbers : List ℤ
no_numbers = []

abbrev no_sets : List (List Range)
no_sets = []

abbrev no_terms : List Term
no_terms = []

no_number_at : (p : ℕ) → option_map (λ n. number n) (slice_get no_numbers p) ≡ term_in no_terms p
no_number_at zero = refl
no_number_at (suc p) = refl

no_set_at : (p : ℕ) → option_map (λ s. set s) (slice_get no_sets p) ≡ term_in no_terms p
no_set_at zero = refl
no_set_at (suc p) = refl

numbers_none : AreNumbers []
unfolding terms_list
numbers_none = record { all = no_numbers; is = refl; at = no_number_at }

sets_none : AreSets []
unfolding terms_list
sets_none = record { all = no_sets; is = refl; at = no_set_at }

number_more_at : (n : ℤ) (ns : List ℤ) (x : Term) (xs : List Term) → x ≡ Some (number n) → ((p : ℕ) → option_map (λ n. number n) (slice_get ns p) ≡ term_in xs p) → (p : ℕ) → option_map (λ n. number n) (slice_get (n ∷ ns) p) ≡ term_in (x ∷ xs) p
number_more_at n ns x xs e h zero = sym e
number_more_at n ns x xs e h (suc p) = h p

set_more_at : (n : List Range) (ns : List (List Range)) (x : Term) (xs : List Term) → x ≡ Some (set n) → ((p : ℕ) → option_map (λ n. set n) (slice_get ns p) ≡ term_in xs p) → (p : ℕ) → option_map (λ n. set n) (slice_get (n ∷ ns) p) ≡ term_in (x ∷ xs) p
set_more_at n ns x xs e h zero = sym e
set_more_at n ns x xs e h (suc p) = h p

cons_number : (n : ℤ) (xs : List Term) (ns : List ℤ) → as_numbers (terms_list xs) ≡ Some ns → as_numbers (terms_list (Some (number n) ∷ xs)) ≡ Some (n ∷ ns)
unfolding terms_list cons_term
cons_number n xs ns e = ap (λ o. as_numbers (option_map (λ ns. numbers (n ∷ ns)) o)) e

cons_set : (n : List Range) (xs : List Term) (ns : List (List Range)) → as_sets (terms_list xs) ≡ Some ns → as_sets (terms_list (Some (set n) ∷ xs)) ≡ Some (n ∷ ns)
unfolding terms_list cons_term
cons_set n xs ns e = ap (λ o. as_sets (option_map (λ ns. sets (n ∷ ns)) o)) e

record IsNumber (x : Term) : Type 0 where
  value : ℤ
  is : x ≡ Some (number value)

record IsSet (x : Term) : Type 0 where
  value : List Range
  is : x ≡ Some (set value)

number_there : (x : Term) → IsSome (as_number x) → IsNumber x
number_there None h = absurd (cc)
number_there (Some (number n)) h = record { value = n; is = refl }
number_there (Some v) h = absurd (cc)

set_there : (x : Term) → IsSome (as_set x) → IsSet x
set_there None h = absurd (cc)
set_there (Some (set s)) h = record { value = s; is = refl }
set_there (Some v) h = absurd (cc)

numbers_more : (x : Term) (xs : List Term) → IsNumber x → AreNumbers xs → AreNumbers (x ∷ xs)
numbers_more x xs n h = record {
  all = n.value ∷ h.all;
  is = ap (λ y. as_numbers (terms_list (y ∷ xs))) n.is ∙ cons_number n.value xs h.all h.is;
  at = number_more_at n.value h.all x xs n.is h.at;
}

sets_more : (x : Term) (xs : List Term) → IsSet x → AreSets xs → AreSets (x ∷ xs)
sets_more x xs n h = record {
  all = n.value ∷ h.all;
  is = ap (λ y. as_sets (terms_list (y ∷ xs))) n.is ∙ cons_set n.value xs h.all h.is;
  at = set_more_at n.value h.all x xs n.is h.at;
}

number_at : (y : Term) (ns : List ℤ) (p : ℕ) → as_numbers y ≡ Some ns → at_place y p ≡ option_map (λ n. number n) (slice_get ns p)
unfolding access_term
number_at None ns p e = absurd (cc)
number_at (Some (numbers ms)) ns p e = let same : ms ≡ ns = cc in ap (λ ks. option_map (λ n. number n) (slice_get ks p)) same
number_at (Some empty) ns p e = let same : no_numbers ≡ ns = cc in none_at p ∙ ap (λ ks. option_map (λ n. number n) (slice_get ks p)) same
  where
    none_at : (p : ℕ) → None ≡ option_map (λ n. number n) (slice_get no_numbers p)
    none_at zero = refl
    none_at (suc p) = refl
number_at (Some v) ns p e = absurd (cc)

set_at : (y : Term) (ns : List (List Range)) (p : ℕ) → as_sets y ≡ Some ns → at_place y p ≡ option_map (λ n. set n) (slice_get ns p)
unfolding access_term
set_at None ns p e = absurd (cc)
set_at (Some (sets ms)) ns p e = let same : ms ≡ ns = cc in ap (λ ks. option_map (λ n. set n) (slice_get ks p)) same
set_at (Some empty) ns p e = let same : no_sets ≡ ns = cc in none_at p ∙ ap (λ ks. option_map (λ n. set n) (slice_get ks p)) same
  where
    none_at : (p : ℕ) → None ≡ option_map (λ n. set n) (slice_get no_sets p)
    none_at zero = refl
    none_at (suc p) = refl
set_at (Some v) ns p e = absurd (cc)

-- what a list has at each place
abbrev HasPlaces : List Term → Type 0
HasPlaces xs = (p : ℕ) → at_place (terms_list xs) p ≡ term_in xs p

numbers_places : (xs : List Term) → AreNumbers xs → HasPlaces xs
numbers_places xs h p = number_at (terms_list xs) h.all p h.is ∙ h.at p

sets_places : (xs : List Term) → AreSets xs → HasPlaces xs
sets_places xs h p = set_at (terms_list xs) h.all p h.is ∙ h.at p

-- ---- the lists of a line

abbrev is_set : Base → Bool
is_set base.SetInt = true
is_set (base.SetEnum e) = true
is_set b = false

map_there : {A B : Type 0} (f : A → B) (o : Option A) → IsSome (option_map f o) → IsSome o
map_there f None h = absurd (cc)
map_there f (Some x) h = refl

value_number : (b : Base) (x : Term) → is_set b ≡ false → IsSome (value_by b x) → IsSome (as_number x)
value_number base.SetInt x e h = absurd (cc)
value_number (base.SetEnum d) x e h = absurd (cc)
value_number b x e h = map_there (λ n. content_by b n []) (as_number x) h

value_set : (b : Base) (x : Term) → is_set b ≡ true → IsSome (value_by b x) → IsSome (as_set x)
value_set base.SetInt x e h = map_there (λ s. values.set None s) (as_set x) h
value_set (base.SetEnum d) x e h = map_there (λ s. values.set (Some d) s) (as_set x) h
value_set b x e h = absurd (cc)

abbrev value_terms : (ℕ → Term) → List Symbol → List Term
value_terms t ss = map (λ s. t s.term) ss

abbrev occurs_terms : (ℕ → Term) → List Symbol → List Term
occurs_terms t ss = map (λ s. occurs_term t s.occurs) ss

values_numbers : (t : ℕ → Term) (b : Base) (ss : List Symbol) → is_set b ≡ false → HaveBase b ss → AreItems t ss → AreNumbers (value_terms t ss)
values_numbers t b [] e h w = numbers_none
values_numbers t b (s ∷ ss) e h w = numbers_more (t s.term) (value_terms t ss) (number_there (t s.term) (value_number b (t s.term) e (subst (λ c. IsSome (value_by c (t s.term))) h.0 w.0.value))) (values_numbers t b ss e h.1 w.1)

values_sets : (t : ℕ → Term) (b : Base) (ss : List Symbol) → is_set b ≡ true → HaveBase b ss → AreItems t ss → AreSets (value_terms t ss)
values_sets t b [] e h w = sets_none
values_sets t b (s ∷ ss) e h w = sets_more (t s.term) (value_terms t ss) (set_there (t s.term) (value_set b (t s.term) e (subst (λ c. IsSome (value_by c (t s.term))) h.0 w.0.value))) (values_sets t b ss e h.1 w.1)

values_places : (t : ℕ → Term) (b : Base) (ss : List Symbol) → HaveBase b ss → AreItems t ss → HasPlaces (value_terms t ss)
values_places t b ss h w = by (is_set b) refl
  where
    by : (p : Bool) → is_set b ≡ p → HasPlaces (value_terms t ss)
    by false e = numbers_places (value_terms t ss) (values_numbers t b ss e h w)
    by true e = sets_places (value_terms t ss) (values_sets t b ss e h w)

occurs_there : (t : ℕ → Term) (o : Option ℕ) → IsOccurrence t o → IsNumber (occurs_term t o)
occurs_there t None h = record { value = pos 1; is = refl }
occurs_there t (Some o) h = number_there (t o) h

occurs_numbers : (t : ℕ → Term) (ss : List Symbol) → AreItems t ss → AreNumbers (occurs_terms t ss)
occurs_numbers t [] w = numbers_none
occurs_numbers t (s ∷ ss) w = numbers_more (occurs_term t s.occurs) (occurs_terms t ss) (occurs_there t s.occurs w.0.occurs) (occurs_numbers t ss w.1)

-- ---- an element's value by its terms

-- the term of an element at a place
abbrev of_element : (Symbol → Term) → Option Symbol → Term
of_element f o = option_and_then f o

term_at : (f : Symbol → Term) (ss : List Symbol) (p : ℕ) → term_in (map f ss) p ≡ of_element f (slice_get ss p)
term_at f [] zero = refl
term_at f [] (suc p) = refl
term_at f (s ∷ ss) zero = refl
term_at f (s ∷ ss) (suc p) = term_at f ss p

abbrev no_contents : List Content
no_contents = []

abbrev no_values : List (Option Content)
no_values = []

value_by_rest : (x : Content) (vs : List (Option Content)) (xs : List Content) (p : ℕ) (o : Option (List Content)) → all_there vs ≡ o → option_map (λ ys. x ∷ ys) o ≡ Some xs → ((ys : List Content) → all_there vs ≡ Some ys → (k : ℕ) → slice_get ys k ≡ option_and_then (λ v. v) (slice_get vs k)) → slice_get xs p ≡ option_and_then (λ v. v) (slice_get (Some x ∷ vs) p)
value_by_rest x vs xs p None q h r = absurd (cc)
value_by_rest x vs xs zero (Some ys) q h r = let same : x ∷ ys ≡ xs = cc in ap (λ zs. slice_get zs 0) (sym same)
value_by_rest x vs xs (suc k) (Some ys) q h r = let same : x ∷ ys ≡ xs = cc in ap (λ zs. slice_get zs (suc k)) (sym same) ∙ r ys q k

value_in : (vs : List (Option Content)) (xs : List Content) (p : ℕ) → all_there vs ≡ Some xs → slice_get xs p ≡ option_and_then (λ v. v) (slice_get vs p)
value_in [] xs p e = let same : no_contents ≡ xs = cc in ap (λ ys. slice_get ys p) (sym same) ∙ none_at p
  where
    none_at : (p : ℕ) → slice_get no_contents p ≡ option_and_then (λ v. v) (slice_get no_values p)
    none_at zero = refl
    none_at (suc p) = refl
value_in (None ∷ vs) xs p e = absurd (cc)
value_in (Some x ∷ vs) xs p e = value_by_rest x vs xs p (all_there vs) refl e (λ ys q k. value_in vs ys k q)

value_of_symbol : (t : ℕ → Term) (ss : List Symbol) (p : ℕ) → option_and_then (λ v. v) (slice_get (map (symbol_value t) ss) p) ≡ option_and_then (symbol_value t) (slice_get ss p)
value_of_symbol t [] zero = refl
value_of_symbol t [] (suc p) = refl
value_of_symbol t (s ∷ ss) zero = refl
value_of_symbol t (s ∷ ss) (suc p) = value_of_symbol t ss p

element_value : (t : ℕ → Term) (ss : List Symbol) (xs : List Content) (p : ℕ) → all_there (map (symbol_value t) ss) ≡ Some xs → slice_get xs p ≡ option_and_then (symbol_value t) (slice_get ss p)
element_value t ss xs p e = value_in (map (symbol_value t) ss) xs p e ∙ value_of_symbol t ss p

-- ---- the place

-- what there is at a place that is there or not
abbrev at_some : {A : Type 0} → (ℕ → Option A) → Option ℕ → Option A
at_some f o = option_and_then f o

access_none : (y : Term) → access_term None y ≡ None
unfolding access_term
access_none y = refl

place_read : (xs : List Term) (o : Option ℕ) → HasPlaces xs → access_term (option_map (λ k. number (pos (suc k))) o) (terms_list xs) ≡ at_some (term_in xs) o
place_read xs None h = access_none (terms_list xs)
place_read xs (Some p) h = h p

-- no list has a place before the first, nor one after its last
zero_none : (y : Term) → access_term (whole (pos 0)) y ≡ None
unfolding access_term
zero_none None = refl
zero_none (Some (numbers ns)) = refl
zero_none (Some (sets ss)) = refl
zero_none (Some v) = refl

negative_none : (k : ℕ) (y : Term) → access_term (whole (negsuc k)) y ≡ None
unfolding access_term
negative_none k None = refl
negative_none k (Some (numbers ns)) = refl
negative_none k (Some (sets ss)) = refl
negative_none k (Some v) = refl

term_after : (xs : List Term) (p : ℕ) → length xs ≤ p → term_in xs p ≡ None
term_after [] zero h = refl
term_after [] (suc p) h = refl
term_after (x ∷ xs) zero h = absurd (omega (arith, h))
term_after (x ∷ xs) (suc p) h = term_after xs p (omega (arith, h))

not_among : (n p : ℕ) → is_among n (pos (suc p)) ≡ false → n ≤ p
not_among n p h = by (int_le (pos 1) (pos (suc p))) refl h
  where
    by : (t : Bool) → int_le (pos 1) (pos (suc p)) ≡ t → (t && int_le (pos (suc p)) (pos n)) ≡ false → n ≤ p
    by true e q = omega (arith, ints, q)
    by false e q = absurd (omega (arith, ints, e))

beyond_read : (xs : List Term) (z : Term) → HasPlaces xs → IsBeyond (length xs) (as_number z) → access_term z (terms_list xs) ≡ None
unfolding access_term
beyond_read xs None h b = access_none (terms_list xs)
beyond_read xs (Some (number (pos zero))) h b = zero_none (terms_list xs)
beyond_read xs (Some (number (pos (suc p)))) h b = h p ∙ term_after xs p (not_among (length xs) p b)
beyond_read xs (Some (number (negsuc k))) h b = negative_none k (terms_list xs)
beyond_read xs (Some v) h b = refl

reached_read : (xs : List Term) (ix : List Range) (os : List (Option ℤ)) (z : Term) → HasPlaces xs → count_of ix ≡ length xs → IsReached ix os z → access_term z (terms_list xs) ≡ at_some (term_in xs) (placed ix os)
reached_read xs ix os z h c (inl e) = ap (λ x. access_term x (terms_list xs)) e ∙ place_read xs (placed ix os) h
reached_read xs ix os z h c (inr e) = beyond_read xs z h (subst (λ n. IsBeyond n (as_number z)) c e.1) ∙ ap (at_some (term_in xs)) (sym e.0)

element_term : (f : Symbol → Term) (ss : List Symbol) (ix : List Range) (os : List (Option ℤ)) (x y : Term) → IsReached ix os x → count_of ix ≡ length ss → y ≡ terms_list (map f ss) → HasPlaces (map f ss) → access_term x y ≡ at_some (λ p. of_element f (slice_get ss p)) (placed ix os)
element_term f ss ix os x y e c l h = ap (access_term x) l ∙ reached_read (map f ss) ix os x h (c ∙ sym (length-map ss f)) e ∙ by (placed ix os)
  where
    by : (o : Option ℕ) → at_some (term_in (map f ss)) o ≡ at_some (λ p. of_element f (slice_get ss p)) o
    by None = refl
    by (Some p) = term_at f ss p

-- ---- the value that is asked for

accessed_by : (ix : List Range) (xs : List Content) (ns : Option (List ℤ)) → option_and_then (element_at (values.array ix (contents xs))) ns ≡ at_some (λ k. slice_get (items_in (contents xs)) k) (option_and_then (place_of ix) ns)
accessed_by ix xs None = refl
accessed_by ix xs (Some ns) = refl

accessed_is : (r : Reading) (ix : List Range) (is : List Symbol) (xs : List Content) → IsGiven r.mode → AreIndices is → accessed (Some (values.array ix (contents xs))) (map (symbol_seen r) is) ≡ at_some (λ k. slice_get xs k) (placed ix (places_of r is))
accessed_is r ix is xs g h =
    ap (option_and_then (element_at (values.array ix (contents xs)))) (indices_are r is g h)
    ∙ accessed_by ix xs (all_numbers (places_of r is))
    ∙ ap (at_some (λ k. slice_get (items_in (contents xs)) k)) (placed_is ix (places_of r is))
    ∙ ap (λ ys. at_some (λ k. slice_get ys k) (placed ix (places_of r is))) (items_back xs)

-- ---- symbols from their terms

none_by : (b : Base) → value_by b None ≡ None
none_by base.SetInt = refl
none_by (base.SetEnum e) = refl
none_by b = refl

base_at : (b : Base) (ss : List Symbol) (p : ℕ) (y : Symbol) → HaveBase b ss → slice_get ss p ≡ Some y → y.base ≡ b
base_at b [] zero y h e = absurd (cc)
base_at b [] (suc p) y h e = absurd (cc)
base_at b (s ∷ ss) zero y h e = let same : s ≡ y = cc in subst (λ z. z.base ≡ b) same h.0
base_at b (s ∷ ss) (suc p) y h e = base_at b ss p y h.1 e

plain_at : (ss : List Symbol) (p : ℕ) (y : Symbol) → ArePlain ss → slice_get ss p ≡ Some y → y.occurs ≡ None
plain_at [] zero y h e = absurd (cc)
plain_at [] (suc p) y h e = absurd (cc)
plain_at (s ∷ ss) zero y h e = let same : s ≡ y = cc in subst (λ z. z.occurs ≡ None) same h.0
plain_at (s ∷ ss) (suc p) y h e = plain_at ss p y h.1 e

item_at : (t : ℕ → Term) (ss : List Symbol) (p : ℕ) (y : Symbol) → AreItems t ss → slice_get ss p ≡ Some y → IsItem t y
item_at t [] zero y h e = absurd (cc)
item_at t [] (suc p) y h e = absurd (cc)
item_at t (s ∷ ss) zero y h e = let same : s ≡ y = cc in subst (IsItem t) same h.0
item_at t (s ∷ ss) (suc p) y h e = item_at t ss p y h.1 e

abbrev values_at : (ℕ → Term) → List Symbol → Option ℕ → Option Content
values_at t ss o = at_some (λ p. option_and_then (symbol_value t) (slice_get ss p)) o

abbrev value_term_at : (ℕ → Term) → List Symbol → Option ℕ → Term
value_term_at t ss o = at_some (λ p. of_element (λ s. t s.term) (slice_get ss p)) o

abbrev occurs_term_at : (ℕ → Term) → List Symbol → Option ℕ → Term
occurs_term_at t ss o = at_some (λ p. of_element (λ s. occurs_term t s.occurs) (slice_get ss p)) o

plain_symbol : (t : ℕ → Term) (b : Base) (y : Symbol) → y.base ≡ b → y.occurs ≡ None → value_by b (t y.term) ≡ symbol_value t y
plain_symbol t b y e o = ap (λ c. value_by c (t y.term)) (sym e) ∙ ap (λ q. value_at t y.base q y.term) (sym o)

plain_values : (t : ℕ → Term) (b : Base) (ss : List Symbol) (o : Option ℕ) → HaveBase b ss → ArePlain ss → value_by b (value_term_at t ss o) ≡ values_at t ss o
plain_values t b ss None h w = none_by b
plain_values t b ss (Some p) h w = by (slice_get ss p) refl
  where
    by : (q : Option Symbol) → slice_get ss p ≡ q → value_by b (of_element (λ s. t s.term) q) ≡ option_and_then (symbol_value t) q
    by None e = none_by b
    by (Some y) e = plain_symbol t b y (base_at b ss p y h e) (plain_at ss p y w e)

-- ---- what is no option

true_is : (d x : Term) → and_term d x ≡ bit (is_true d && is_true x)
unfolding and_term
true_is d x = refl

plain_defined : (b : Base) (d x : Term) → is_true d ≡ true → value_by b (plain_term b d x) ≡ at_node b false (value_by b x)
plain_defined base.Bool d x h = ap (value_by base.Bool) (true_is d x ∙ ap (λ p. bit (p && is_true x)) h) ∙ truth_by (is_true x) ∙ ap (λ p. Some (values.bool p)) (sym (truth_is x))
plain_defined b d x h = ap (value_by b) (guarded_true d x h)

plain_undefined : (b : Base) (d x : Term) → is_true d ≡ false → value_by b (plain_term b d x) ≡ at_node b false None
plain_undefined base.Bool d x h = ap (value_by base.Bool) (true_is d x ∙ ap (λ p. bit (p && is_true x)) h) ∙ truth_by false
plain_undefined base.SetInt d x h = ap (value_by base.SetInt) (guarded_false d x h)
plain_undefined (base.SetEnum e) d x h = ap (value_by (base.SetEnum e)) (guarded_false d x h)
plain_undefined b d x h = ap (value_by b) (guarded_false d x h)

-- ---- options

there_as : (p q : Bool) (o : Term) → p ≡ q → is_true (bit (is_true (bit (not (is_true (bit p)))) || is_true o)) ≡ (not q || is_true o)
there_as p q o e = bit_true (is_true (bit (not (is_true (bit p)))) || is_true o) ∙ ap (λ b. b || is_true o) (bit_true (not (is_true (bit p))) ∙ ap not (bit_true p ∙ e))

there_is : (v o : Term) → IsNumber v → is_true (there_term v o) ≡ is_true o
unfolding or_term not_term comparison_term
there_is v o n = ap (λ x. is_true (bit (is_true (bit (not (is_true (bit (holds (as_number x) (as_number x) int_eq))))) || is_true o))) n.is ∙ there_as (int_eq n.value n.value) true o (same_number n.value)

there_lost : (o : Term) → is_true (there_term None o) ≡ true
unfolding or_term not_term comparison_term
there_lost o = there_as false false o refl

abbrev option_value : Base → Term → Term → Option Content
option_value b there x = if is_true there then value_by b x else Some values.absent

lost_value : (b : Base) (there : Term) → is_true there ≡ true → option_value b there None ≡ None
lost_value b there h = ap (λ p. if p then value_by b None else Some values.absent) h ∙ none_by b

option_symbol : (t : ℕ → Term) (b : Base) (y : Symbol) (o : Option ℕ) → IsNumber (t y.term) → option_value b (there_term (t y.term) (occurs_term t o)) (t y.term) ≡ value_at t b o y.term
option_symbol t b y None n = ap (λ p. if p then value_by b (t y.term) else Some values.absent) (there_is (t y.term) (bit true) n)
option_symbol t b y (Some i) n = ap (λ p. if p then value_by b (t y.term) else Some values.absent) (there_is (t y.term) (t i) n)

number_is : (b : Base) → is_number b ≡ true → is_set b ≡ false
number_is base.Bool h = refl
number_is base.Int h = refl
number_is (base.Enum e) h = refl
number_is base.SetInt h = absurd (cc)
number_is (base.SetEnum e) h = absurd (cc)
number_is b h = absurd (cc)

item_number : (t : ℕ → Term) (b : Base) (y : Symbol) → is_number b ≡ true → y.base ≡ b → IsItem t y → IsNumber (t y.term)
item_number t b y n e i = number_there (t y.term) (value_number b (t y.term) (number_is b n) (subst (λ c. IsSome (value_by c (t y.term))) e i.value))

option_values : (t : ℕ → Term) (b : Base) (ss : List Symbol) (o : Option ℕ) → is_number b ≡ true → HaveBase b ss → AreItems t ss → option_value b (there_term (value_term_at t ss o) (occurs_term_at t ss o)) (value_term_at t ss o) ≡ values_at t ss o
option_values t b ss None n h w = lost_value b (there_term None None) (there_lost None)
option_values t b ss (Some p) n h w = by (slice_get ss p) refl
  where
    by : (q : Option Symbol) → slice_get ss p ≡ q → option_value b (there_term (of_element (λ s. t s.term) q) (of_element (λ s. occurs_term t s.occurs) q)) (of_element (λ s. t s.term) q) ≡ option_and_then (symbol_value t) q
    by None e = lost_value b (there_term None None) (there_lost None)
    by (Some y) e =
        option_symbol t b y y.occurs (item_number t b y n (base_at b ss p y h e) (item_at t ss p y w e))
        ∙ ap (λ c. value_at t c y.occurs y.term) (sym (base_at b ss p y h e))

-- ---- all together

-- a line's lists, read where its array is defined
record IsRead (r : Reading) (b : Base) (ls : Lists) (d n : ℕ) (xs : List Content) : Type 0 where
  items : List Symbol
  count : length items ≡ n
  all : all_there (map (symbol_value r.term) items) ≡ Some xs
  holds : is_true (r.term d) ≡ true
  are : AreItems r.term items
  bases : HaveBase b items
  lists : AreLists r.term items ls

some_same : {A : Type 0} (o : Option A) (x y : A) → o ≡ Some x → o ≡ Some y → x ≡ y
some_same o x y p q = cc

read_line : (r : Reading) (s : Run) (b : Base) (ls : Lists) (k d n : ℕ) (xs : List Content) → HasLists s k ls → IsLineOf s k d n → Reads r s → ls.base ≡ b → r.line k ≡ Some xs → IsRead r b ls d n xs
read_line r s b ls k d n xs h l q u e =
    let same : h.line ≡ l.line = some_same (slice_get s.lines k) h.line l.line h.stands l.stands in
    let lists : AreLists r.term l.line.items.items ls = subst (λ z. AreLists r.term z.items.items ls) same (h.lists r q) in
    let f = line_defined r s k l.line xs l.stands q e in
    let holds : is_true (r.term d) ≡ true = ap (λ i. is_true (r.term i)) (sym l.defined) ∙ f.holds in
    record {
      items = l.line.items.items;
      count = l.count;
      all = f.all;
      holds = holds;
      are = l.whole r.term q.nodes holds;
      bases = subst (λ c. HaveBase c l.line.items.items) u lists.bases;
      lists = lists;
    }

value_access : (r : Reading) (b : Base) (ls : Lists) (d n : ℕ) (xs : List Content) (ix : List Range) (os : List (Option ℤ)) (x : Term) → (f : IsRead r b ls d n xs) → count_of ix ≡ n → IsReached ix os x → access_term x (r.term ls.terms) ≡ value_term_at r.term f.items (placed ix os)
value_access r b ls d n xs ix os x f c e = element_term (λ s. r.term s.term) f.items ix os x (r.term ls.terms) e (c ∙ sym f.count) (f.lists.terms ∙ list_is r.term f.items) (values_places r.term b f.items f.bases f.are)

occurs_access : (r : Reading) (b : Base) (ls : Lists) (d n : ℕ) (xs : List Content) (ix : List Range) (os : List (Option ℤ)) (x : Term) (l : ℕ) → (f : IsRead r b ls d n xs) → count_of ix ≡ n → IsReached ix os x → r.term l ≡ occurs_list r.term f.items → access_term x (r.term l) ≡ occurs_term_at r.term f.items (placed ix os)
occurs_access r b ls d n xs ix os x l f c e p = element_term (λ s. occurs_term r.term s.occurs) f.items ix os x (r.term l) e (c ∙ sym f.count) (p ∙ occurrences_are r.term f.items) (numbers_places (occurs_terms r.term f.items) (occurs_numbers r.term f.items f.are))

wanted : (r : Reading) (b : Base) (ls : Lists) (d n : ℕ) (xs : List Content) (o : Option ℕ) → (f : IsRead r b ls d n xs) → at_some (λ k. slice_get xs k) o ≡ values_at r.term f.items o
wanted r b ls d n xs None f = refl
wanted r b ls d n xs (Some p) f = element_value r.term f.items xs p f.all

plain_read : (r : Reading) (b : Base) (ls : Lists) (d n place : ℕ) (xs : List Content) (ix : List Range) (os : List (Option ℤ)) → IsRead r b ls d n xs → count_of ix ≡ n → ls.occurs ≡ None → IsReached ix os (r.term place) → value_by b (plain_term b (r.term d) (access_term (r.term place) (r.term ls.terms))) ≡ at_node b false (at_some (λ k. slice_get xs k) (placed ix os))
plain_read r b ls d n place xs ix os f c o e =
    ap (λ x. value_by b (plain_term b (r.term d) x)) (value_access r b ls d n xs ix os (r.term place) f c e)
    ∙ plain_defined b (r.term d) (value_term_at r.term f.items (placed ix os)) f.holds
    ∙ ap (at_node b false) (plain_values r.term b f.items (placed ix os) f.bases (subst (IsOccursList r.term f.items) o f.lists.occurs) ∙ sym (wanted r b ls d n xs (placed ix os) f))

-- a place of an array of truth values
element_there : (ss : List Symbol) (p : ℕ) → suc p ≤ length ss → IsSome (slice_get ss p)
element_there [] p h = absurd (omega (arith, h))
element_there (s ∷ ss) zero h = refl
element_there (s ∷ ss) (suc p) h = element_there ss p (omega (arith, h))

truth_there : (t : ℕ → Term) (ss : List Symbol) (p : ℕ) → HaveBase base.Bool ss → AreItems t ss → IsSome (slice_get ss p) → IsSome (value_by base.Bool (term_in (value_terms t ss) p))
truth_there t ss p h w k = subst (λ x. IsSome (value_by base.Bool x)) (sym (term_at (λ s. t s.term) ss p)) (by (slice_get ss p) refl k)
  where
    by : (q : Option Symbol) → slice_get ss p ≡ q → IsSome q → IsSome (value_by base.Bool (of_element (λ s. t s.term) q))
    by None e i = absurd (cc)
    by (Some y) e i = subst (λ c. IsSome (value_by c (t y.term))) (base_at base.Bool ss p y h e) (item_at t ss p y w e).value

is_before : (n p : ℕ) → is_among n (pos (suc p)) ≡ true → suc p ≤ n
is_before n p h = by (int_le (pos 1) (pos (suc p))) refl h
  where
    by : (t : Bool) → int_le (pos 1) (pos (suc p)) ≡ t → (t && int_le (pos (suc p)) (pos n)) ≡ true → suc p ≤ n
    by true e q = omega (arith, ints, q)
    by false e q = absurd (cc)

number_term : (x : Term) (m : ℤ) → as_number x ≡ Some m → x ≡ whole m
number_term (Some (number n)) m e = let same : n ≡ m = cc in ap whole same
number_term None m e = absurd (cc)
number_term (Some (set s)) m e = absurd (cc)
number_term (Some (numbers ns)) m e = absurd (cc)
number_term (Some (sets ss)) m e = absurd (cc)
number_term (Some empty) m e = absurd (cc)

has_truths : (t : ℕ → Term) (ss : List Symbol) (x : Term) → HaveBase base.Bool ss → AreItems t ss → HasTruths (length ss) x (terms_list (value_terms t ss))
has_truths t ss x h w = record {
  there = λ m e k. subst (λ z. IsSome (value_by base.Bool (access_term z list))) (sym (number_term x m e)) (at m k);
  beyond = λ m e k. beyond_read (value_terms t ss) x places (subst (IsBeyond (length (value_terms t ss))) (sym e) (subst (λ n. is_among n m ≡ false) (sym count) k));
  nowhere = λ e. beyond_read (value_terms t ss) x places (subst (IsBeyond (length (value_terms t ss))) (sym e) tt);
}
  where
    list : Term
    list = terms_list (value_terms t ss)

    places : HasPlaces (value_terms t ss)
    places = values_places t base.Bool ss h w

    count : length (value_terms t ss) ≡ length ss
    count = length-map ss (λ s. t s.term)

    at : (m : ℤ) → is_among (length ss) m ≡ true → IsSome (value_by base.Bool (access_term (whole m) list))
    at (pos zero) k = absurd (cc)
    at (negsuc i) k = absurd (cc)
    at (pos (suc p)) k = subst (λ z. IsSome (value_by base.Bool z)) (sym (places p)) (truth_there t ss p h w (element_there ss p (is_before (length ss) p k)))

value_read : (r : Reading) (b : Base) (ls : Lists) (d n m : ℕ) (xs : List Content) (x : Term) → IsRead r b ls d n xs → m ≡ n → value_by b (value_term b m None x (r.term ls.terms)) ≡ value_by b (access_term x (r.term ls.terms))
value_read r base.Bool ls d n m xs x f e =
    let list = f.lists.terms ∙ list_is r.term f.items in
    ap (λ y. value_by base.Bool (truth_term m x y)) list
    ∙ truth_read m x (terms_list (value_terms r.term f.items)) (subst (λ k. HasTruths k x (terms_list (value_terms r.term f.items))) (f.count ∙ sym e) (has_truths r.term f.items x f.bases f.are))
    ∙ ap (λ y. value_by base.Bool (access_term x y)) (sym list)
value_read r b ls d n m xs x f e = refl

value_nowhere : (b : Base) (m : ℕ) (q : Option ℕ) (list : Term) → value_term b m q None list ≡ None
value_nowhere b m (Some l) list = access_none list
value_nowhere base.Bool m None list = truth_nowhere m list
value_nowhere b m None list = access_none list

-- an option by its place, or by none
abbrev option_by : Reading → Base → ℕ → Lists → Term → Option Content
option_by r b m ls at = option_value b (occurs_at r (value_term b m ls.occurs at (r.term ls.terms)) at ls.occurs) (value_term b m ls.occurs at (r.term ls.terms))

option_read : (r : Reading) (b : Base) (ls : Lists) (d n place : ℕ) (xs : List Content) (ix : List Range) (os : List (Option ℤ)) → IsRead r b ls d n xs → is_number b ≡ true → count_of ix ≡ n → IsReached ix os (r.term place) → option_by r b (count_of ix) ls (option_place r d place) ≡ at_some (λ k. slice_get xs k) (placed ix os)
option_read r b ls d n place xs ix os f m c e =
    ap (option_by r b (count_of ix) ls) (guarded_true (r.term d) (r.term place) f.holds)
    ∙ by ls.occurs f.lists.occurs
    ∙ sym (wanted r b ls d n xs (placed ix os) f)
  where
    access_is : access_term (r.term place) (r.term ls.terms) ≡ value_term_at r.term f.items (placed ix os)
    access_is = value_access r b ls d n xs ix os (r.term place) f c e

    by : (q : Option ℕ) → IsOccursList r.term f.items q → option_value b (occurs_at r (value_term b (count_of ix) q (r.term place) (r.term ls.terms)) (r.term place) q) (value_term b (count_of ix) q (r.term place) (r.term ls.terms)) ≡ values_at r.term f.items (placed ix os)
    by None p = value_read r b ls d n (count_of ix) xs (r.term place) f c ∙ ap (value_by b) access_is ∙ plain_values r.term b f.items (placed ix os) f.bases p
    by (Some l) p =
        ap (λ v. option_value b (there_term v (access_term (r.term place) (r.term l))) v) access_is
        ∙ ap (λ a. option_value b (there_term (value_term_at r.term f.items (placed ix os)) a) (value_term_at r.term f.items (placed ix os))) (occurs_access r b ls d n xs ix os (r.term place) l f c e p)
        ∙ option_values r.term b f.items (placed ix os) m f.bases f.are

option_undefined : (r : Reading) (b : Base) (m : ℕ) (ls : Lists) (d place : ℕ) → is_true (r.term d) ≡ false → option_by r b m ls (option_place r d place) ≡ None
option_undefined r b m ls d place h =
    ap (option_by r b m ls) (guarded_false (r.term d) (r.term place) h)
    ∙ ap (λ v. option_value b (occurs_at r v None ls.occurs) v) (value_nowhere b m ls.occurs (r.term ls.terms))
    ∙ by ls.occurs
  where
    by : (q : Option ℕ) → option_value b (occurs_at r None None q) None ≡ None
    by None = none_by b
    by (Some l) = lost_value b (there_term None (access_term None (r.term l))) (there_lost (access_term None (r.term l)))

-- what is known when a place is made
record IsPlaced (r : Reading) (s : Run) (b : Base) (ls : Lists) (ix : List Range) (is : List Symbol) (k d n place : ℕ) : Type 0 where
  pub lists : HasLists s k ls
  pub line : IsLineOf s k d n
  pub reads : Reads r s
  pub suits : ls.base ≡ b
  pub count : count_of ix ≡ n
  pub indices : AreIndices is
  pub reached : IsReached ix (places_of r is) (r.term place)

abbrev argument_of : List Range → Option (List Content) → Option Content
argument_of ix o = option_map (λ xs. values.array ix (contents xs)) o

asked : (r : Reading) (ix : List Range) (k : ℕ) (is : List Symbol) (o : Option (List Content)) → IsGiven r.mode → r.line k ≡ o → access_value r ix k is ≡ accessed (argument_of ix o) (map (symbol_seen r) is)
asked r ix k is o g e = ap (λ a. accessed a (map (symbol_seen r) is)) (held_given r.mode (argument_of ix (r.line k)) g ∙ ap (argument_of ix) e)

plain_held : (r : Reading) (s m new : Run) (b : Base) (ls : Lists) (ix : List Range) (is : List Symbol) (k d n place : ℕ) (y : Symbol) → IsPlaced r s b ls ix is k d n place → IsPlainAt r m new b d ls place y → held r.mode (at_node b false (access_value r ix k is)) ≡ symbol_seen r y
plain_held r s m new b ls ix is k d n place y p w = held_by r.mode (at_node b false (access_value r ix k is)) (symbol_value r.term y) (λ g. by g (r.line k) refl)
  where
    value : symbol_value r.term y ≡ value_by b (plain_term b (r.term d) (access_term (r.term place) (r.term ls.terms)))
    value = ap (λ c. value_at r.term c y.occurs y.term) w.base ∙ ap (λ q. value_at r.term b q y.term) w.occurs ∙ ap (value_by b) (sym w.term_is)

    by : IsGiven r.mode → (o : Option (List Content)) → r.line k ≡ o → at_node b false (access_value r ix k is) ≡ symbol_value r.term y
    by g None e =
        ap (at_node b false) (asked r ix k is None g e)
        ∙ sym (value ∙ plain_undefined b (r.term d) (access_term (r.term place) (r.term ls.terms)) (line_fails r s k d n p.line p.reads e))
    by g (Some xs) e =
        ap (at_node b false) (asked r ix k is (Some xs) g e ∙ accessed_is r ix is xs g p.indices)
        ∙ sym (value ∙ plain_read r b ls d n place xs ix (places_of r is) (read_line r s b ls k d n xs p.lists p.line p.reads p.suits e) p.count w.none p.reached)

node_option : (b : Base) (v : Option Content) → at_node b true v ≡ v
node_option base.Bool v = refl
node_option b v = refl

option_held : (r : Reading) (s m new : Run) (b : Base) (ls : Lists) (ix : List Range) (is : List Symbol) (k d n place : ℕ) (y : Symbol) → IsPlaced r s b ls ix is k d n place → IsOptionAt r m new b (count_of ix) d ls place y → held r.mode (at_node b true (access_value r ix k is)) ≡ symbol_seen r y
option_held r s m new b ls ix is k d n place y p w = held_by r.mode (at_node b true (access_value r ix k is)) (symbol_value r.term y) (λ g. node_option b (access_value r ix k is) ∙ by g (r.line k) refl)
  where
    value : symbol_value r.term y ≡ option_by r b (count_of ix) ls (option_place r d place)
    value =
        ap (λ c. value_at r.term c y.occurs y.term) w.base
        ∙ ap (λ q. value_at r.term b q y.term) w.occurs
        ∙ ap (λ x. option_value b x (r.term y.term)) (sym w.occurs_is)
        ∙ ap (option_value b (occurs_at r (option_term r b (count_of ix) d place ls) (option_place r d place) ls.occurs)) (sym w.term_is)

    by : IsGiven r.mode → (o : Option (List Content)) → r.line k ≡ o → access_value r ix k is ≡ symbol_value r.term y
    by g None e =
        asked r ix k is None g e
        ∙ sym (value ∙ option_undefined r b (count_of ix) ls d place (line_fails r s k d n p.line p.reads e))
    by g (Some xs) e =
        asked r ix k is (Some xs) g e ∙ accessed_is r ix is xs g p.indices
        ∙ sym (value ∙ option_read r b ls d n place xs ix (places_of r is) (read_line r s b ls k d n xs p.lists p.line p.reads p.suits e) w.number p.count p.reached)

item_held : (opt : Bool) (r : Reading) (s m new : Run) (b : Base) (ls : Lists) (ix : List Range) (is : List Symbol) (k d n place : ℕ) (y : Symbol) → IsPlaced r s b ls ix is k d n place → IsItemAt opt r m new b (count_of ix) d ls place y → held r.mode (at_node b opt (access_value r ix k is)) ≡ symbol_seen r y
item_held true r s m new b ls ix is k d n place y p w = option_held r s m new b ls ix is k d n place y p w
item_held false r s m new b ls ix is k d n place y p w = plain_held r s m new b ls ix is k d n place y p w

item_same : (opt : Bool) (r : Reading) (old new : Run) (b : Base) (n d : ℕ) (ls : Lists) (place : ℕ) (y : Symbol) → IsItemAt opt r old new b n d ls place y → state_of r old ≡ state_of r new
item_same true r old new b n d ls place y w = w.same
item_same false r old new b n d ls place y w = w.same

pub found_held : (opt : Bool) (r : Reading) (s new : Run) (b : Base) (ls : Lists) (ix : List Range) (is : List Symbol) (k d n : ℕ) (y : Symbol) → HasLists s k ls → IsLineOf s k d n → Reads r s → ls.base ≡ b → count_of ix ≡ n → IsFound opt r s new ix is b d ls y → held r.mode (at_node b opt (access_value r ix k is)) ≡ symbol_seen r y
found_held opt r s new b ls ix is k d n y h l q u c f = item_held opt r s f.mid new b ls ix is k d n f.place y (record { lists = h; line = l; reads = q; suits = u; count = c; indices = f.indices; reached = f.reached }) f.item

pub found_same : (opt : Bool) (r : Reading) (old new : Run) (ix : List Range) (is : List Symbol) (b : Base) (d : ℕ) (ls : Lists) (y : Symbol) → IsFound opt r old new ix is b d ls y → state_of r old ≡ state_of r new
found_same opt r old new ix is b d ls y f = f.same ∙ item_same opt r f.mid new b (count_of ix) d ls f.place y f.item

-- ---- an array without elements

none_in : (xs : List Content) (ss : List Symbol) (t : ℕ → Term) → length ss ≡ 0 → all_there (map (symbol_value t) ss) ≡ Some xs → xs ≡ []
none_in xs [] t h e = cc
none_in xs (s ∷ ss) t h e = absurd (omega (arith, h))

nothing_at : (ix : List Range) (ns : Option (List ℤ)) → option_and_then (element_at (values.array ix (contents []))) ns ≡ None
nothing_at ix None = refl
nothing_at ix (Some ns) = by (place_of ix ns)
  where
    by : (o : Option ℕ) → option_and_then (λ k. slice_get (items_in (contents [])) k) o ≡ None
    by None = refl
    by (Some zero) = refl
    by (Some (suc k)) = refl

empty_access : (r : Reading) (s : Run) (ix : List Range) (is : List Symbol) (k d : ℕ) → IsGiven r.mode → IsLineOf s k d 0 → Reads r s → access_value r ix k is ≡ None
empty_access r s ix is k d g l q = by (r.line k) refl
  where
    by : (o : Option (List Content)) → r.line k ≡ o → access_value r ix k is ≡ None
    by None e = asked r ix k is None g e
    by (Some xs) e =
        let f = line_defined r s k l.line xs l.stands q e in
        asked r ix k is (Some xs) g e
        ∙ ap (λ ys. accessed (argument_of ix (Some ys)) (map (symbol_seen r) is)) (none_in xs l.line.items.items r.term l.count f.all)
        ∙ nothing_at ix (indices_in (map (symbol_seen r) is))

pub empty_held : (r : Reading) (s : Run) (b : Base) (opt : Bool) (ix : List Range) (is : List Symbol) (k d n : ℕ) → n ≡ 0 → IsLineOf s k d n → Reads r s → held r.mode (at_node b opt (access_value r ix k is)) ≡ held r.mode (at_node b opt None)
empty_held r s b opt ix is k d n z l q = held_by r.mode (at_node b opt (access_value r ix k is)) (at_node b opt None) (λ g. ap (at_node b opt) (empty_access r s ix is k d g (subst (λ m. IsLineOf s k d m) z l) q))

-- ---- a symbol that is undefined

guard_not : (x : Term) → guard_term (bit false) x ≡ None
unfolding guard_term
guard_not x = refl

lost_at : (t : ℕ → Term) (b : Base) (opt : Bool) (o id : ℕ) → t o ≡ bit true → t id ≡ None → value_at t b (marked opt o) id ≡ None
lost_at t b true o id y e = ap (λ x. option_value b x (t id)) y ∙ ap (value_by b) e ∙ none_by b
lost_at t b false o id y e = ap (value_by b) e ∙ none_by b

pub lost_symbol : (r : Reading) (old new : Run) (p q w : State) (b : Base) (opt : Bool) (some o u id : ℕ) (s : Symbol) → state_of r old ≡ p → Out (bit true) p ≡ Out (r.term o) q → Out (bit false) q ≡ Out (r.term u) w → Out (guard_term (r.term u) (r.term some)) w ≡ Out (r.term id) (state_of r new) → s ≡ symbol_of b (marked opt o) id → IsLost r old new s
lost_symbol r old new p q w b opt some o u id s k y f e z = record {
  same = k ∙ out_state y ∙ out_state f ∙ out_state e;
  undefined = ap (symbol_value r.term) z ∙ lost_at r.term b opt o id (sym (out_value y)) (sym (out_value e) ∙ ap (λ x. guard_term x (r.term some)) (sym (out_value f)) ∙ guard_not (r.term some));
}

pub false_node : (b : Base) (o : Bool) → is_false b o ≡ true → at_node b o None ≡ Some (values.bool false)
false_node base.Bool false h = refl
false_node base.Bool true h = absurd (cc)
false_node b o h = absurd (cc)

lost_node : (b : Base) (o : Bool) → is_false b o ≡ false → at_node b o None ≡ None
lost_node base.Bool false h = absurd (cc)
lost_node base.Bool true h = refl
lost_node b o h = refl

pub lost_held : (r : Reading) (old new : Run) (b : Base) (o : Bool) (s : Symbol) → is_false b o ≡ false → IsLost r old new s → held r.mode (at_node b o None) ≡ symbol_seen r s
lost_held r old new b o s h w = ap (held r.mode) (lost_node b o h ∙ sym w.undefined)
