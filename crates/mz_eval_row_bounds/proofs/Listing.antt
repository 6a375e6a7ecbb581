-- Bounds that are all of one kind, taken one after the other.
use Rattle.std.proofs.Common.{◌≡◌, ℕ, ◌+◌, ◌<◌, ◌≤◌, List, map, length, get_or, drop, refl, sym, ap, ◌∙◌, append_assoc}
use Rattle.std.proofs.lemmas.List.{at_drop_more, at_drop_all, append-nil, length-map}
use Rattle.std.specs.Prelude.{Option, Some, None, [], ◌∷◌, ◌++◌}
use Rattle.std.specs.Option.{option_map}
use Rattle.mz_value.specs.Ranges.{Range}
use Rattle.mz_operations.specs.Sets.{union, intersection}
use Rattle.mz_operations.specs.Bounds.{Bound, union_from, intersection_from, intersection_of_all}
use Rattle.mz_operations.specs.RowBounds.{each, as_upper}
use Rattle.mz_operations.specs.Views.{◌>>=◌}

each_none : {A : Type 0} (see : Bound → Option A) → each see [] ≡ Some []
unfolding each
each_none see = refl

each_more : {A : Type 0} (see : Bound → Option A) (b : Bound) (bs : List Bound) → each see (b ∷ bs) ≡ (see b >>= λ a. each see bs >>= λ rest. Some (a ∷ rest))
unfolding each
each_more see b bs = refl

-- what is taken so far, before what the rest gives
abbrev pub after : {A : Type 0} → List A → Option (List A) → Option (List A)
after front rest = option_map (λ xs. front ++ xs) rest

-- over any type of the code that stands for bounds
abbrev rest : {A X : Type 0} → (Bound → Option A) → (X → Bound) → List X → Option (List A)
rest see view xs = each see (map view xs)

turn : {A X : Type 0} (see : Bound → Option A) (view : X → Bound) (xs : List X) (i : ℕ) (x : X) → i < length xs → x ≡ get_or xs i x → rest see view (drop i xs) ≡ (see (view x) >>= λ a. rest see view (drop (i + 1) xs) >>= λ ys. Some (a ∷ ys))
turn see view xs i x l e =
    at_drop_more (rest see view) xs i x l ∙ ap (λ y. rest see view (y ∷ drop (i + 1) xs)) (sym e) ∙ each_more see (view x) (map view (drop (i + 1) xs))

pub each_begins : {A : Type 0} (o : Option (List A)) → after [] o ≡ o
each_begins None = refl
each_begins (Some xs) = refl

pub each_stops : {A X : Type 0} (see : Bound → Option A) (view : X → Bound) (xs : List X) (i : ℕ) (x : X) (front : List A) (whole q : Option (List A)) → i < length xs → x ≡ get_or xs i x → see (view x) ≡ None → q ≡ None → after front (rest see view (drop i xs)) ≡ whole → q ≡ whole
each_stops see view xs i x front whole q l e s n w =
    let b : (see (view x) >>= λ a. rest see view (drop (i + 1) xs) >>= λ ys. Some (a ∷ ys)) ≡ None = rw s refl in
    n ∙ sym (ap (after front) (turn see view xs i x l e ∙ b)) ∙ w

one_front : {A : Type 0} (front : List A) (a : A) (o : Option (List A)) → after (front ++ a ∷ []) o ≡ after front (o >>= λ ys. Some (a ∷ ys))
one_front front a None = refl
one_front front a (Some ys) = ap Some (append_assoc front (a ∷ []) ys)

pub each_goes : {A X : Type 0} (see : Bound → Option A) (view : X → Bound) (xs : List X) (i : ℕ) (x : X) (front next : List A) (whole : Option (List A)) (a : A) → i < length xs → x ≡ get_or xs i x → see (view x) ≡ Some a → next ≡ front ++ a ∷ [] → after front (rest see view (drop i xs)) ≡ whole → after next (rest see view (drop (i + 1) xs)) ≡ whole
each_goes see view xs i x front next whole a l e s n w =
    let b : (see (view x) >>= λ c. rest see view (drop (i + 1) xs) >>= λ ys. Some (c ∷ ys)) ≡ (rest see view (drop (i + 1) xs) >>= λ ys. Some (a ∷ ys)) = rw s refl in
    ap (λ f. after f (rest see view (drop (i + 1) xs))) n ∙ one_front front a (rest see view (drop (i + 1) xs)) ∙ sym (ap (after front) (turn see view xs i x l e ∙ b)) ∙ w

pub each_ends : {A X : Type 0} (see : Bound → Option A) (view : X → Bound) (xs : List X) (i : ℕ) (front : List A) (whole : Option (List A)) → length xs ≤ i → after front (rest see view (drop i xs)) ≡ whole → Some front ≡ whole
each_ends see view xs i front whole l w =
    let none : rest see view (drop i xs) ≡ Some [] = at_drop_all (rest see view) xs i l ∙ each_none see in
    sym (ap (after front) none ∙ ap Some (append-nil front)) ∙ w

-- ---- folded as they are taken

-- a fold over all that are of the kind, from a start on
abbrev pub folded : {A B X : Type 0} → (Bound → Option A) → (X → Bound) → (B → List A → B) → B → List X → Option B
folded see view fold acc xs = option_map (fold acc) (rest see view xs)

folded_some : {A B : Type 0} (fold : B → List A → B) (acc : B) (a : A) (o : Option (List A)) (next : B) → ((ys : List A) → fold acc (a ∷ ys) ≡ fold next ys) → option_map (fold acc) (o >>= λ ys. Some (a ∷ ys)) ≡ option_map (fold next) o
folded_some fold acc a None next one = refl
folded_some fold acc a (Some ys) next one = ap Some (one ys)

pub fold_stops : {A B X : Type 0} (see : Bound → Option A) (view : X → Bound) (fold : B → List A → B) (acc : B) (xs : List X) (i : ℕ) (x : X) (whole q : Option B) → i < length xs → x ≡ get_or xs i x → see (view x) ≡ None → q ≡ None → folded see view fold acc (drop i xs) ≡ whole → q ≡ whole
fold_stops see view fold acc xs i x whole q l e s n w =
    let b : (see (view x) >>= λ a. rest see view (drop (i + 1) xs) >>= λ ys. Some (a ∷ ys)) ≡ None = rw s refl in
    n ∙ sym (ap (option_map (fold acc)) (turn see view xs i x l e ∙ b)) ∙ w

pub fold_goes : {A B X : Type 0} (see : Bound → Option A) (view : X → Bound) (fold : B → List A → B) (acc next : B) (xs : List X) (i : ℕ) (x : X) (whole : Option B) (a : A) → ((ys : List A) → fold acc (a ∷ ys) ≡ fold next ys) → i < length xs → x ≡ get_or xs i x → see (view x) ≡ Some a → folded see view fold acc (drop i xs) ≡ whole → folded see view fold next (drop (i + 1) xs) ≡ whole
fold_goes see view fold acc next xs i x whole a one l e s w =
    let b : (see (view x) >>= λ c. rest see view (drop (i + 1) xs) >>= λ ys. Some (c ∷ ys)) ≡ (rest see view (drop (i + 1) xs) >>= λ ys. Some (a ∷ ys)) = rw s refl in
    sym (folded_some fold acc a (rest see view (drop (i + 1) xs)) next one) ∙ sym (ap (option_map (fold acc)) (turn see view xs i x l e ∙ b)) ∙ w

pub fold_ends : {A B X : Type 0} (see : Bound → Option A) (view : X → Bound) (fold : B → List A → B) (acc : B) (xs : List X) (i : ℕ) (whole : Option B) → fold acc [] ≡ acc → length xs ≤ i → folded see view fold acc (drop i xs) ≡ whole → Some acc ≡ whole
fold_ends see view fold acc xs i whole none l w =
    let end : rest see view (drop i xs) ≡ Some [] = at_drop_all (rest see view) xs i l ∙ each_none see in
    sym (ap (option_map (fold acc)) end ∙ ap Some none) ∙ w

-- ---- how many there are

pub as_many : {X : Type 0} (view : X → Bound) (xs : List X) → length (map view xs) ≡ length xs
as_many view xs = length-map xs view

-- ---- unions and intersections

pub none_united : (acc : List Range) → union_from acc [] ≡ acc
unfolding union_from
none_united acc = refl

pub one_united : (acc u next : List Range) → next ≡ union acc u → (us : List (List Range)) → union_from acc (u ∷ us) ≡ union_from next us
unfolding union_from
one_united acc u next e us = ap (λ a. union_from a us) (sym e)

pub none_intersected : (acc : List Range) → intersection_from acc [] ≡ acc
unfolding intersection_from
none_intersected acc = refl

pub one_intersected : (acc u next : List Range) → next ≡ intersection acc u → (us : List (List Range)) → intersection_from acc (u ∷ us) ≡ intersection_from next us
unfolding intersection_from
one_intersected acc u next e us = ap (λ a. intersection_from a us) (sym e)

by_first : (o : Option (List (List Range))) (p : Option (List Range)) (u : List Range) → p ≡ Some u → option_map intersection_of_all (p >>= λ a. o >>= λ ys. Some (a ∷ ys)) ≡ option_map (intersection_from u) o
by_first None p u e = rw e refl
by_first (Some us) p u e = rw e refl

-- the first, and then the others
pub first_intersected : {X : Type 0} (view : X → Bound) (x : X) (xs : List X) (u : List Range) → as_upper (view x) ≡ Some u → option_map intersection_of_all (each as_upper (map view (x ∷ xs))) ≡ option_map (intersection_from u) (each as_upper (map view xs))
first_intersected view x xs u e = ap (option_map intersection_of_all) (each_more as_upper (view x) (map view xs)) ∙ by_first (each as_upper (map view xs)) (as_upper (view x)) u e

pub none_first : {X : Type 0} (view : X → Bound) (x : X) (xs : List X) → as_upper (view x) ≡ None → option_map intersection_of_all (each as_upper (map view (x ∷ xs))) ≡ None
none_first view x xs e = ap (option_map intersection_of_all) (each_more as_upper (view x) (map view xs) ∙ ap (λ o. o >>= λ a. each as_upper (map view xs) >>= λ ys. Some (a ∷ ys)) e)
