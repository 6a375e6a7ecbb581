-- What is computed of the nodes, where a node is added and where it is looked up.
use Rattle.std.proofs.Common.{◌≡◌, ℕ, zero, suc, ◌+◌, ◌<◌, ◌≤◌, List, [], ◌∷◌, ◌++◌, length, map, Option, Some, None, slice_get, refl, sym, ap, subst, ◌∙◌, arith, length-append}
use Rattle.std.specs.Option.{option_flatten}
use Rattle.mz_arena.specs.Entries.{Entry, children, AllBelow, at, Step, folded}

-- ---- places of lists

pub get-append : {A : Type 0} (xs ys : List A) (i : ℕ) → i < length xs → slice_get (xs ++ ys) i ≡ slice_get xs i
get-append [] ys i h = absurd (omega arith)
get-append (x ∷ xs) ys zero h = refl
get-append (x ∷ xs) ys (suc i) h = get-append xs ys i (omega arith)

pub get-last : {A : Type 0} (xs : List A) (x : A) → slice_get (xs ++ x ∷ []) (length xs) ≡ Some x
get-last [] x = refl
get-last (y ∷ xs) x = get-last xs x

pub get-below : {A : Type 0} (xs : List A) (i : ℕ) (x : A) → slice_get xs i ≡ Some x → i < length xs
get-below [] i x h = cc
get-below (y ∷ xs) zero x h = omega arith
get-below (y ∷ xs) (suc i) x h = let l = get-below xs i x h in omega arith

pub get-past : {A : Type 0} (xs : List A) (i : ℕ) → length xs ≤ i → slice_get xs i ≡ None
get-past [] i h = refl
get-past (x ∷ xs) zero h = absurd (omega arith)
get-past (x ∷ xs) (suc i) h = get-past xs i (omega arith)

pub get-length : {A : Type 0} (xs : List A) (i : ℕ) → slice_get xs i ≡ None → length xs ≤ i
get-length [] i h = omega arith
get-length (x ∷ xs) zero h = cc
get-length (x ∷ xs) (suc i) h = let l = get-length xs i h in omega arith

pub at-append : {A : Type 0} (xs ys : List (Option A)) (i : ℕ) → i < length xs → at (xs ++ ys) i ≡ at xs i
at-append xs ys i h = ap option_flatten (get-append xs ys i h)

pub at-last : {A : Type 0} (xs : List (Option A)) (x : Option A) → at (xs ++ x ∷ []) (length xs) ≡ x
at-last xs x = ap option_flatten (get-last xs x)

-- lists that agree below a number agree at places below it
pub map-at : {A : Type 0} (xs ys : List (Option A)) (n : ℕ) (is : List ℕ) → AllBelow n is → ((i : ℕ) → i < n → at xs i ≡ at ys i) → map (at xs) is ≡ map (at ys) is
map-at xs ys n [] below same = refl
map-at xs ys n (i ∷ is) below same = let head = same i below.0 in let tail = map-at xs ys n is below.1 same in cc

-- ---- the fold

pub length-folded : {A : Type 0} (step : Step A) (xs : List (Option A)) (es : List Entry) → length (folded step xs es) ≡ length xs + length es
unfolding folded
length-folded step xs [] = omega arith
length-folded step xs (e ∷ es) =
    let x = step e (map (at xs) (children e.node)) in
    omega (arith, length-folded step (xs ++ x ∷ []) es, length-append xs (x ∷ []))

pub folded-append : {A : Type 0} (step : Step A) (xs : List (Option A)) (es fs : List Entry) → folded step xs (es ++ fs) ≡ folded step (folded step xs es) fs
unfolding folded
folded-append step xs [] fs = refl
folded-append step xs (e ∷ es) fs = folded-append step (xs ++ step e (map (at xs) (children e.node)) ∷ []) es fs

-- what there is already stays
pub keep : {A : Type 0} (step : Step A) (xs : List (Option A)) (es : List Entry) (i : ℕ) → i < length xs → at (folded step xs es) i ≡ at xs i
unfolding folded
keep step xs [] i h = refl
keep step xs (e ∷ es) i h =
    let x = step e (map (at xs) (children e.node)) in
    keep step (xs ++ x ∷ []) es i (omega (arith, length-append xs (x ∷ []))) ∙ at-append xs (x ∷ []) i h

unrolled : {A : Type 0} (step : Step A) (xs : List (Option A)) (es : List Entry) (id : ℕ) (e : Entry) → slice_get es id ≡ Some e → AllBelow (length xs + id) (children e.node) → at (folded step xs es) (length xs + id) ≡ step e (map (at (folded step xs es)) (children e.node))
unfolding folded
unrolled step xs [] id e h below = cc
unrolled step xs (d ∷ es) zero e h below =
    let x = step d (map (at xs) (children d.node)) in
    let us = xs ++ x ∷ [] in
    let same : d ≡ e = cc in
    let place : length xs + 0 ≡ length xs = omega arith in
    let longer : length us ≡ length xs + 1 = length-append xs (x ∷ []) ∙ omega arith in
    let kept : (i : ℕ) → i < length xs + 0 → at xs i ≡ at (folded step us es) i = λ i l. sym (keep step us es i (omega arith) ∙ at-append xs (x ∷ []) i (omega arith)) in
    ap (at (folded step us es)) place ∙ keep step us es (length xs) (omega arith) ∙ at-last xs x ∙ ap (λ (f : Entry). step f (map (at xs) (children f.node))) same ∙ ap (step e) (map-at xs (folded step us es) (length xs + 0) (children e.node) below kept)
unrolled step xs (d ∷ es) (suc id) e h below =
    let x = step d (map (at xs) (children d.node)) in
    let us = xs ++ x ∷ [] in
    let place : length us + id ≡ length xs + suc id = omega (arith, length-append xs (x ∷ [])) in
    ap (at (folded step us es)) (sym place) ∙ unrolled step us es id e h (subst (λ j. AllBelow j (children e.node)) (sym place) below)

-- what there is of a node is its step over what there is of its children
pub unroll : {A : Type 0} (step : Step A) (es : List Entry) (id : ℕ) (e : Entry) → slice_get es id ≡ Some e → AllBelow id (children e.node) → at (folded step [] es) id ≡ step e (map (at (folded step [] es)) (children e.node))
unroll step es id e h below =
    let place : 0 + id ≡ id = omega arith in
    ap (at (folded step [] es)) (sym place) ∙ unrolled step [] es id e h (subst (λ j. AllBelow j (children e.node)) (sym place) below)

-- there is nothing past the last node
pub at-past : {A : Type 0} (step : Step A) (es : List Entry) (id : ℕ) → length es ≤ id → at (folded step [] es) id ≡ None
at-past step es id h = ap option_flatten (get-past (folded step [] es) id (omega (arith, length-folded step [] es)))
