-- One turn of a fold over an array's elements, and its end.
use Rattle.std.proofs.Common.{◌≡◌, ℕ, ◌+◌, ◌<◌, ◌≤◌, List, map, length, get_or, drop, refl, sym, ap, ◌∙◌}
use Rattle.std.proofs.lemmas.List.{at_drop_more, at_drop_all}
use Rattle.std.specs.Prelude.{Option, Some, None, [], ◌∷◌}
use Rattle.mz_value.specs.declared.value.Value.{Value}
use Rattle.mz_value.specs.Contents.{Content, content}
use Rattle.mz_operations.specs.Views.{◌>>=◌}
use Rattle.mz_operations.specs.Arrays.{fold_from}

-- what the rest of the elements is folded to
abbrev rest : {A B : Type 0} → (Content → Option A) → (B → A → B) → B → List Value → Option B
rest see step acc xs = fold_from see step acc (map content xs)

one_more : {A B : Type 0} (see : Content → Option A) (step : B → A → B) (acc : B) (x : Value) (xs : List Value) → rest see step acc (x ∷ xs) ≡ (see (content x) >>= λ a. rest see step (step acc a) xs)
unfolding fold_from
one_more see step acc x xs = refl

pub turn : {A B : Type 0} (see : Content → Option A) (step : B → A → B) (acc : B) (xs : List Value) (i : ℕ) (x : Value) → i < length xs → x ≡ get_or xs i x → rest see step acc (drop i xs) ≡ (see (content x) >>= λ a. rest see step (step acc a) (drop (i + 1) xs))
turn see step acc xs i x l e =
    at_drop_more (rest see step acc) xs i x l ∙ ap (λ y. rest see step acc (y ∷ drop (i + 1) xs)) (sym e) ∙ one_more see step acc x (drop (i + 1) xs)

none_left : {A B : Type 0} (see : Content → Option A) (step : B → A → B) (acc : B) → rest see step acc [] ≡ Some acc
unfolding fold_from
none_left see step acc = refl

pub last : {A B : Type 0} (see : Content → Option A) (step : B → A → B) (acc : B) (xs : List Value) (i : ℕ) → length xs ≤ i → rest see step acc (drop i xs) ≡ Some acc
last see step acc xs i l = at_drop_all (rest see step acc) xs i l ∙ none_left see step acc

-- an element of another kind ends the fold with none
pub turn_stops : {A B : Type 0} (see : Content → Option A) (step : B → A → B) (acc : B) (xs : List Value) (i : ℕ) (x : Value) (whole q : Option B) → i < length xs → x ≡ get_or xs i x → see (content x) ≡ None → q ≡ None → rest see step acc (drop i xs) ≡ whole → q ≡ whole
turn_stops see step acc xs i x whole q l e s n w =
    let t = turn see step acc xs i x l e in
    let b : (see (content x) >>= λ a. rest see step (step acc a) (drop (i + 1) xs)) ≡ None = rw s refl in
    n ∙ sym b ∙ sym t ∙ w

pub turn_goes : {A B : Type 0} (see : Content → Option A) (step : B → A → B) (acc : B) (xs : List Value) (i : ℕ) (x : Value) (whole : Option B) (a : A) → i < length xs → x ≡ get_or xs i x → see (content x) ≡ Some a → rest see step acc (drop i xs) ≡ whole → rest see step (step acc a) (drop (i + 1) xs) ≡ whole
turn_goes see step acc xs i x whole a l e s w =
    let t = turn see step acc xs i x l e in
    let b : (see (content x) >>= λ a. rest see step (step acc a) (drop (i + 1) xs)) ≡ rest see step (step acc a) (drop (i + 1) xs) = rw s refl in
    sym b ∙ sym t ∙ w

-- the same with what the code's step gives
pub turn_made : {A B : Type 0} (see : Content → Option A) (step : B → A → B) (acc next : B) (xs : List Value) (i : ℕ) (x : Value) (whole : Option B) (a : A) → i < length xs → x ≡ get_or xs i x → see (content x) ≡ Some a → rest see step acc (drop i xs) ≡ whole → next ≡ step acc a → rest see step next (drop (i + 1) xs) ≡ whole
turn_made see step acc next xs i x whole a l e s w m = ap (λ b. rest see step b (drop (i + 1) xs)) m ∙ turn_goes see step acc xs i x whole a l e s w

-- the same where the element and the result are read back from their bits
pub turn_read : {A B : Type 0} (see : Content → Option A) (step : B → A → B) (acc next mid : B) (xs : List Value) (i : ℕ) (x : Value) (whole : Option B) (a b : A) → i < length xs → x ≡ get_or xs i x → see (content x) ≡ Some a → rest see step acc (drop i xs) ≡ whole → mid ≡ step acc b → b ≡ a → next ≡ mid → rest see step next (drop (i + 1) xs) ≡ whole
turn_read see step acc next mid xs i x whole a b l e s w m f r = turn_made see step acc next xs i x whole a l e s w (r ∙ m ∙ ap (step acc) f)

pub turn_ends : {A B : Type 0} (see : Content → Option A) (step : B → A → B) (acc : B) (xs : List Value) (i : ℕ) (whole : Option B) → length xs ≤ i → rest see step acc (drop i xs) ≡ whole → Some acc ≡ whole
turn_ends see step acc xs i whole l w = sym (last see step acc xs i l) ∙ w
