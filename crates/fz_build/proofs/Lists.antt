-- Lists with one element more.
use Rattle.std.proofs.Common.{◌≡◌, ℕ, zero, suc, ◌<◌, List, [], ◌∷◌, ◌++◌, length, map, slice_get, slice_index_or, Bool, true, refl, ap, ◌∙◌, arith, Some}
use Rattle.std.specs.Prelude.{Result, Ok, Err, IfOk, OnOk}
use Rattle.std.specs.List.{AllByRecursion, list_all}
use Rattle.std.proofs.lemmas.Bool.{and_parts, and_from}

pub get_wider : {A : Type 0} (xs ys : List A) (k : ℕ) → k < length xs → slice_get (xs ++ ys) k ≡ slice_get xs k
get_wider [] ys k h = absurd (omega (arith, h))
get_wider (x ∷ xs) ys zero h = refl
get_wider (x ∷ xs) ys (suc k) h = get_wider xs ys k (omega (arith, h))

pub get_last : {A : Type 0} (xs : List A) (x : A) → slice_get (xs ++ x ∷ []) (length xs) ≡ Some x
get_last [] x = refl
get_last (y ∷ xs) x = get_last xs x

pub get_more : {A : Type 0} (xs ys : List A) (k : ℕ) (x : A) → slice_get xs k ≡ Some x → slice_get (xs ++ ys) k ≡ Some x
get_more [] ys k x h = absurd (cc)
get_more (y ∷ xs) ys zero x h = h
get_more (y ∷ xs) ys (suc k) x h = get_more xs ys k x h

pub at_wider : {A : Type 0} (xs ys : List A) (k : ℕ) (d : A) → k < length xs → slice_index_or (xs ++ ys) k d ≡ slice_index_or xs k d
at_wider [] ys k d h = absurd (omega (arith, h))
at_wider (x ∷ xs) ys zero d h = refl
at_wider (x ∷ xs) ys (suc k) d h = at_wider xs ys k d (omega (arith, h))

pub at_last : {A : Type 0} (xs : List A) (x d : A) → slice_index_or (xs ++ x ∷ []) (length xs) d ≡ x
at_last [] x d = refl
at_last (y ∷ xs) x d = at_last xs x d

pub each_push : {X : Type 0} (P : X → Type 0) (xs : List X) (x : X) → AllByRecursion P xs → P x → AllByRecursion P (xs ++ x ∷ [])
each_push P [] y a h = (h, tt)
each_push P (x ∷ xs) y a h = (a.0, each_push P xs y a.1 h)

pub each_before : {X : Type 0} (P : X → Type 0) (xs : List X) (x : X) → AllByRecursion P (xs ++ x ∷ []) → AllByRecursion P xs
each_before P [] y a = tt
each_before P (x ∷ xs) y a = (a.0, each_before P xs y a.1)

pub each_last : {X : Type 0} (P : X → Type 0) (xs : List X) (x : X) → AllByRecursion P (xs ++ x ∷ []) → P x
each_last P [] y a = a.0
each_last P (x ∷ xs) y a = each_last P xs y a.1

pub each_from : {X : Type 0} (P Q : X → Type 0) (xs : List X) → ((x : X) → P x → Q x) → AllByRecursion P xs → AllByRecursion Q xs
each_from P Q [] f a = tt
each_from P Q (x ∷ xs) f a = (f x a.0, each_from P Q xs f a.1)

pub all_from : {X : Type 0} (p q : X → Bool) (xs : List X) → ((x : X) → p x ≡ true → q x ≡ true) → list_all p xs ≡ true → list_all q xs ≡ true
all_from p q [] f h = refl
all_from p q (x ∷ xs) f h = let b = and_parts (p x) (list_all p xs) h in and_from (q x) (list_all q xs) (f x b.0) (all_from p q xs f b.1)

pub all_to_each : {X : Type 0} (p : X → Bool) (Q : X → Type 0) (xs : List X) → ((x : X) → p x ≡ true → Q x) → list_all p xs ≡ true → AllByRecursion Q xs
all_to_each p Q [] f h = tt
all_to_each p Q (x ∷ xs) f h = let b = and_parts (p x) (list_all p xs) h in (f x b.0, all_to_each p Q xs f b.1)

pub all_append : {X : Type 0} (p : X → Bool) (xs ys : List X) → list_all p xs ≡ true → list_all p ys ≡ true → list_all p (xs ++ ys) ≡ true
all_append p [] ys h k = k
all_append p (x ∷ xs) ys h k = let b = and_parts (p x) (list_all p xs) h in and_from (p x) (list_all p (xs ++ ys)) b.0 (all_append p xs ys b.1 k)

-- a list that equals another at each element of a kind
pub map_same : {X Y : Type 0} (f g : X → Y) (P : X → Type 0) (xs : List X) → ((x : X) → P x → f x ≡ g x) → AllByRecursion P xs → map f xs ≡ map g xs
map_same f g P [] e a = refl
map_same f g P (x ∷ xs) e a = ap (λ y. y ∷ map f xs) (e x a.0) ∙ ap (λ ys. g x ∷ ys) (map_same f g P xs e a.1)

pub if_ok_weaker : {X Y : Type 0} (r : Result X Y) (P Q : X → Type 0) → ((x : X) → P x → Q x) → IfOk r P → IfOk r Q
if_ok_weaker (Ok x) P Q f h = f x h
if_ok_weaker (Err e) P Q f h = tt

pub on_ok_weaker : {X Y : Type 0} (r : Result X Y) (P Q : Type 0) → (P → Q) → OnOk r P → OnOk r Q
on_ok_weaker (Ok x) P Q f h = f h
on_ok_weaker (Err e) P Q f h = tt
