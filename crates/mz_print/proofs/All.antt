-- What holds of each element of a list, taken one by one.
use Rattle.std.proofs.Common.{◌≡◌, ◌∙◌, ℕ, zero, suc, ◌+◌, ◌<◌, ◌≤◌, List, [], ◌∷◌, length, map, take, get_or, sym, subst, ap, arith}
use Rattle.std.specs.List.{AllByRecursion}

one_more : {X Y : Type 0} (f : X → Y) (P : Y → Type 0) (xs : List X) (k : ℕ) (x : X) → k < length xs → x ≡ get_or xs k x → AllByRecursion P (map f (take k xs)) → P (f x) → AllByRecursion P (map f (take (suc k) xs))
one_more f P [] k x l is all h = absurd (omega arith)
one_more {X} f P (y ∷ ys) zero x l is all h = let Q : X → Type 0 = λ z. P (f z) in (subst Q is h, tt)
one_more f P (y ∷ ys) (suc k) x l is all h = (all.0, one_more f P ys k x (omega arith) is all.1 h)

-- with one element more, in a view
pub all_seen_next : {X Y : Type 0} (f : X → Y) (P : Y → Type 0) (xs : List X) (k : ℕ) (x : X) → k < length xs → x ≡ get_or xs k x → AllByRecursion P (map f (take k xs)) → P (f x) → AllByRecursion P (map f (take (k + 1) xs))
all_seen_next f P xs k x l is all h =
    let n : suc k ≡ k + 1 = omega arith in
    subst (λ m. AllByRecursion P (map f (take m xs))) n (one_more f P xs k x l is all h)

pub all_seen_taken : {X Y : Type 0} (f : X → Y) (P : Y → Type 0) (xs : List X) (k : ℕ) → length xs ≤ k → AllByRecursion P (map f (take k xs)) → AllByRecursion P (map f xs)
all_seen_taken f P [] k l all = tt
all_seen_taken f P (x ∷ xs) zero l all = absurd (omega arith)
all_seen_taken f P (x ∷ xs) (suc k) l all = (all.0, all_seen_taken f P xs k (omega arith) all.1)

-- and as they are

one_more_plain : {X : Type 0} (P : X → Type 0) (xs : List X) (k : ℕ) (x : X) → k < length xs → x ≡ get_or xs k x → AllByRecursion P (take k xs) → P x → AllByRecursion P (take (suc k) xs)
one_more_plain P [] k x l is all h = absurd (omega arith)
one_more_plain P (y ∷ ys) zero x l is all h = (subst P is h, tt)
one_more_plain P (y ∷ ys) (suc k) x l is all h = (all.0, one_more_plain P ys k x (omega arith) is all.1 h)

pub all_next : {X : Type 0} (P : X → Type 0) (xs : List X) (k : ℕ) (x : X) → k < length xs → x ≡ get_or xs k x → AllByRecursion P (take k xs) → P x → AllByRecursion P (take (k + 1) xs)
all_next P xs k x l is all h =
    let n : suc k ≡ k + 1 = omega arith in
    subst (λ m. AllByRecursion P (take m xs)) n (one_more_plain P xs k x l is all h)

pub all_taken : {X : Type 0} (P : X → Type 0) (xs : List X) (k : ℕ) → length xs ≤ k → AllByRecursion P (take k xs) → AllByRecursion P xs
all_taken P [] k l all = tt
all_taken P (x ∷ xs) zero l all = absurd (omega arith)
all_taken P (x ∷ xs) (suc k) l all = (all.0, all_taken P xs k (omega arith) all.1)

-- one of them

pub all_at : {X : Type 0} (P : X → Type 0) (xs : List X) (k : ℕ) (x : X) → AllByRecursion P xs → k < length xs → x ≡ get_or xs k x → P x
all_at P [] k x all l is = absurd (omega arith)
all_at P (y ∷ ys) zero x all l is = subst P (sym is) all.0
all_at P (y ∷ ys) (suc k) x all l is = all_at P ys k x all.1 (omega arith) is

pub all_seen_at : {X Y : Type 0} (f : X → Y) (P : Y → Type 0) (xs : List X) (k : ℕ) (x : X) → AllByRecursion P (map f xs) → k < length xs → x ≡ get_or xs k x → P (f x)
all_seen_at f P [] k x all l is = absurd (omega arith)
all_seen_at {X} f P (y ∷ ys) zero x all l is = let Q : X → Type 0 = λ z. P (f z) in subst Q (sym is) all.0
all_seen_at f P (y ∷ ys) (suc k) x all l is = all_seen_at f P ys k x all.1 (omega arith) is
