-- What holds of each element of a list.
use Rattle.std.proofs.Common.{◌≡◌, ℕ, zero, suc, ◌+◌, ◌<◌, ◌≤◌, List, [], ◌∷◌, ◌++◌, length, get_or, take, map, sym, subst, arith}
use Rattle.std.proofs.lemmas.List.{take_more, take_all}
use Rattle.std.specs.List.{AllByRecursion}

pub each_at : {X : Type 0} (P : X → Type 0) (xs : List X) (i : ℕ) (d : X) → i < length xs → AllByRecursion P xs → P (get_or xs i d)
each_at P [] i d h a = absurd (omega arith)
each_at P (x ∷ xs) zero d h a = a.0
each_at P (x ∷ xs) (suc i) d h a = each_at P xs i d (omega arith) a.1

pub each_push : {X : Type 0} (P : X → Type 0) (xs : List X) (x : X) → AllByRecursion P xs → P x → AllByRecursion P (xs ++ x ∷ [])
each_push P [] y a h = (h, tt)
each_push P (x ∷ xs) y a h = (a.0, each_push P xs y a.1 h)

-- one element more
pub each_more : {X : Type 0} (P : X → Type 0) (xs : List X) (i : ℕ) (d : X) → i < length xs → AllByRecursion P (take i xs) → P (get_or xs i d) → AllByRecursion P (take (i + 1) xs)
each_more P xs i d h a p = subst (AllByRecursion P) (sym (take_more xs i d h)) (each_push P (take i xs) (get_or xs i d) a p)

pub each_all : {X : Type 0} (P : X → Type 0) (xs : List X) (i : ℕ) → length xs ≤ i → AllByRecursion P (take i xs) → AllByRecursion P xs
each_all P xs i h a = subst (AllByRecursion P) (take_all i xs h) a

-- between a list and what each element shows
pub each_to_map : {X Y : Type 0} (P : Y → Type 0) (f : X → Y) (xs : List X) → AllByRecursion (λ x. P (f x)) xs → AllByRecursion P (map f xs)
each_to_map P f [] a = tt
each_to_map P f (x ∷ xs) a = (a.0, each_to_map P f xs a.1)

pub each_from_map : {X Y : Type 0} (P : Y → Type 0) (f : X → Y) (xs : List X) → AllByRecursion P (map f xs) → AllByRecursion (λ x. P (f x)) xs
each_from_map P f [] a = tt
each_from_map P f (x ∷ xs) a = (a.0, each_from_map P f xs a.1)

-- a loop that has come to the element x at i
pub loop_more : {X : Type 0} (P : X → Type 0) (xs : List X) (i : ℕ) (x : X) → i < length xs → x ≡ get_or xs i x → AllByRecursion P (take i xs) → P x → AllByRecursion P (take (i + 1) xs)
loop_more P xs i x h is a p = each_more P xs i x h a (subst P is p)

pub loop_fails : {X : Type 0} (P : X → Type 0) (xs : List X) (i : ℕ) (x : X) → i < length xs → x ≡ get_or xs i x → (P x → ⊥) → AllByRecursion P xs → ⊥
loop_fails P xs i x h is n a = n (subst P (sym is) (each_at P xs i x h a))
