-- What several calls that append leave.
use Rattle.std.proofs.Common.{◌≡◌, ℕ, ◌+◌, ◌<◌, ◌≤◌, List, [], ◌∷◌, ◌++◌, codes, length, get_or, take, map, flat_map, Result, OnOk, sym, ap, ◌∙◌, append_assoc}
use Rattle.std.proofs.lemmas.List.{take_more, take_all, flat_map_more}
use Rattle.std.proofs.lemmas.List.Folds.{flat_map-map}
use Rattle.std.proofs.lemmas.Result.{on_ok_weaker}

-- one piece, and then another
pub joined : (old a b : List ℕ) {mid new : List ℕ} → mid ≡ old ++ a → new ≡ mid ++ b → new ≡ old ++ (a ++ b)
joined old a b first then = then ∙ ap (λ t. t ++ b) first ∙ append_assoc old a b

-- the same, where the last call's answer is returned
pub joined_on_ok : {T E : Type 0} (r : Result T E) (old a b mid new : List ℕ) → mid ≡ old ++ a → OnOk r (new ≡ mid ++ b) → OnOk r (new ≡ old ++ (a ++ b))
joined_on_ok r old a b mid new first last = on_ok_weaker r (λ then. joined old a b first then) last

-- the piece is another's text
pub same_on_ok : {T E : Type 0} (r : Result T E) (old a b new : List ℕ) → a ≡ b → OnOk r (new ≡ old ++ a) → OnOk r (new ≡ old ++ b)
same_on_ok r old a b new same last = on_ok_weaker r (λ e. e ∙ ap (λ t. old ++ t) same) last

-- a loop that appends a piece for each element
pub pieces_more : {X A : Type 0} (f : X → List A) (xs : List X) (i : ℕ) (d : X) → i < length xs → flat_map f (take (i + 1) xs) ≡ flat_map f (take i xs) ++ f (get_or xs i d)
pieces_more f xs i d h = ap (flat_map f) (take_more xs i d h) ∙ sym (flat_map_more f [] (take i xs) (get_or xs i d))

pub loop_joined : {X : Type 0} (f : X → List ℕ) (xs : List X) (i : ℕ) (x : X) (old : List ℕ) {mid new : List ℕ} → i < length xs → x ≡ get_or xs i x → mid ≡ old ++ flat_map f (take i xs) → new ≡ mid ++ f x → new ≡ old ++ flat_map f (take (i + 1) xs)
loop_joined f xs i x old below is before step =
    joined old (flat_map f (take i xs)) (f x) before step ∙ ap (λ t. old ++ (flat_map f (take i xs) ++ t)) (ap f is) ∙ ap (λ t. old ++ t) (sym (pieces_more f xs i x below))

-- the same, with a default for the element
pub loop_joined_at : {X : Type 0} (f : X → List ℕ) (xs : List X) (i : ℕ) (d : X) (old : List ℕ) {mid new : List ℕ} → i < length xs → mid ≡ old ++ flat_map f (take i xs) → new ≡ mid ++ f (get_or xs i d) → new ≡ old ++ flat_map f (take (i + 1) xs)
loop_joined_at f xs i d old below before step =
    joined old (flat_map f (take i xs)) (f (get_or xs i d)) before step ∙ ap (λ t. old ++ t) (sym (pieces_more f xs i d below))

-- the loop's end, where the pieces are those of what each element shows
pub pieces_all : {X Y : Type 0} (v : X → Y) (f : Y → List ℕ) (xs : List X) (i : ℕ) (old new : List ℕ) → length xs ≤ i → new ≡ old ++ flat_map (λ x. f (v x)) (take i xs) → new ≡ old ++ flat_map f (map v xs)
pieces_all v f xs i old new past before =
    before ∙ ap (λ ys. old ++ flat_map (λ x. f (v x)) ys) (take_all i xs past) ∙ ap (λ t. old ++ t) (sym (flat_map-map f v xs))

-- the loop's end
pub pieces_end : {X : Type 0} (f : X → List ℕ) (xs : List X) (i : ℕ) (old new : List ℕ) → length xs ≤ i → new ≡ old ++ flat_map f (take i xs) → new ≡ old ++ flat_map f xs
pieces_end f xs i old new past before = before ∙ ap (λ ys. old ++ flat_map f ys) (take_all i xs past)

-- a piece with a comma before it
pub comma_joined : (old a : List ℕ) {mid new : List ℕ} → mid ≡ old ++ codes "," → new ≡ mid ++ a → new ≡ old ++ 44 ∷ a
comma_joined old a first then = joined old (codes ",") a first then
