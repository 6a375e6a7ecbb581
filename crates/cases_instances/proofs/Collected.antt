-- Lists that are made piece by piece.
use Rattle.std.proofs.Common.{◌≡◌, ℕ, ◌≤◌, List, [], ◌∷◌, ◌++◌, length, map, drop, refl, sym, ap, ◌∙◌, append-nil}
use Rattle.std.specs.List.{flat_map}
use Rattle.std.proofs.lemmas.List.{drop_all}

pub mapped_pieces : {A B C : Type 0} (f : B → List C) (g : A → B) (xs : List A) → flat_map f (map g xs) ≡ flat_map (λ x. f (g x)) xs
mapped_pieces f g [] = refl
mapped_pieces f g (x ∷ xs) = ap (λ ys. f (g x) ++ ys) (mapped_pieces f g xs)

-- nothing is left
pub pieces_end : {A C : Type 0} (f : A → List C) (xs : List A) (i : ℕ) (now : List C) → length xs ≤ i → now ++ flat_map f (drop i xs) ≡ now
pieces_end f xs i now le = ap (λ ys. now ++ flat_map f ys) (drop_all i xs le) ∙ append-nil now

-- what was there, and the pieces of all
pub pieces_made : {A B C : Type 0} (f : B → List C) (g : A → B) (xs : List A) (i : ℕ) (old now : List C) → length xs ≤ i → old ++ flat_map (λ x. f (g x)) xs ≡ now ++ flat_map (λ x. f (g x)) (drop i xs) → now ≡ old ++ flat_map f (map g xs)
pieces_made f g xs i old now le h = sym (pieces_end (λ x. f (g x)) xs i now le) ∙ sym h ∙ ap (λ ys. old ++ ys) (sym (mapped_pieces f g xs))
