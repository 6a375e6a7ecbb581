-- Lists of which those elements are kept that pass a test.
use Rattle.std.proofs.Common.{◌≡◌, Bool, true, false, ◌&&◌, List, [], ◌∷◌, ◌++◌, ◌⊎◌, inl, inr, refl, ap, ◌∙◌, map, filter, if◌then◌else◌}
use Rattle.std.specs.List.{flat_map}
use Rattle.std.proofs.lemmas.List.Elements.{filter-append, filter_agree}
use Rattle.mz_builtin.specs.Readings.{joined}

pub bool_case : (b : Bool) → (b ≡ true) ⊎ (b ≡ false)
bool_case true = inl refl
bool_case false = inr refl

pub filter_flat_map : {A B : Type 0} (p : B → Bool) (f : A → List B) (xs : List A) → filter p (flat_map f xs) ≡ flat_map (λ x. filter p (f x)) xs
filter_flat_map p f [] = refl
filter_flat_map p f (x ∷ xs) = filter-append p (f x) (flat_map f xs) ∙ ap (λ r. filter p (f x) ++ r) (filter_flat_map p f xs)

pub flat_map_agree : {A B : Type 0} (f g : A → List B) → ((x : A) → f x ≡ g x) → (xs : List A) → flat_map f xs ≡ flat_map g xs
flat_map_agree f g h [] = refl
flat_map_agree f g h (x ∷ xs) = rw (h x, flat_map_agree f g h xs) refl

pub filter_map_is : {A B : Type 0} (p : B → Bool) (f : A → B) (xs : List A) → filter p (map f xs) ≡ map f (filter (λ x. p (f x)) xs)
filter_map_is p f [] = refl
filter_map_is p f (x ∷ xs) = elim (bool_case (p (f x))) [
  | inl e ↦ rw (e, filter_map_is p f xs) refl
  | inr e ↦ rw (e, filter_map_is p f xs) refl
]

-- where elements that fail a test give nothing, they may be left out
pub flat_map_where : {A B : Type 0} (f g : A → List B) (q : A → Bool) → ((x : A) → f x ≡ (if q x then g x else [])) → (xs : List A) → flat_map f xs ≡ flat_map g (filter q xs)
flat_map_where f g q h [] = refl
flat_map_where f g q h (x ∷ xs) = elim (bool_case (q x)) [
  | inl e ↦ let a = rw e at (h x) in rw (e, a, flat_map_where f g q h xs) refl
  | inr e ↦ let a = rw e at (h x) in rw (e, a, flat_map_where f g q h xs) refl
]

filter_none : {A : Type 0} (p : A → Bool) → ((x : A) → p x ≡ false) → (xs : List A) → filter p xs ≡ []
filter_none p h [] = refl
filter_none p h (x ∷ xs) = rw (h x) (filter_none p h xs)

-- lists of which the head passes one test and the rest another
pub filter_joined : {A : Type 0} (p : List A → Bool) (q : A → Bool) (r : List A → Bool) → ((x : A) (tail : List A) → p (x ∷ tail) ≡ q x && r tail) → (xs : List A) (tails : List (List A)) → filter p (joined xs tails) ≡ joined (filter q xs) (filter r tails)
unfolding joined
filter_joined {A} p q r h xs tails =
    filter_flat_map p (λ x. map (λ tail. x ∷ tail) tails) xs ∙ flat_map_where (λ x. filter p (map (λ tail. x ∷ tail) tails)) (λ x. map (λ tail. x ∷ tail) (filter r tails)) q (λ x. one x) xs
  where
    one : (x : A) → filter p (map (λ tail. x ∷ tail) tails) ≡ (if q x then map (λ tail. x ∷ tail) (filter r tails) else [])
    one x = elim (bool_case (q x)) [
      | inl e ↦ rw e (filter_map_is p (λ tail. x ∷ tail) tails ∙ ap (map (λ tail. x ∷ tail)) (filter_agree (λ tail. p (x ∷ tail)) r (λ tail. rw e at (h x tail)) tails))
      | inr e ↦ rw e (filter_map_is p (λ tail. x ∷ tail) tails ∙ ap (map (λ tail. x ∷ tail)) (filter_none (λ tail. p (x ∷ tail)) (λ tail. rw e at (h x tail)) tails))
    ]

-- where no list that begins with an element passes, none of these does
pub filter_joined_none : {A : Type 0} (p : List A → Bool) → ((x : A) (tail : List A) → p (x ∷ tail) ≡ false) → (xs : List A) (tails : List (List A)) → filter p (joined xs tails) ≡ []
unfolding joined
filter_joined_none p h [] tails = refl
filter_joined_none p h (x ∷ xs) tails =
    filter-append p (map (λ tail. x ∷ tail) tails) (flat_map (λ y. map (λ tail. y ∷ tail) tails) xs)
    ∙ rw (filter_map_is p (λ tail. x ∷ tail) tails, filter_none (λ tail. p (x ∷ tail)) (h x) tails) (filter_joined_none p h xs tails)
