-- Pieces with a comma before each, and with commas between them.
use Rattle.std.proofs.Common.{◌≡◌, ℕ, suc, ◌+◌, ◌<◌, List, [], ◌∷◌, ◌++◌, length, ◌-◌, ◌≤◌, get_or, take, drop, map, Result, OnOk, flat_map, refl, sym, ap, ◌∙◌, append_assoc, arith}
use Rattle.std.proofs.lemmas.List.{append-nil, take_rest}
use Rattle.std.proofs.lemmas.List.Concat.{flat_map-append}
use Rattle.std.proofs.lemmas.Int.{ints}
use Rattle.std.specs.Prelude.{ℤ, pos, nat_abs, ◌+ℤ◌, ◌-ℤ◌, ◌<ℤ◌, ◌≤ℤ◌}
use Rattle.std.specs.Fmt.{signed_decimal}
use Rattle.std.specs.List.{join_with_byte}
use Rattle.mz_value.specs.Ranges.{Range}
use Rattle.fz_program.specs.declared.program.Arg.{Arg}
use Rattle.fz_program.specs.Arguments.{Plain, plain, plains}
use Rattle.fz_text.specs.Spelling.{commas, elements, numbers, numbers_from}
use Rattle.fz_text.proofs.Appends.{pieces_more, joined_on_ok, same_on_ok}

-- each piece with a comma before it
abbrev pub each_after_comma : {X : Type 0} → (X → List ℕ) → List X → List ℕ
each_after_comma f xs = flat_map (λ x. 44 ∷ f x) xs

-- the first piece has no comma before it
pub join_is : {X : Type 0} (f : X → List ℕ) (x : X) (xs : List X) → join_with_byte 44 (map f (x ∷ xs)) ≡ f x ++ each_after_comma f xs
join_is f x [] = sym (append-nil (f x))
join_is f x (y ∷ ys) = ap (λ t. f x ++ 44 ∷ t) (join_is f y ys)

-- a comma stands between two lists of numbers
pub numbers-append : (x : ℤ) (xs : List ℤ) (y : ℤ) (ys : List ℤ) → numbers ((x ∷ xs) ++ (y ∷ ys)) ≡ numbers (x ∷ xs) ++ 44 ∷ numbers (y ∷ ys)
numbers-append x xs y ys =
    let f : ℤ → List ℕ = signed_decimal in
    let whole = join_is f x (xs ++ (y ∷ ys)) in
    let parts = ap (λ t. f x ++ t) (flat_map-append (λ n. 44 ∷ f n) xs (y ∷ ys)) in
    let grouped = sym (append_assoc (f x) (each_after_comma f xs) (each_after_comma f (y ∷ ys))) in
    let left = ap (λ t. t ++ each_after_comma f (y ∷ ys)) (sym (join_is f x xs)) in
    let right = ap (λ t. numbers (x ∷ xs) ++ 44 ∷ t) (sym (join_is f y ys)) in
    whole ∙ parts ∙ grouped ∙ left ∙ right

-- one range more
pub numbers_more : (first : Range) (rest : List Range) (i : ℕ) (d : Range) → i < length rest → numbers (flat_map elements (first ∷ take (i + 1) rest)) ≡ numbers (flat_map elements (first ∷ take i rest)) ++ 44 ∷ numbers (elements (get_or rest i d))
unfolding elements
numbers_more first rest i d h =
    let r = get_or rest i d in
    let prefix = numbers_from (first.0 +ℤ pos 1) (nat_abs (first.1 -ℤ first.0)) in
    let more = ap (λ t. numbers (elements first ++ t)) (pieces_more elements rest i d h) in
    let grouped = ap numbers (sym (append_assoc (elements first) (flat_map elements (take i rest)) (elements r))) in
    more ∙ grouped ∙ numbers-append first.0 (prefix ++ flat_map elements (take i rest)) r.0 (numbers_from (r.0 +ℤ pos 1) (nat_abs (r.1 -ℤ r.0)))

abbrev pub after : ℤ → ℤ → List ℕ
after n hi = each_after_comma signed_decimal (numbers_from (n +ℤ pos 1) (nat_abs (hi -ℤ n)))

-- the numbers above n begin with m, the next one
pub after_more : (n m hi : ℤ) → n <ℤ hi → m ≡ n +ℤ pos 1 → after n hi ≡ 44 ∷ signed_decimal m ++ after m hi
after_more n m hi below next =
    let count : nat_abs (hi -ℤ n) ≡ suc (nat_abs (hi -ℤ m)) = grind (arith, ints) in
    rw (count, next) refl

pub after_all : (n hi : ℤ) → n ≤ℤ hi → hi ≤ℤ n → after n hi ≡ []
after_all n hi low high = let none : nat_abs (hi -ℤ n) ≡ 0 = grind (arith, ints) in rw none refl

-- one number more
pub number_more : (n m hi : ℤ) (old new all : List ℕ) → n <ℤ hi → m ≡ n +ℤ pos 1 → new ≡ old ++ 44 ∷ signed_decimal m → old ++ after n hi ≡ all → new ++ after m hi ≡ all
number_more n m hi old new all below next step before =
    ap (λ t. t ++ after m hi) step ∙ append_assoc old (44 ∷ signed_decimal m) (after m hi) ∙ ap (λ t. old ++ t) (sym (after_more n m hi below next)) ∙ before

-- all numbers of a range
pub numbers_all : (n : ℤ) (r : Range) (old mid new : List ℕ) → n ≤ℤ r.1 → r.1 ≤ℤ n → mid ≡ old ++ signed_decimal r.0 → new ++ after n r.1 ≡ mid ++ after r.0 r.1 → new ≡ old ++ numbers (elements r)
unfolding elements
numbers_all n r old mid new low high first before =
    let none = ap (λ t. new ++ t) (after_all n r.1 low high) ∙ append-nil new in
    let text = join_is signed_decimal r.0 (numbers_from (r.0 +ℤ pos 1) (nat_abs (r.1 -ℤ r.0))) in
    sym none ∙ before ∙ ap (λ t. t ++ after r.0 r.1) first ∙ append_assoc old (signed_decimal r.0) (after r.0 r.1) ∙ ap (λ t. old ++ t) (sym text)

-- ---- lists with commas, by their first element

-- texts after commas
pub after_first : {X : Type 0} (f : X → List ℕ) (xs : List X) → flat_map (λ u. 44 ∷ u) (map f xs) ≡ each_after_comma f xs
after_first f [] = refl
after_first f (x ∷ xs) = ap (λ t. 44 ∷ f x ++ t) (after_first f xs)

pub commas_are : {X : Type 0} (f : X → List ℕ) (xs : List X) (d : X) → 1 ≤ length xs → f (get_or xs 0 d) ++ each_after_comma f (take (length xs - 1) (drop 1 xs)) ≡ commas (map f xs)
unfolding commas
commas_are f [] d h = absurd (omega arith)
commas_are f (x ∷ xs) d h = rw (take_rest (x ∷ xs) 1) (ap (λ t. f x ++ t) (sym (after_first f xs)))

-- the first element's text, and then the others
pub listed : {X T E : Type 0} (r : Result T E) (f : X → List ℕ) (xs : List X) (d : X) (old mid new whole : List ℕ) → 1 ≤ length xs → commas (map f xs) ≡ whole → mid ≡ old ++ f (get_or xs 0 d) → OnOk r (new ≡ mid ++ each_after_comma f (take (length xs - 1) (drop 1 xs))) → OnOk r (new ≡ old ++ whole)
listed r f xs d old mid new whole some is first last =
    same_on_ok r old _ whole new (commas_are f xs d some ∙ is) (joined_on_ok r old (f (get_or xs 0 d)) _ mid new first last)

pub map_map : {X Y Z : Type 0} (f : Y → Z) (g : X → Y) (xs : List X) → map (λ x. f (g x)) xs ≡ map f (map g xs)
map_map f g [] = refl
map_map f g (x ∷ xs) = ap (λ ys. f (g x) ∷ ys) (map_map f g xs)

pub plains_map : (f : Plain → List ℕ) (xs : List Arg) → map (λ x. f (plain x)) xs ≡ map f (plains xs)
plains_map f [] = refl
plains_map f (x ∷ xs) = ap (λ ys. f (plain x) ∷ ys) (plains_map f xs)
