-- The integers of a range, one after another.
use Rattle.std.proofs.Common.{◌≡◌, ℕ, suc, ◌+◌, ◌<◌, length, get_or, drop, List, [], ◌∷◌, ◌++◌, map, refl, sym, ap, ◌∙◌, arith}
use Rattle.std.proofs.lemmas.Int.{ints}
use Rattle.std.proofs.lemmas.List.{append_assoc, append-nil, map-append, at_drop_more, get_or_default}
use Rattle.std.specs.Prelude.{ℤ, pos, ◌+ℤ◌, ◌-ℤ◌, ◌≤ℤ◌, ◌<ℤ◌, nat_abs}
use Rattle.mz_value.specs.Ranges.{Range}
use Rattle.mz_value.specs.Shown.{numbers_from, range_elements, elements}

-- the integers above n, up to hi
unfoldable pub above : ℤ → ℤ → List ℤ
above n hi = numbers_from (n +ℤ pos 1) (nat_abs (hi -ℤ n))

range_is : (r : Range) → range_elements r ≡ r.0 ∷ above r.0 r.1
unfolding range_elements above
range_is r = refl

above_is : (n m hi : ℤ) → n <ℤ hi → m ≡ n +ℤ pos 1 → above n hi ≡ m ∷ above m hi
unfolding above
above_is n m hi l e =
    let count : nat_abs (hi -ℤ n) ≡ suc (nat_abs (hi -ℤ m)) = omega (arith, ints) in
    ap (numbers_from (n +ℤ pos 1)) count ∙ ap (λ k. k ∷ numbers_from (k +ℤ pos 1) (nat_abs (hi -ℤ m))) (sym e)

above_none : (n hi : ℤ) → n ≤ℤ hi → hi ≤ℤ n → above n hi ≡ []
unfolding above
above_none n hi l g =
    let count : nat_abs (hi -ℤ n) ≡ 0 = omega (arith, ints) in
    ap (numbers_from (n +ℤ pos 1)) count

pub first_one : {X : Type 0} (f : ℤ → X) (r : Range) (old new : List X) → new ≡ old ++ f r.0 ∷ [] → new ++ map f (above r.0 r.1) ≡ old ++ map f (range_elements r)
first_one f r old new e =
    ap (λ t. t ++ map f (above r.0 r.1)) e ∙ append_assoc old (f r.0 ∷ []) (map f (above r.0 r.1)) ∙ sym (ap (λ t. old ++ map f t) (range_is r))

pub one_more : {X : Type 0} (f : ℤ → X) (n m hi : ℤ) (old new whole : List X) → n <ℤ hi → m ≡ n +ℤ pos 1 → new ≡ old ++ f m ∷ [] → old ++ map f (above n hi) ≡ whole → new ++ map f (above m hi) ≡ whole
one_more f n m hi old new whole l e p w =
    ap (λ t. t ++ map f (above m hi)) p ∙ append_assoc old (f m ∷ []) (map f (above m hi)) ∙ sym (ap (λ t. old ++ map f t) (above_is n m hi l e)) ∙ w

pub all_made : {X : Type 0} (f : ℤ → X) (n hi : ℤ) (all whole : List X) → n ≤ℤ hi → hi ≤ℤ n → all ++ map f (above n hi) ≡ whole → all ≡ whole
all_made f n hi all whole l g w = sym (append-nil all) ∙ sym (ap (λ t. all ++ map f t) (above_none n hi l g)) ∙ w

-- ---- range after range

abbrev made_of : {X : Type 0} → (ℤ → X) → List Range → List X
made_of f rs = map f (elements rs)

made_more : {X : Type 0} (f : ℤ → X) (r : Range) (rs : List Range) → made_of f (r ∷ rs) ≡ map f (range_elements r) ++ made_of f rs
made_more f r rs = map-append f (range_elements r) (elements rs)

ranges_step : {X : Type 0} (f : ℤ → X) (rs : List Range) (i : ℕ) (r : Range) (old new whole : List X) → i < length rs → r ≡ get_or rs i r → new ≡ old ++ map f (range_elements r) → whole ≡ old ++ map f (elements (drop i rs)) → whole ≡ new ++ map f (elements (drop (i + 1) rs))
ranges_step f rs i r old new whole l e n w =
    let rest = made_of f (drop (i + 1) rs) in
    let cut : made_of f (drop i rs) ≡ map f (range_elements r) ++ rest = at_drop_more (made_of f) rs i r l ∙ ap (λ y. made_of f (y ∷ drop (i + 1) rs)) (sym e) ∙ made_more f r (drop (i + 1) rs) in
    w ∙ ap (λ t. old ++ t) cut ∙ sym (append_assoc old (map f (range_elements r)) rest) ∙ ap (λ t. t ++ rest) (sym n)

pub ranges_at : {X : Type 0} (f : ℤ → X) (rs : List Range) (i : ℕ) (d : Range) (old new whole : List X) → i < length rs → new ≡ old ++ map f (range_elements (get_or rs i d)) → whole ≡ old ++ map f (elements (drop i rs)) → whole ≡ new ++ map f (elements (drop (i + 1) rs))
ranges_at f rs i d old new whole l n w = ranges_step f rs i (get_or rs i d) old new whole l (get_or_default rs i d (get_or rs i d) l) n w
