-- The next element of a generator, under a reading.
use Rattle.std.proofs.Common.{◌≡◌, ◌∙◌, ℕ, ℤ, ◌+◌, ◌<◌, ◌≤◌, List, [], ◌∷◌, drop, get_or, length, map, Option, Result, Ok, Err, IfOk, sym, ap}
use Rattle.std.proofs.lemmas.List.{at_drop_more, at_drop_all}
use Rattle.std.specs.List.{enumerate_from}
use Rattle.mz_value.specs.declared.value.Value.{Value}
use Rattle.mz_operations.specs.Bounds as bounds
use Rattle.mz_meaning.specs.Cells.{Cell}
use Rattle.mz_meaning.specs.Comprehensions.{Element, Presence}
use Rattle.mz_symbol.specs.Runs.{Run}
use Rattle.mz_eval_cells.specs.declared.types.Bound.{Bound}
use Rattle.mz_eval_cells.specs.Views.{known_bound}
use Rattle.mz_eval_comprehensions.specs.declared.types.Members.{Members}
use Rattle.mz_eval_comprehensions.specs.declared.types.Turn.{Turn}
use Rattle.mz_eval_comprehensions.specs.Views.{member_in, value_element}
use Rattle.mz_eval_comprehensions.specs.StepsTurns.{IsTurn}

abbrev pub elem : Cell → Presence → Element
elem c p = (c, p)

-- a cell and a presence
pub element_at : (c d : Cell) (p q : Presence) → c ≡ d → p ≡ q → elem c p ≡ elem d q
element_at c d p q e h = ap (λ x. elem x p) e ∙ ap (λ y. elem d y) h

-- a number of a generator's set, of the same members and by the same number
pub like_member : {E : Type 0} (x : Result Turn E) (old new : Run) (of : Option ℕ) (w m : Members) (k n : ℤ) → m ≡ w → k ≡ n → IfOk x (IsTurn old new (λ r. member_in r of w k)) → IfOk x (IsTurn old new (λ r. member_in r of m n))
like_member (Ok y) old new of w m k n e f h = record { same = h.same; is = λ r q. h.is r q ∙ ap (member_in r of w) f ∙ ap (λ v. member_in r of v n) (sym e) }
like_member (Err z) old new of w m k n e f h = tt

-- one more of a list that is seen by a function
pub next_seen : {A B : Type 0} (f : A → B) (before after : List A) (n : A) (y : B) → before ≡ n ∷ after → y ≡ f n → map f before ≡ y ∷ map f after
next_seen f before after n y e h = ap (map f) e ∙ ap (λ z. z ∷ map f after) (sym h)

pub value_next : (xs : List Value) (i : ℕ) (x : Value) (y : Element) → i < length xs → x ≡ get_or xs i x → y ≡ value_element x → map value_element (drop i xs) ≡ y ∷ map value_element (drop (i + 1) xs)
value_next xs i x y l e h = at_drop_more (map value_element) xs i x l ∙ ap (λ z. z ∷ map value_element (drop (i + 1) xs)) (ap value_element (sym e) ∙ sym h)

pub none_seen : {A B : Type 0} (f : A → B) (xs : List A) → xs ≡ [] → map f xs ≡ []
none_seen f xs e = ap (map f) e

abbrev pub places_left : (ℕ × bounds.Bound → Element) → ℕ → List Bound → List Element
places_left f i bs = map f (enumerate_from i (map known_bound (drop i bs)))

pub place_next : (f : ℕ × bounds.Bound → Element) (bs : List Bound) (i : ℕ) (b : Bound) (y : Element) → i < length bs → b ≡ get_or bs i b → y ≡ f (i, known_bound b) → places_left f i bs ≡ y ∷ places_left f (i + 1) bs
place_next f bs i b y l e h =
    at_drop_more (λ zs. map f (enumerate_from i (map known_bound zs))) bs i b l
    ∙ ap (λ z. f (i, known_bound z) ∷ places_left f (i + 1) bs) (sym e)
    ∙ ap (λ z. z ∷ places_left f (i + 1) bs) (sym h)

pub no_places : (f : ℕ × bounds.Bound → Element) (bs : List Bound) (i : ℕ) → length bs ≤ i → places_left f i bs ≡ []
no_places f bs i l = at_drop_all (λ zs. map f (enumerate_from i (map known_bound zs))) bs i l
