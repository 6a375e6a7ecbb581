-- Index ranges of values.
use Rattle.std.proofs.Common.{◌≡◌, ℕ, ◌+◌, ◌<◌, ◌≤◌, ◌++◌, List, [], ◌∷◌, map, length, get_or, drop, refl, sym, ap, ◌∙◌}
use Rattle.std.specs.Prelude.{pos, Option, Some, None, slice_get, unwrap_or}
use Rattle.std.proofs.lemmas.List.{length-map, at_drop_more, at_drop_all, append-nil, append_assoc}
use Rattle.mz_value.specs.Ranges.{Range}
use Rattle.mz_meaning.specs.Arrays.{Want, moved_value, own_range, range_for, ranges_from}
use Rattle.mz_eval_cells.specs.declared.types.Item.{Item}
use Rattle.mz_eval_cells.specs.declared.types.Item.TheVariants.{Bool, Int, Enum, Absent, Set, Text}
use Rattle.mz_eval_cells.specs.Views.{item_content}

pub as_many : {A B : Type 0} (view : A → B) (xs : List A) → length (map view xs) ≡ length xs
as_many view xs = length-map xs view

pub item_moved : (ix : List Range) (i : Item) → moved_value ix (item_content i) ≡ item_content i
item_moved ix (Bool b) = refl
item_moved ix (Int n) = refl
item_moved ix (Enum e k) = refl
item_moved ix Absent = refl
item_moved ix (Set s) = refl
item_moved ix (Text t) = refl

pub own_is : (o : Option Range) → unwrap_or o (pos 1, pos 0) ≡ own_range o
own_is None = refl
own_is (Some r) = refl

-- ---- declared ranges, one after another

pub range_goes : {X : Type 0} (view : X → Want) (ws : List X) (own front next whole : List Range) (k : ℕ) (w : X) (r : Range) → k < length ws → w ≡ get_or ws k w → r ≡ range_for (view w) (slice_get own k) → next ≡ front ++ r ∷ [] → front ++ ranges_from k (map view (drop k ws)) own ≡ whole → next ++ ranges_from (k + 1) (map view (drop (k + 1) ws)) own ≡ whole
range_goes view ws own front next whole k w r l e m n i =
    let cut : ranges_from k (map view (drop k ws)) own ≡ range_for (view w) (slice_get own k) ∷ ranges_from (k + 1) (map view (drop (k + 1) ws)) own = at_drop_more (λ xs. ranges_from k (map view xs) own) ws k w l ∙ ap (λ y. ranges_from k (map view (y ∷ drop (k + 1) ws)) own) (sym e) in
    let rest = ranges_from (k + 1) (map view (drop (k + 1) ws)) own in
    ap (λ f. f ++ rest) n ∙ append_assoc front (r ∷ []) rest ∙ ap (λ y. front ++ (y ∷ rest)) m ∙ sym (ap (λ z. front ++ z) cut) ∙ i

pub range_ends : {X : Type 0} (view : X → Want) (ws : List X) (own front whole : List Range) (k : ℕ) → length ws ≤ k → front ++ ranges_from k (map view (drop k ws)) own ≡ whole → front ≡ whole
range_ends view ws own front whole k l i =
    let none : ranges_from k (map view (drop k ws)) own ≡ [] = at_drop_all (λ xs. ranges_from k (map view xs) own) ws k l in
    sym (append-nil front) ∙ sym (ap (λ z. front ++ z) none) ∙ i
