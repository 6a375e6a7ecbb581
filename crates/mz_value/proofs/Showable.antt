-- Which values can be shown, and which sets' elements can be spelled.
use Rattle.std.proofs.Common.{◌≡◌, ℕ, zero, suc, ◌-◌, ◌<◌, ◌≤◌, List, [], ◌∷◌, ◌++◌, length, map, get_or, take, drop, sym, subst, ap, ◌∙◌, append_assoc, add-one, ◌+◌, arith}
use denote.Param.Weighed.{most, at_most}
use Rattle.std.proofs.lemmas.List.{take_all, append-nil}
use Rattle.std.specs.Prelude.{ℤ, codes}
use Rattle.std.specs.List.{flat_map}
use Rattle.mz_value.specs.declared.shown.Spelling.{Spelling}
use Rattle.mz_value.specs.declared.shown.Spelling.TheVariants.{Names}
use Rattle.mz_value.specs.Ranges.{Range}
use Rattle.mz_value.specs.Contents.{Content, contents}
use Rattle.mz_value.specs.Shown as shown
use Rattle.mz_value.specs.Shown.{IsShowable, AreShowable, shown_all, listed, range_elements}
use Rattle.mz_value.specs.Spelling.{IsSpelled, AreSpelled}
use Rattle.mz_value.proofs.Listed.{after_commas, listed_elements, ranges_after_commas}

behind : {X : Type 0} (x : X) (xs : List X) → take (length (x ∷ xs) - 1) (drop 1 (x ∷ xs)) ≡ xs
behind x xs = take_all (length (x ∷ xs) - 1) xs (omega arith)

pub spelled_at : (s : Spelling) (rs : List Range) (i : ℕ) (d : Range) → AreSpelled s rs → i < length rs → IsSpelled s (get_or rs i d).0 × IsSpelled s (get_or rs i d).1
spelled_at s [] i d all l = absurd (omega arith)
spelled_at s (r ∷ rs) zero d all l = all.0
spelled_at s (r ∷ rs) (suc i) d all l = spelled_at s rs i d all.1 (omega arith)

pub listed_first : (f : ℤ → List ℕ) (rs : List Range) (d : Range) → 1 ≤ length rs → listed (map f (flat_map range_elements rs)) ≡ listed (map f (range_elements (get_or rs 0 d))) ++ ranges_after_commas f (take (length rs - 1) (drop 1 rs))
listed_first f [] d some = absurd (omega arith)
listed_first f (r ∷ rs) d some = rw (behind r rs) (listed_elements f r rs)

-- the first range's elements are written, and then those after it
pub elements_written : (f : ℤ → List ℕ) (rs : List Range) (d : Range) (old first all : List ℕ) → 1 ≤ length rs → first ≡ old ++ listed (map f (range_elements (get_or rs 0 d))) → all ≡ first ++ ranges_after_commas f (take (length rs - 1) (drop 1 rs)) → all ≡ old ++ listed (map f (flat_map range_elements rs))
elements_written f rs d old first all some one more =
    let rest = ranges_after_commas f (take (length rs - 1) (drop 1 rs)) in
    let front = listed (map f (range_elements (get_or rs 0 d))) in
    more ∙ ap (λ t. t ++ rest) one ∙ append_assoc old front rest ∙ ap (λ t. old ++ t) (sym (listed_first f rs d some))

-- one item more

item_last : {X : Type 0} (view : X → Content) (names : shown.Names) (xs : List X) (i : ℕ) (d : X) → i < length xs → after_commas (shown_all names (contents (map view (take (suc i) xs)))) ≡ after_commas (shown_all names (contents (map view (take i xs)))) ++ (codes ", " ++ shown.shown names (view (get_or xs i d)))
unfolding shown_all
item_last view names [] i d l = absurd (omega arith)
item_last view names (x ∷ xs) zero d l = append-nil (codes ", " ++ shown.shown names (view x))
item_last view names (x ∷ xs) (suc i) d l =
    ap (λ t. (codes ", " ++ shown.shown names (view x)) ++ t) (item_last view names xs i d (omega arith))
    ∙ sym (append_assoc (codes ", " ++ shown.shown names (view x)) (after_commas (shown_all names (contents (map view (take i xs))))) (codes ", " ++ shown.shown names (view (get_or xs i d))))

pub item_written : {X : Type 0} (view : X → Content) (names : shown.Names) (xs : List X) (i : ℕ) (x : X) (start old comma new : List ℕ) → i < length xs → x ≡ get_or xs i x → old ≡ start ++ after_commas (shown_all names (contents (map view (take i xs)))) → comma ≡ old ++ codes ", " → new ≡ comma ++ shown.shown names (view x) → new ≡ start ++ after_commas (shown_all names (contents (map view (take (i + 1) xs))))
item_written view names xs i x start old comma new l is kept first second =
    let text = shown.shown names (view x) in
    let made = after_commas (shown_all names (contents (map view (take i xs)))) in
    let same : shown.shown names (view x) ≡ shown.shown names (view (get_or xs i x)) = ap (λ y. shown.shown names (view y)) is in
    second ∙ ap (λ t. t ++ text) first ∙ append_assoc old (codes ", ") text ∙ ap (λ t. t ++ (codes ", " ++ text)) kept ∙ append_assoc start made (codes ", " ++ text)
    ∙ ap (λ t. start ++ (made ++ (codes ", " ++ t))) same ∙ ap (λ t. start ++ t) (sym (rw add-one (item_last view names xs i x l)))

pub showable_at : {X : Type 0} (view : X → Content) (names : shown.Names) (xs : List X) (i : ℕ) (d : X) → AreShowable names (contents (map view xs)) → i < length xs → IsShowable names (view (get_or xs i d))
showable_at view names [] i d all l = absurd (omega arith)
showable_at view names (x ∷ xs) zero d all l = all.0
showable_at view names (x ∷ xs) (suc i) d all l = showable_at view names xs i d all.1 (omega arith)

pub showable_item : {X : Type 0} (view : X → Content) (names : shown.Names) (xs : List X) (i : ℕ) (x : X) → AreShowable names (contents (map view xs)) → i < length xs → x ≡ get_or xs i x → IsShowable names (view x)
showable_item {X} view names xs i x all l is = let P : X → Type 0 = λ y. IsShowable names (view y) in subst P (sym is) (showable_at view names xs i x all l)

-- an item's measure, and that of the items after the first, are no greater than that of all items

pub item_below : {X : Type 0} (measure : X → ℕ) (xs : List X) (i : ℕ) (x : X) → i < length xs → x ≡ get_or xs i x → measure x ≤ most measure xs
item_below {X} measure xs i x l is = let P : X → Type 0 = λ y. measure y ≤ most measure xs in subst P (sym is) (at_most measure xs i x l)

pub behind_below : {X : Type 0} (measure : X → ℕ) (xs : List X) → most measure (take (length xs - 1) (drop 1 xs)) ≤ most measure xs
behind_below measure [] = omega arith
behind_below measure (x ∷ xs) = rw (behind x xs) (omega arith)

pub showable_behind : {X : Type 0} (view : X → Content) (names : shown.Names) (xs : List X) → AreShowable names (contents (map view xs)) → AreShowable names (contents (map view (take (length xs - 1) (drop 1 xs))))
showable_behind view names [] all = all
showable_behind view names (x ∷ xs) all = rw (behind x xs) all.1
