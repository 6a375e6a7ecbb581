-- Lists by their places, where one is added.
use Rattle.std.proofs.Common.{◌≡◌, ℕ, zero, suc, ◌+◌, ◌-◌, ◌<◌, ◌≤◌, List, [], ◌∷◌, ◌++◌, length, drop, take, map, Option, Some, None, slice_get, get_or, inl, inr, ◌⊎◌, refl, sym, ap, subst, ◌∙◌, arith, length-append}
use Rattle.std.proofs.lemmas.Option.{slice_get-get_or}
use Rattle.mz_arena_blocks.specs.declared.blocks.Row.{Row}
use Rattle.mz_arena_blocks.specs.Joins.{join_of_all, AllFit}
use Rattle.mz_arena_blocks.specs.Lists.{list_at, lists_from, lists_of}
use Rattle.mz_arena_blocks.specs.Rows.{IsBlock, IsRow, AreRows}

-- ---- places

pub list_at-append : {T : Type 0} (lists more : List (List T)) (k : ℕ) → k < length lists → list_at (lists ++ more) k ≡ list_at lists k
list_at-append [] more k h = absurd (omega arith)
list_at-append (l ∷ lists) more zero h = refl
list_at-append (l ∷ lists) more (suc k) h = list_at-append lists more k (omega arith)

pub list_at-last : {T : Type 0} (lists : List (List T)) (l : List T) → list_at (lists ++ l ∷ []) (length lists) ≡ l
list_at-last [] l = refl
list_at-last (k ∷ lists) l = list_at-last lists l

pub list_at-past : {T : Type 0} (lists : List (List T)) (k : ℕ) → length lists ≤ k → list_at lists k ≡ []
list_at-past [] k h = refl
list_at-past (l ∷ lists) zero h = absurd (omega arith)
list_at-past (l ∷ lists) (suc k) h = list_at-past lists k (omega arith)

get-below : {A : Type 0} (xs : List A) (k : ℕ) (x : A) → slice_get xs k ≡ Some x → k < length xs
get-below [] k x h = cc
get-below (y ∷ xs) zero x h = omega arith
get-below (y ∷ xs) (suc k) x h = let l = get-below xs k x h in omega arith

-- what there is in a longer list
added : {A : Type 0} (xs : List A) (x y : A) (k : ℕ) → slice_get (xs ++ x ∷ []) k ≡ Some y → (slice_get xs k ≡ Some y) ⊎ ((k ≡ length xs) × (y ≡ x))
added [] x y zero h = inr (refl, cc)
added [] x y (suc k) h = cc
added (z ∷ xs) x y zero h = inl h
added (z ∷ xs) x y (suc k) h = elim (added xs x y k h) [
  | inl o ↦ inl o
  | inr n ↦ inr (ap suc n.0, n.1)
]

-- ---- the lists

pub lists_from-push : {T : Type 0} (lists : List (List T)) (rs : List (Row T)) (r : Row T) → lists_from lists (rs ++ r ∷ []) ≡ lists_from lists rs ++ (r.head ∷ list_at (lists_from lists rs) r.tail) ∷ []
unfolding lists_from
lists_from-push lists [] r = refl
lists_from-push lists (q ∷ rs) r = lists_from-push (lists ++ (q.head ∷ list_at lists q.tail) ∷ []) rs r

length-lists_from : {T : Type 0} (lists : List (List T)) (rs : List (Row T)) → length (lists_from lists rs) ≡ length lists + length rs
unfolding lists_from
length-lists_from lists [] = omega arith
length-lists_from lists (r ∷ rs) =
    let l = r.head ∷ list_at lists r.tail in
    omega (arith, length-lists_from (lists ++ l ∷ []) rs, length-append lists (l ∷ []))

pub length-lists : {T : Type 0} (rows : List (Row T)) → length (lists_of rows) ≡ suc (length rows)
length-lists rows = length-lists_from ([] ∷ []) rows ∙ omega arith

pub no_lists : {T : Type 0} (rows : List (Row T)) → rows ≡ [] → lists_of rows ≡ [] ∷ []
unfolding lists_from
no_lists [] h = refl
no_lists (r ∷ rs) h = cc

keep : {T : Type 0} (lists : List (List T)) (rs : List (Row T)) (k : ℕ) → k < length lists → list_at (lists_from lists rs) k ≡ list_at lists k
unfolding lists_from
keep lists [] k h = refl
keep lists (r ∷ rs) k h =
    let l = r.head ∷ list_at lists r.tail in
    keep (lists ++ l ∷ []) rs k (omega (arith, length-append lists (l ∷ []))) ∙ list_at-append lists (l ∷ []) k h

-- the empty list is at 0
pub first_empty : {T : Type 0} (rows : List (Row T)) → list_at (lists_of rows) 0 ≡ []
first_empty rows = keep ([] ∷ []) rows 0 (omega arith)

-- ---- the rows

-- every list has elements that fit
pub fits_at : {T S : Type 0} (seen : T → S) (fits : S → Type 0) (joined : S → S → S) (rows : List (Row T)) → AreRows seen fits joined rows → (k : ℕ) → AllFit fits (map seen (list_at (lists_of rows) k))
fits_at seen fits joined rows h zero = subst (λ xs. AllFit fits (map seen xs)) (sym (first_empty rows)) tt
fits_at {T} seen fits joined rows h (suc k) = by (slice_get rows k) refl
  where
    past : (xs : List (Row T)) (k : ℕ) → slice_get xs k ≡ None → length xs ≤ k
    past [] k e = omega arith
    past (x ∷ xs) zero e = cc
    past (x ∷ xs) (suc k) e = let l = past xs k e in omega arith

    by : (o : Option (Row T)) → slice_get rows k ≡ o → AllFit fits (map seen (list_at (lists_of rows) (suc k)))
    by None e = subst (λ xs. AllFit fits (map seen xs)) (sym (list_at-past (lists_of rows) (suc k) (omega (arith, past rows k e, length-lists rows)))) tt
    by (Some r) e = (h.each k r e).elements

row_later : {T S : Type 0} (seen : T → S) (fits : S → Type 0) (joined : S → S → S) (lists more : List (List T)) (place : ℕ) (list same : List T) (r : Row T) → place ≤ length lists → list ≡ same → IsRow seen fits joined lists place list r → IsRow seen fits joined (lists ++ more) place same r
row_later seen fits joined lists more place list same r l e h = record {
  tail = h.tail;
  parts = sym e ∙ h.parts ∙ ap (λ xs. r.head ∷ xs) (sym (list_at-append lists more r.tail (omega (arith, h.tail, l))));
  elements = subst (λ xs. AllFit fits (map seen xs)) e h.elements;
  block = record {
    below = h.block.below;
    some = h.block.some;
    rest = list_at-append lists more r.block.next (omega (arith, h.block.below, h.block.some, l)) ∙ h.block.rest ∙ ap (drop r.block.span) e;
    together = ap (λ xs. join_of_all joined (map seen (take r.block.span xs))) (sym e) ∙ h.block.together;
  };
}

-- one more row
pub rows_push : {T S : Type 0} (seen : T → S) (fits : S → Type 0) (joined : S → S → S) (rows : List (Row T)) (r : Row T) → AreRows seen fits joined rows → r.tail < length (lists_of rows) → fits (seen r.head) → IsBlock seen joined (lists_of rows) (length (lists_of rows)) (r.head ∷ list_at (lists_of rows) r.tail) r.block.next r.block.span r.block.all → AreRows seen fits joined (rows ++ r ∷ [])
rows_push {T} seen fits joined rows r h below fit block = record { each = each }
  where
    list : List T
    list = r.head ∷ list_at (lists_of rows) r.tail

    lists : lists_of (rows ++ r ∷ []) ≡ lists_of rows ++ list ∷ []
    lists = lists_from-push ([] ∷ []) rows r

    whole : IsRow seen fits joined (lists_of rows) (length (lists_of rows)) list r
    whole = record { tail = below; parts = refl; elements = (fit, fits_at seen fits joined rows h r.tail); block = block }

    each : (k : ℕ) (t : Row T) → slice_get (rows ++ r ∷ []) k ≡ Some t → IsRow seen fits joined (lists_of (rows ++ r ∷ [])) (suc k) (list_at (lists_of (rows ++ r ∷ [])) (suc k)) t
    each k t g = subst (λ ls. IsRow seen fits joined ls (suc k) (list_at ls (suc k)) t) (sym lists) (elim (added rows r t k g) [
      | inl o ↦
          let low = get-below rows k t o in
          row_later seen fits joined (lists_of rows) (list ∷ []) (suc k) (list_at (lists_of rows) (suc k)) (list_at (lists_of rows ++ list ∷ []) (suc k)) t (omega (arith, low, length-lists rows)) (sym (list_at-append (lists_of rows) (list ∷ []) (suc k) (omega (arith, low, length-lists rows)))) (h.each k t o)
      | inr n ↦
          let place : length (lists_of rows) ≡ suc k = length-lists rows ∙ ap suc (sym n.0) in
          let own = row_later seen fits joined (lists_of rows) (list ∷ []) (length (lists_of rows)) list (list_at (lists_of rows ++ list ∷ []) (length (lists_of rows))) r (omega arith) (sym (list_at-last (lists_of rows) list)) whole in
          subst (λ u. IsRow seen fits joined (lists_of rows ++ list ∷ []) (suc k) (list_at (lists_of rows ++ list ∷ []) (suc k)) u) (sym n.1) (subst (λ i. IsRow seen fits joined (lists_of rows ++ list ∷ []) i (list_at (lists_of rows ++ list ∷ []) i) r) place own)
    ])

pub row_read : {T S : Type 0} (seen : T → S) (fits : S → Type 0) (joined : S → S → S) (rows : List (Row T)) (place k : ℕ) (r : Row T) → AreRows seen fits joined rows → place ≡ suc k → place < length (lists_of rows) → r ≡ get_or rows k r → IsRow seen fits joined (lists_of rows) place (list_at (lists_of rows) place) r
row_read seen fits joined rows place k r h e l g =
    let low : k < length rows = omega (arith, l, e, length-lists rows) in
    let there : slice_get rows k ≡ Some r = slice_get-get_or rows k r low ∙ ap (λ s. Some s) (sym g) in
    subst (λ i. IsRow seen fits joined (lists_of rows) i (list_at (lists_of rows) i) r) (sym e) (h.each k r there)

-- ---- the rows, as their lists are seen

pub seen_length : {T : Type 0} (rows : List (Row T)) (now : List (List T)) → lists_of rows ≡ now → length now ≡ suc (length rows)
seen_length rows now v = ap length (sym v) ∙ length-lists rows

pub none_at : {T : Type 0} (rows : List (Row T)) (now : List (List T)) (list : ℕ) → lists_of rows ≡ now → list ≡ 0 → list_at now list ≡ []
none_at rows now list v e = ap (list_at now) e ∙ ap (λ ls. list_at ls 0) (sym v) ∙ first_empty rows

pub row_at : {T S : Type 0} (seen : T → S) (fits : S → Type 0) (joined : S → S → S) (rows : List (Row T)) (now : List (List T)) (list : ℕ) (r : Row T) → AreRows seen fits joined rows → lists_of rows ≡ now → 0 < list → list < length now → r ≡ get_or rows (list - 1) r → IsRow seen fits joined now list (list_at now list) r
row_at seen fits joined rows now list r h v some low g =
    let place : list ≡ suc (list - 1) = omega (arith, some) in
    subst (λ ls. IsRow seen fits joined ls list (list_at ls list) r) v (row_read seen fits joined rows list (list - 1) r h place (omega (arith, low, ap length v)) g)

pub lists_pushed : {T : Type 0} (rows new : List (Row T)) (now : List (List T)) (r : Row T) → lists_of rows ≡ now → new ≡ rows ++ r ∷ [] → lists_of new ≡ now ++ (r.head ∷ list_at now r.tail) ∷ []
lists_pushed rows new now r v e = ap lists_of e ∙ lists_from-push ([] ∷ []) rows r ∙ ap (λ ls. ls ++ (r.head ∷ list_at ls r.tail) ∷ []) v

pub rows_pushed : {T S : Type 0} (seen : T → S) (fits : S → Type 0) (joined : S → S → S) (rows new : List (Row T)) (now : List (List T)) (r : Row T) → AreRows seen fits joined rows → lists_of rows ≡ now → new ≡ rows ++ r ∷ [] → r.tail < length now → fits (seen r.head) → IsBlock seen joined now (length now) (r.head ∷ list_at now r.tail) r.block.next r.block.span r.block.all → AreRows seen fits joined new
rows_pushed seen fits joined rows new now r h v e l p b =
    subst (λ rs. AreRows seen fits joined rs) (sym e) (rows_push seen fits joined rows r h (subst (λ ls. r.tail < length ls) (sym v) l) p (subst (λ ls. IsBlock seen joined ls (length ls) (r.head ∷ list_at ls r.tail) r.block.next r.block.span r.block.all) (sym v) b))
