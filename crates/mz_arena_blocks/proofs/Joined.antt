-- What elements of lists have together, by parts of the lists.
use Rattle.std.proofs.Common.{◌≡◌, ℕ, zero, suc, ◌+◌, ◌-◌, ◌≤◌, List, [], ◌∷◌, ◌++◌, take, drop, map, Some, refl, ap, subst, ◌∙◌}
use Rattle.std.proofs.Math.Seq.{take-add}
use Rattle.mz_arena_blocks.specs.Joins.{join_from, join_of_all, AllFit, AreLaws}

some_same : {A : Type 0} (x y : A) → Some x ≡ Some y → x ≡ y
some_same x y h = cc

-- ---- elements that fit

pub fit_taken : {T S : Type 0} (seen : T → S) (fits : S → Type 0) (n : ℕ) (xs : List T) → AllFit fits (map seen xs) → AllFit fits (map seen (take n xs))
fit_taken seen fits zero xs h = tt
fit_taken seen fits (suc n) [] h = tt
fit_taken seen fits (suc n) (x ∷ xs) h = (h.0, fit_taken seen fits n xs h.1)

pub fit_dropped : {T S : Type 0} (seen : T → S) (fits : S → Type 0) (n : ℕ) (xs : List T) → AllFit fits (map seen xs) → AllFit fits (map seen (drop n xs))
fit_dropped seen fits zero xs h = h
fit_dropped seen fits (suc n) [] h = tt
fit_dropped seen fits (suc n) (x ∷ xs) h = fit_dropped seen fits n xs h.1

-- ---- joins

pub join_first : {S : Type 0} (fits : S → Type 0) (joined : S → S → S) → AreLaws fits joined → (a b : S) (es : List S) → fits a → fits b → AllFit fits es → join_from joined (joined a b) es ≡ joined a (join_from joined b es)
join_first fits joined l a b [] p q h = refl
join_first fits joined l a b (e ∷ es) p q h =
    ap (λ d. join_from joined d es) (l.associative a b e p q h.0) ∙ join_first fits joined l a (joined b e) es p (l.fit b e q h.0) h.1

pub join_append : {S : Type 0} (joined : S → S → S) (a : S) (es fs : List S) → join_from joined a (es ++ fs) ≡ join_from joined (join_from joined a es) fs
join_append joined a [] fs = refl
join_append joined a (e ∷ es) fs = join_append joined (joined a e) es fs

pub join_fits : {S : Type 0} (fits : S → Type 0) (joined : S → S → S) → AreLaws fits joined → (a : S) (es : List S) → fits a → AllFit fits es → fits (join_from joined a es)
join_fits fits joined l a [] p h = p
join_fits fits joined l a (e ∷ es) p h = join_fits fits joined l (joined a e) es (l.fit a e p h.0) h.1

pub all_fits : {S : Type 0} (fits : S → Type 0) (joined : S → S → S) → AreLaws fits joined → (es : List S) (x : S) → AllFit fits es → join_of_all joined es ≡ Some x → fits x
all_fits fits joined l [] x h e = cc
all_fits fits joined l (d ∷ es) x h e = subst fits (some_same (join_from joined d es) x e) (join_fits fits joined l d es h.0 h.1)

-- before elements that have something together
pub join_before : {S : Type 0} (fits : S → Type 0) (joined : S → S → S) → AreLaws fits joined → (a : S) (es : List S) (x : S) → fits a → AllFit fits es → join_of_all joined es ≡ Some x → join_from joined a es ≡ joined a x
join_before fits joined l a [] x p h e = cc
join_before fits joined l a (d ∷ es) x p h e = join_first fits joined l a d es p h.0 h.1 ∙ ap (joined a) (some_same (join_from joined d es) x e)

pub all_append : {S : Type 0} (joined : S → S → S) (es fs : List S) (x : S) → join_of_all joined es ≡ Some x → join_of_all joined (es ++ fs) ≡ Some (join_from joined x fs)
all_append joined [] fs x h = cc
all_append joined (e ∷ es) fs x h = ap (λ y. Some y) (join_append joined e es fs ∙ ap (λ y. join_from joined y fs) (some_same (join_from joined e es) x h))

-- ---- parts of lists

pub map_append : {T S : Type 0} (f : T → S) (xs ys : List T) → map f (xs ++ ys) ≡ map f xs ++ map f ys
map_append f [] ys = refl
map_append f (x ∷ xs) ys = ap (λ t. f x ∷ t) (map_append f xs ys)

pub map_taken : {T S : Type 0} (f : T → S) (n m : ℕ) (xs : List T) → map f (take (n + m) xs) ≡ map f (take n xs) ++ map f (take m (drop n xs))
map_taken f n m xs = ap (map f) (take-add n m xs) ∙ map_append f (take n xs) (take m (drop n xs))
