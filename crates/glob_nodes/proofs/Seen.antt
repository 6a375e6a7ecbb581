-- What is told of elements whose values are there is told of the values.
use Rattle.std.proofs.Common.{◌≡◌, ◌∙◌, ◌+◌, ℤ, ◌+ℤ◌, Bool, ◌&&◌, ◌||◌, cond, count_by, List, [], ◌∷◌, map, zip, Option, Some, None, refl, sym, ap}
use Rattle.std.proofs.lemmas.List.Sums.{sum_by-cons}
use Rattle.std.specs.List.{list_all, list_any}
use Rattle.mz_globals.specs.Lists.{pairwise, total}
use Rattle.glob_nodes.specs.Numbers.{plus, added}

pub head_there : {A : Type 0} (o : Option A) (os : List (Option A)) (v : A) (vs : List A) → (o ∷ os) ≡ map (λ n. Some n) (v ∷ vs) → o ≡ Some v
head_there o os v vs h = cc

pub tail_there : {A : Type 0} (o : Option A) (os : List (Option A)) (v : A) (vs : List A) → (o ∷ os) ≡ map (λ n. Some n) (v ∷ vs) → os ≡ map (λ n. Some n) vs
tail_there o os v vs h = cc

pub both_same : (a b c d : Bool) → a ≡ c → b ≡ d → (a && b) ≡ (c && d)
both_same a b c d p q = ap (λ x. x && b) p ∙ ap (λ x. c && x) q

pub either_same : (a b c d : Bool) → a ≡ c → b ≡ d → (a || b) ≡ (c || d)
either_same a b c d p q = ap (λ x. x || b) p ∙ ap (λ x. c || x) q

-- of each
pub all_seen : {A V : Type 0} (see : A → Option V) (p : A → Bool) (q : V → Bool) (xs : List A) (vs : List V) → ((x : A) (v : V) → see x ≡ Some v → p x ≡ q v) → map see xs ≡ map (λ n. Some n) vs → list_all p xs ≡ list_all q vs
all_seen see p q [] [] e h = refl
all_seen see p q [] (v ∷ vs) e h = absurd (cc)
all_seen see p q (x ∷ xs) [] e h = absurd (cc)
all_seen see p q (x ∷ xs) (v ∷ vs) e h = both_same (p x) (list_all p xs) (q v) (list_all q vs) (e x v (head_there (see x) (map see xs) v vs h)) (all_seen see p q xs vs e (tail_there (see x) (map see xs) v vs h))

-- of some
pub any_seen : {A V : Type 0} (see : A → Option V) (p : A → Bool) (q : V → Bool) (xs : List A) (vs : List V) → ((x : A) (v : V) → see x ≡ Some v → p x ≡ q v) → map see xs ≡ map (λ n. Some n) vs → list_any p xs ≡ list_any q vs
any_seen see p q [] [] e h = refl
any_seen see p q [] (v ∷ vs) e h = absurd (cc)
any_seen see p q (x ∷ xs) [] e h = absurd (cc)
any_seen see p q (x ∷ xs) (v ∷ vs) e h = either_same (p x) (list_any p xs) (q v) (list_any q vs) (e x v (head_there (see x) (map see xs) v vs h)) (any_seen see p q xs vs e (tail_there (see x) (map see xs) v vs h))

-- of each two
pub pairs_seen : {A V : Type 0} (see : A → Option V) (p : A → A → Bool) (q : V → V → Bool) (xs : List A) (vs : List V) → ((x y : A) (v w : V) → see x ≡ Some v → see y ≡ Some w → p x y ≡ q v w) → map see xs ≡ map (λ n. Some n) vs → pairwise p xs ≡ pairwise q vs
pairs_seen see p q [] [] e h = refl
pairs_seen see p q [] (v ∷ vs) e h = absurd (cc)
pairs_seen see p q (x ∷ xs) [] e h = absurd (cc)
pairs_seen see p q (x ∷ xs) (v ∷ vs) e h =
    let one = head_there (see x) (map see xs) v vs h in
    let rest = tail_there (see x) (map see xs) v vs h in
    both_same (list_all (p x) xs) (pairwise p xs) (list_all (q v) vs) (pairwise q vs) (all_seen see (p x) (q v) xs vs (λ y w i. e x y v w one i) rest) (pairs_seen see p q xs vs e rest)

plus_some : (o p : Option ℤ) (i j : ℤ) → o ≡ Some i → p ≡ Some j → plus o p ≡ Some (i +ℤ j)
plus_some o p i j h k = ap (λ o. plus o p) h ∙ ap (plus (Some i)) k

-- what all add
pub added_seen : {A V : Type 0} (see : A → Option V) (f : A → Option ℤ) (g : V → ℤ) (xs : List A) (vs : List V) → ((x : A) (v : V) → see x ≡ Some v → f x ≡ Some (g v)) → map see xs ≡ map (λ n. Some n) vs → added f xs ≡ Some (total g vs)
added_seen see f g [] [] e h = refl
added_seen see f g [] (v ∷ vs) e h = absurd (cc)
added_seen see f g (x ∷ xs) [] e h = absurd (cc)
added_seen see f g (x ∷ xs) (v ∷ vs) e h = plus_some (f x) (added f xs) (g v) (total g vs) (e x v (head_there (see x) (map see xs) v vs h)) (added_seen see f g xs vs e (tail_there (see x) (map see xs) v vs h))

-- ---- elements side by side

abbrev pub both : {V W : Type 0} → Option V → Option W → Option (V × W)
both None p = None
both (Some v) None = None
both (Some v) (Some w) = Some (v, w)

pub both_first : {V W : Type 0} (o : Option V) (p : Option W) (a : V × W) → both o p ≡ Some a → o ≡ Some a.0
both_first None p a h = absurd (cc)
both_first (Some v) None a h = absurd (cc)
both_first {V} {W} (Some v) (Some w) a h =
    let e : ◌≡◌ {A = V × W} (v, w) a = cc in
    ap (λ q. Some q.0) e

pub both_second : {V W : Type 0} (o : Option V) (p : Option W) (a : V × W) → both o p ≡ Some a → p ≡ Some a.1
both_second None p a h = absurd (cc)
both_second (Some v) None a h = absurd (cc)
both_second {V} {W} (Some v) (Some w) a h =
    let e : ◌≡◌ {A = V × W} (v, w) a = cc in
    ap (λ q. Some q.1) e

both_there : {V W : Type 0} (o : Option V) (p : Option W) (v : V) (w : W) → o ≡ Some v → p ≡ Some w → both o p ≡ Some (v, w)
both_there o p v w h k = ap (λ o. both o p) h ∙ ap (both (Some v)) k

pub cons_same : {A : Type 0} (x y : A) (xs ys : List A) → x ≡ y → xs ≡ ys → (x ∷ xs) ≡ (y ∷ ys)
cons_same x y xs ys p q = ap (λ z. z ∷ xs) p ∙ ap (λ zs. y ∷ zs) q

pub zip_seen : {A B V W : Type 0} (f : A → Option V) (g : B → Option W) (xs : List A) (ys : List B) (vs : List V) (ws : List W) → map f xs ≡ map (λ n. Some n) vs → map g ys ≡ map (λ n. Some n) ws → map (λ p. both (f p.0) (g p.1)) (zip xs ys) ≡ map (λ n. Some n) (zip vs ws)
zip_seen f g [] ys [] ws h k = refl
zip_seen f g [] ys (v ∷ vs) ws h k = absurd (cc)
zip_seen f g (x ∷ xs) ys [] ws h k = absurd (cc)
zip_seen f g (x ∷ xs) [] (v ∷ vs) [] h k = refl
zip_seen f g (x ∷ xs) [] (v ∷ vs) (w ∷ ws) h k = absurd (cc)
zip_seen f g (x ∷ xs) (y ∷ ys) (v ∷ vs) [] h k = absurd (cc)
zip_seen f g (x ∷ xs) (y ∷ ys) (v ∷ vs) (w ∷ ws) h k =
    cons_same (both (f x) (g y)) (Some (v, w)) (map (λ p. both (f p.0) (g p.1)) (zip xs ys)) (map (λ n. Some n) (zip vs ws))
    (both_there (f x) (g y) v w (head_there (f x) (map f xs) v vs h) (head_there (g y) (map g ys) w ws k))
    (zip_seen f g xs ys vs ws (tail_there (f x) (map f xs) v vs h) (tail_there (g y) (map g ys) w ws k))

-- ---- counts

pub count_seen : {A V : Type 0} (see : A → Option V) (p : A → Bool) (q : V → Bool) (xs : List A) (vs : List V) → ((x : A) (v : V) → see x ≡ Some v → p x ≡ q v) → map see xs ≡ map (λ n. Some n) vs → count_by p xs ≡ count_by q vs
count_seen see p q [] [] e h = refl
count_seen see p q [] (v ∷ vs) e h = absurd (cc)
count_seen see p q (x ∷ xs) [] e h = absurd (cc)
count_seen see p q (x ∷ xs) (v ∷ vs) e h =
    sum_by-cons (λ y. cond (p y) 1 0) x xs
    ∙ ap (λ b. cond b 1 0 + count_by p xs) (e x v (head_there (see x) (map see xs) v vs h))
    ∙ ap (λ n. cond (q v) 1 0 + n) (count_seen see p q xs vs e (tail_there (see x) (map see xs) v vs h))
    ∙ sym (sum_by-cons (λ y. cond (q y) 1 0) v vs)
