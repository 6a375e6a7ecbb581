-- A table of texts, and its next.
use Rattle.std.proofs.Common.{◌≡◌, ℕ, zero, suc, ◌<◌, List, [], ◌∷◌, ◌++◌, length, map, position, Bool, true, false, cond, not, slice_get, get_or, refl, sym, ap, ◌∙◌, inl, inr, arith, true≢false}
use Rattle.std.specs.Prelude.{Some, ◌⊎◌}
use Rattle.std.specs.List.{list_any, prefix_len}
use Rattle.std.specs.Str.{bytes_eq}
use Rattle.std.proofs.lemmas.List.Quantifiers.{position-Some}
use Rattle.std.proofs.lemmas.List.Folds.{list_any_at}
use Rattle.std.proofs.lemmas.Option.{slice_get-get_or, slice_get_within, get_or_from_slice_get}
use Rattle.std.proofs.lemmas.Slice.Eq.{bytes_eq-Decides}
use Rattle.mz_base.specs.Names.{AreDistinct, text_of, with_text, Grows}

prefix_len-map : {A B : Type 0} (p : B → Bool) (f : A → B) (xs : List A) → prefix_len p (map f xs) ≡ prefix_len (λ x. p (f x)) xs
prefix_len-map p f [] = refl
prefix_len-map p f (x ∷ xs) = rw (prefix_len-map p f xs) refl

length-mapped : {A B : Type 0} (f : A → B) (xs : List A) → length (map f xs) ≡ length xs
length-mapped f [] = refl
length-mapped f (x ∷ xs) = ap suc (length-mapped f xs)

-- a place is sought in what is seen of the elements
position-seen : {A B : Type 0} (p : B → Bool) (f : A → B) (xs : List A) → position p (map f xs) ≡ position (λ x. p (f x)) xs
position-seen p f xs = rw (prefix_len-map (λ x. not (p x)) f xs, length-mapped f xs) refl

any-seen : {A B : Type 0} (p : B → Bool) (f : A → B) (xs : List A) → list_any p (map f xs) ≡ list_any (λ x. p (f x)) xs
any-seen p f [] = refl
any-seen p f (x ∷ xs) = rw (any-seen p f xs) refl

map_push : {A B : Type 0} (f : A → B) (xs : List A) (x : A) → map f (xs ++ x ∷ []) ≡ map f xs ++ f x ∷ []
map_push f [] x = refl
map_push f (y ∷ ys) x = ap (λ zs. f y ∷ zs) (map_push f ys x)

pub record Stands (texts : List (List ℕ)) (i : ℕ) (text : List ℕ) : Type 0 where
  pub below : i < length texts
  pub there : text_of texts i ≡ text
  pub any : list_any (bytes_eq text) texts ≡ true

-- the place that is found holds the text
pub found : {K : Type 0} (view : K → List ℕ) (ks : List K) (text : List ℕ) (i : ℕ) → position (λ k. bytes_eq text (view k)) ks ≡ Some i → Stands (map view ks) i text
found view ks text i e =
    let ts : List (List ℕ) = map view ks in
    let place = position-Some (bytes_eq text) ts i [] (position-seen (bytes_eq text) view ks ∙ e) in
    let same : text ≡ get_or ts i [] = (bytes_eq-Decides text (get_or ts i [])).0 place.1 in
    record { below = place.0; there = sym same; any = list_any_at (bytes_eq text) ts i [] place.0 place.1 }

pub kept : (texts : List (List ℕ)) (i : ℕ) (text : List ℕ) → Stands texts i text → texts ≡ with_text texts text
kept texts i text s = rw (s.any) refl

chosen : {K : Type 0} (view : K → List ℕ) (b : Bool) (ks : List K) (k : K) → map view (cond b ks (ks ++ k ∷ [])) ≡ cond b (map view ks) (map view ks ++ view k ∷ [])
chosen view true ks k = refl
chosen view false ks k = map_push view ks k

-- what a set of keys is after a key is put into it
pub put : {K : Type 0} (view : K → List ℕ) (ks : List K) (k : K) → map view (cond (list_any (λ x. bytes_eq (view k) (view x)) ks) ks (ks ++ k ∷ [])) ≡ with_text (map view ks) (view k)
put view ks k = chosen view (list_any (λ x. bytes_eq (view k) (view x)) ks) ks k ∙ ap (λ b. cond b (map view ks) (map view ks ++ view k ∷ [])) (sym (any-seen (bytes_eq (view k)) view ks))

last_or_before : (ts : List (List ℕ)) (t w : List ℕ) (i : ℕ) → slice_get (ts ++ t ∷ []) i ≡ Some w → (slice_get ts i ≡ Some w) ⊎ ((i ≡ length ts) × (w ≡ t))
last_or_before [] t w zero e = inr (refl, cc)
last_or_before [] t w (suc i) e = cc
last_or_before (x ∷ ts) t w zero e = inl e
last_or_before (x ∷ ts) t w (suc i) e = elim (last_or_before ts t w i e) [ inl h ↦ inl h | inr h ↦ inr (ap suc h.0, h.1) ]

pub absent : (ts : List (List ℕ)) (t : List ℕ) (i : ℕ) → list_any (bytes_eq t) ts ≡ false → slice_get ts i ≡ Some t → ⊥
absent ts t i none e =
    let at = list_any_at (bytes_eq t) ts i [] (slice_get_within ts i t e) ((bytes_eq-Decides t (get_or ts i [])).1 (sym (get_or_from_slice_get ts i t [] e))) in
    true≢false (sym at ∙ none)

at_place : (ts : List (List ℕ)) (i : ℕ) → i < length ts → slice_get ts i ≡ Some (text_of ts i)
at_place ts i below = slice_get-get_or ts i [] below

-- a set of keys without a text's place holds it nowhere
pub lacks : {K : Type 0} (view : K → List ℕ) (ks : List K) (text : List ℕ) (n : ℕ) → list_any (λ k. bytes_eq text (view k)) ks ≡ false → n < length (map view ks) → text_of (map view ks) n ≡ text → ⊥
lacks view ks text n none below there = absent (map view ks) text n (any-seen (bytes_eq text) view ks ∙ none) (at_place (map view ks) n below ∙ ap Some there)

distinct_push : (ts : List (List ℕ)) (t : List ℕ) → AreDistinct ts → list_any (bytes_eq t) ts ≡ false → AreDistinct (ts ++ t ∷ [])
distinct_push ts t distinct none i j below_i below_j same =
    let us : List (List ℕ) = ts ++ t ∷ [] in
    let w : List ℕ = text_of us i in
    let at_i : slice_get us i ≡ Some w = at_place us i below_i in
    let at_j : slice_get us j ≡ Some w = at_place us j below_j ∙ ap Some (sym same) in
    elim (last_or_before ts t w i at_i) [
      | inl before ↦ elim (last_or_before ts t w j at_j) [
        | inl before' ↦ distinct i j (slice_get_within ts i w before) (slice_get_within ts j w before') (get_or_from_slice_get ts i w [] before ∙ sym (get_or_from_slice_get ts j w [] before'))
        | inr last' ↦ absurd (absent ts t i none (before ∙ ap Some last'.1))
      ]
      | inr last ↦ elim (last_or_before ts t w j at_j) [
        | inl before' ↦ absurd (absent ts t j none (before' ∙ ap Some last.1))
        | inr last' ↦ last.0 ∙ sym last'.0
      ]
    ]

-- no text stands twice in the next table
pub distinct_with : (ts : List (List ℕ)) (t : List ℕ) → AreDistinct ts → AreDistinct (with_text ts t)
distinct_with ts t distinct = go (list_any (bytes_eq t) ts) refl
  where
    go : (b : Bool) → list_any (bytes_eq t) ts ≡ b → AreDistinct (cond b ts (ts ++ t ∷ []))
    go true e = distinct
    go false e = distinct_push ts t distinct e

get_before : (ts us : List (List ℕ)) (n : ℕ) → n < length ts → (n < length (ts ++ us)) × (text_of (ts ++ us) n ≡ text_of ts n)
get_before [] us n below = absurd (omega arith)
get_before (t ∷ ts) us zero below = (omega arith, refl)
get_before (t ∷ ts) us (suc n) below = let h = get_before ts us n (omega arith) in (omega (arith, h.0), h.1)

-- the next table keeps every name's text
pub grows_with : (ts : List (List ℕ)) (t : List ℕ) → Grows ts (with_text ts t)
grows_with ts t = go (list_any (bytes_eq t) ts)
  where
    go : (b : Bool) → Grows ts (cond b ts (ts ++ t ∷ []))
    go true n below = (below, refl)
    go false n below = get_before ts (t ∷ []) n below

-- a table that stays is a later one
pub grows_same : (ts us : List (List ℕ)) → us ≡ ts → Grows ts us
grows_same ts us e n below = rw e (below, refl)

pub grows_on : (ts us vs : List (List ℕ)) → Grows ts us → Grows us vs → Grows ts vs
grows_on ts us vs g h n below = let at = g n below in let later = h n at.0 in (later.0, later.1 ∙ at.1)

seen_place : {K : Type 0} (view : K → List ℕ) (ks : List K) (i : ℕ) (k : K) (t : List ℕ) → slice_get ks i ≡ Some k → t ≡ view k → slice_get (map view ks) i ≡ Some t
seen_place view [] i k t e same = cc
seen_place view (x ∷ ks) zero k t e same = let h : x ≡ k = cc in ap Some (ap view h ∙ sym same)
seen_place view (x ∷ ks) (suc i) k t e same = seen_place view ks i k t e same

-- a key's text is that of its place
pub seen_at : {K : Type 0} (view : K → List ℕ) (ks : List K) (i : ℕ) (k : K) (t : List ℕ) → slice_get ks i ≡ Some k → t ≡ view k → (i < length (map view ks)) × (text_of (map view ks) i ≡ t)
seen_at view ks i k t e same =
    let at = seen_place view ks i k t e same in
    (slice_get_within (map view ks) i t at, get_or_from_slice_get (map view ks) i t [] at)
