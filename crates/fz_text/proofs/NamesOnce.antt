-- Names that are new one after the other are those of which none stands twice.
use Rattle.std.proofs.Common.{◌≡◌, zero, suc, List, [], ◌∷◌, ◌++◌, Bool, true, false, not, refl, sym, subst, ◌∙◌, arith, append_assoc, Contains}
use Rattle.std.specs.Prelude.{◌&&◌, ◌||◌}
use Rattle.std.specs.Str.{bytes_eq}
use Rattle.std.proofs.lemmas.Bool.{false≢true}
use Rattle.std.proofs.lemmas.List.{append-nil}
use Rattle.std.proofs.lemmas.Slice.Eq.{bytes_eq-Decides}
use Rattle.fz_program.specs.Names.{Name}
use Rattle.fz_program.specs.Flat.{AreDistinct}
use Rattle.fz_text_read.specs.Tables.{are_new, is_among}

contains_more : (y x : Name) (xs : List Name) → Contains xs x → Contains (y ∷ xs) x
contains_more y x xs h = (suc h.0, omega (arith, h.1), h.2)

among_contains : (names : List Name) (x : Name) → is_among names x ≡ true → Contains names x
among_contains [] x e = absurd (false≢true e)
among_contains (y ∷ names) x e = by (bytes_eq x y) refl (among_contains names x) e
  where
    by : (t : Bool) → bytes_eq x y ≡ t → (is_among names x ≡ true → Contains names x) → (t || is_among names x) ≡ true → Contains (y ∷ names) x
    by true is rest h = (0, omega arith, sym ((bytes_eq-Decides x y).0 is))
    by false is rest h = contains_more y x names (rest h)

neither_left : (a b : Bool) → (a || b) ≡ false → a ≡ false
neither_left true b h = h
neither_left false b h = refl

neither_right : (a b : Bool) → (a || b) ≡ false → b ≡ false
neither_right true b h = absurd (false≢true (sym h))
neither_right false b h = h

contains_among : (names : List Name) (x : Name) → is_among names x ≡ false → Contains names x → ⊥
contains_among [] x e h = omega (arith, h.1)
contains_among (y ∷ names) x e (zero, below, at) = absurd (false≢true (sym (neither_left (bytes_eq x y) (is_among names x) e) ∙ (bytes_eq-Decides x y).1 (sym at)))
contains_among (y ∷ names) x e (suc k, below, at) = contains_among names x (neither_right (bytes_eq x y) (is_among names x) e) (k, omega arith, at)

middle : (xs : List Name) (x : Name) (ys : List Name) → Contains (xs ++ x ∷ ys) x
middle [] x ys = (0, omega arith, refl)
middle (y ∷ xs) x ys = contains_more y x (xs ++ x ∷ ys) (middle xs x ys)

-- a name after others isn't one of them
apart : (names : List Name) (x : Name) (xs : List Name) → AreDistinct (names ++ x ∷ xs) → Contains names x → ⊥
apart [] x xs d h = omega (arith, h.1)
apart (y ∷ names) x xs d (zero, below, at) = d.0 (subst (Contains (names ++ x ∷ xs)) (sym at) (middle names x xs))
apart (y ∷ names) x xs d (suc k, below, at) = apart names x xs d.1 (k, omega arith, at)

not_among : (names : List Name) (x : Name) → (Contains names x → ⊥) → is_among names x ≡ false
not_among names x differ = by (is_among names x) refl
  where
    by : (t : Bool) → is_among names x ≡ t → is_among names x ≡ false
    by false e = e
    by true e = absurd (differ (among_contains names x e))

pub distinct_are_new : (names xs : List Name) → AreDistinct (names ++ xs) → are_new names xs ≡ true
unfolding are_new
distinct_are_new names [] d = refl
distinct_are_new names (x ∷ xs) d =
    rw (not_among names x (apart names x xs d)) (distinct_are_new (names ++ x ∷ []) xs (subst AreDistinct (sym (append_assoc names (x ∷ []) xs)) d))

one_of_more : (xs : List Name) (x y : Name) → Contains (xs ++ x ∷ []) y → (Contains xs y → ⊥) → (x ≡ y → ⊥) → ⊥
one_of_more [] x y (zero, below, at) a b = b at
one_of_more [] x y (suc k, below, at) a b = omega arith
one_of_more (z ∷ xs) x y (zero, below, at) a b = a (0, omega arith, at)
one_of_more (z ∷ xs) x y (suc k, below, at) a b = one_of_more xs x y (k, omega arith, at) (λ h. a (contains_more z y xs h)) b

distinct_push : (names : List Name) (x : Name) → AreDistinct names → (Contains names x → ⊥) → AreDistinct (names ++ x ∷ [])
distinct_push [] x d n = (λ h. omega (arith, h.1), tt)
distinct_push (y ∷ names) x d n =
    (λ h. one_of_more names x y h d.0 (λ e. n (0, omega arith, sym e)), distinct_push names x d.1 (λ h. n (contains_more y x names h)))

new_are_distinct : (names xs : List Name) → AreDistinct names → are_new names xs ≡ true → AreDistinct (names ++ xs)
unfolding are_new
new_are_distinct names [] d e = subst AreDistinct (sym (append-nil names)) d
new_are_distinct names (x ∷ xs) d e = by (is_among names x) refl (λ n h. new_are_distinct (names ++ x ∷ []) xs (distinct_push names x d n) h) e
  where
    by : (t : Bool) → is_among names x ≡ t → ((Contains names x → ⊥) → are_new (names ++ x ∷ []) xs ≡ true → AreDistinct ((names ++ x ∷ []) ++ xs)) → (not t && are_new (names ++ x ∷ []) xs) ≡ true → AreDistinct (names ++ x ∷ xs)
    by true is rest h = absurd (false≢true h)
    by false is rest h = subst AreDistinct (append_assoc names (x ∷ []) xs) (rest (contains_among names x is) h)

pub new_names : (xs : List Name) → are_new [] xs ≡ true → AreDistinct xs
new_names xs e = new_are_distinct [] xs tt e
