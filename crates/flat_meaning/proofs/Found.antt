-- Distinct names are found at their places.
use Rattle.std.proofs.Common.{◌≡◌, ◌∙◌, ℕ, zero, suc, ◌+◌, List, [], ◌∷◌, Bool, true, false, Option, Some, None, slice_get, refl, sym, ap, subst, arith, if◌then◌else◌}
use Rattle.std.specs.List.{Contains}
use Rattle.std.specs.Str.{bytes_eq}
use Rattle.std.proofs.lemmas.Slice.Eq.{bytes_eq-Decides}
use Rattle.mz_instance.specs.Parts.{Sort}
use Rattle.fz_program.specs.Names.{Name}
use Rattle.fz_program.specs.Flat.{Variable, ArrayItem, AreDistinct, labels_of, array_labels}
use Rattle.flat_meaning.specs.Reading.{is_shown, shown_from, item_named}

equal_name : (x : Name) → bytes_eq x x ≡ true
equal_name x = (bytes_eq-Decides x x).1 refl

unequal_name : (x y : Name) → (x ≡ y → ⊥) → bytes_eq x y ≡ false
unequal_name x y different = by (bytes_eq x y) refl
  where
    by : (b : Bool) → bytes_eq x y ≡ b → b ≡ false
    by true e = absurd (different ((bytes_eq-Decides x y).0 e))
    by false e = refl

contained : {A : Type 0} (xs : List A) (k : ℕ) (x : A) → slice_get xs k ≡ Some x → Contains xs x
contained [] k x at = absurd (cc)
contained (y ∷ xs) zero x at = let e : y ≡ x = cc in subst (Contains (y ∷ xs)) e (0, omega arith, refl)
contained (y ∷ xs) (suc k) x at = deeper (contained xs k x at)
  where
    deeper : Contains xs x → Contains (y ∷ xs) x
    deeper (j, below, there) = (suc j, omega (arith, below), there)

label_at : (vs : List Variable) (k : ℕ) (v : Variable) → slice_get vs k ≡ Some v → slice_get (labels_of vs) k ≡ Some v.label
label_at [] k v at = absurd (cc)
label_at (w ∷ vs) zero v at = let e : w ≡ v = cc in ap (λ (v : Variable). Some v.label) e
label_at (w ∷ vs) (suc k) v at = label_at vs k v at

pub variables_found : (sort : Sort) (vs : List Variable) (j k : ℕ) (v : Variable) → AreDistinct (labels_of vs) → slice_get vs k ≡ Some v → is_shown sort v ≡ true → shown_from sort v.label j vs ≡ Some (j + k)
variables_found sort [] j k v distinct at shown = absurd (cc)
variables_found sort (w ∷ vs) j zero v distinct at shown =
    let e : w ≡ v = cc in
    let same : bytes_eq v.label w.label ≡ true = ap (λ (w : Variable). bytes_eq v.label w.label) e ∙ equal_name v.label in
    let there : is_shown sort w ≡ true = ap (is_shown sort) e ∙ shown in
    rw (same, there) (ap (λ n. Some n) (omega arith))
variables_found sort (w ∷ vs) j (suc k) v distinct at shown =
    let other : v.label ≡ w.label → ⊥ = λ e. distinct.0 (subst (Contains (labels_of vs)) e (contained (labels_of vs) k v.label (label_at vs k v at))) in
    rw (unequal_name v.label w.label other) (variables_found sort vs (suc j) k v distinct.1 at shown ∙ ap (λ n. Some n) (omega arith))

item_label_at : (items : List ArrayItem) (k : ℕ) (a : ArrayItem) → slice_get items k ≡ Some a → slice_get (array_labels items) k ≡ Some a.label
item_label_at [] k a at = absurd (cc)
item_label_at (b ∷ items) zero a at = let e : b ≡ a = cc in ap (λ (z : ArrayItem). Some z.label) e
item_label_at (b ∷ items) (suc k) a at = item_label_at items k a at

pub items_found : (items : List ArrayItem) (k : ℕ) (a : ArrayItem) → AreDistinct (array_labels items) → slice_get items k ≡ Some a → item_named items a.label ≡ Some a
items_found [] k a distinct at = absurd (cc)
items_found (b ∷ items) zero a distinct at =
    let e : b ≡ a = cc in
    let same : bytes_eq a.label b.label ≡ true = ap (λ (z : ArrayItem). bytes_eq a.label z.label) e ∙ equal_name a.label in
    rw (same) (ap (λ z. Some z) e)
items_found (b ∷ items) (suc k) a distinct at =
    let other : a.label ≡ b.label → ⊥ = λ e. distinct.0 (subst (Contains (array_labels items)) e (contained (array_labels items) k a.label (item_label_at items k a at))) in
    rw (unequal_name a.label b.label other) (items_found items k a distinct.1 at)
