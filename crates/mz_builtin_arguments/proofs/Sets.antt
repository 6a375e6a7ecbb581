-- What a set has, and what sets are equal, as tests.
use Rattle.std.proofs.Common.{◌≡◌, List, [], ◌∷◌, Bool, true, false, ◌&&◌, refl, sym, ap, ◌∙◌, inl, inr}
use Rattle.std.specs.Prelude.{ℤ, ◌↔◌, IsTrue, Result, Ok, Err, IfOk}
use Rattle.std.specs.List.{list_any}
use Rattle.mz_value.specs.Ranges.{Range, AreCanonical, Has, IsUnion, IsIntersection, IsDifference}
use Rattle.mz_value.proofs.Comparisons.{int_le_true}
use Rattle.std.specs.Cmp.Lexicographic.{pointwise}
use Rattle.std.specs.Ordering.{int_eq}
use Rattle.mz_operations.specs.Sets.{contains, is_within, same_set, union, intersection, difference}
use Rattle.mz_operations.specs.Laws.{IsSet}
use Rattle.mz_operations.proofs.SetMembers.{union_is, intersection_is, difference_is}
use Rattle.mz_operations.proofs.SetBounds.{contains_has}

within_true : (r : Range) (x : ℤ) → Has (r ∷ []) x → is_within r x ≡ true
within_true r x (inl p) = rw (int_le_true r.0 x p.0, int_le_true x r.1 p.1) refl
within_true r x (inr h) = absurd h

any_first : (r : Range) (rs : List Range) (x : ℤ) → is_within r x ≡ true → contains (r ∷ rs) x ≡ true
unfolding contains
any_first r rs x e = rw e refl

any_rest : (r : Range) (rs : List Range) (x : ℤ) → contains rs x ≡ true → contains (r ∷ rs) x ≡ true
unfolding contains
any_rest r rs x e = by (is_within r x) refl
  where
    by : (t : Bool) → is_within r x ≡ t → list_any (λ s. is_within s x) (r ∷ rs) ≡ true
    by true h = rw h refl
    by false h = rw (h, e) refl

has_contains : (s : List Range) (x : ℤ) → Has s x → contains s x ≡ true
has_contains [] x h = absurd h
has_contains (r ∷ rs) x (inl p) = any_first r rs x (within_true r x (inl p))
has_contains (r ∷ rs) x (inr h) = any_rest r rs x (has_contains rs x h)

pub contains_is : (s : List Range) (x : ℤ) (t : Bool) → IsTrue t ↔ Has s x → t ≡ contains s x
contains_is s x true h = sym (has_contains s x (h.0 refl))
contains_is s x false h = by (contains s x) refl
  where
    by : (u : Bool) → contains s x ≡ u → false ≡ contains s x
    by true e = absurd (let t = h.1 (contains_has s x e) in cc)
    by false e = sym e

pub contains_at : (s : List Range) (x y : ℤ) (t : Bool) → IsTrue t ↔ Has s y → y ≡ x → t ≡ contains s x
contains_at s x y t h e = contains_is s y t h ∙ ap (contains s) e

both_first : (a b c : Bool) → ((a && b) && c) ≡ (a && b && c)
both_first true b c = refl
both_first false b c = refl

pub same_lists : (f : Range → Range → Bool) → ((r s : Range) → f r s ≡ (int_eq r.0 s.0 && int_eq r.1 s.1)) → (a b : List Range) → pointwise f a b ≡ same_set a b
unfolding same_set
same_lists f is [] [] = refl
same_lists f is [] (s ∷ ss) = refl
same_lists f is (r ∷ rs) [] = refl
same_lists f is (r ∷ rs) (s ∷ ss) =
    ap (λ t. t && pointwise f rs ss) (is r s) ∙ ap (λ t. (int_eq r.0 s.0 && int_eq r.1 s.1) && t) (same_lists f is rs ss) ∙ both_first (int_eq r.0 s.0) (int_eq r.1 s.1) (same_set rs ss)

pub if_union : {E : Type 0} (r : Result (List Range) E) (a b : List Range) → IsSet a → IsSet b → IfOk r (IsUnion a b) → IfOk r AreCanonical → IfOk r (λ s. s ≡ union a b)
if_union (Err e) a b p q u c = tt
if_union (Ok s) a b p q u c = union_is a b s p q u c

pub if_intersection : {E : Type 0} (r : Result (List Range) E) (a b : List Range) → IsSet a → IsSet b → IfOk r (IsIntersection a b) → IfOk r AreCanonical → IfOk r (λ s. s ≡ intersection a b)
if_intersection (Err e) a b p q u c = tt
if_intersection (Ok s) a b p q u c = intersection_is a b s p q u c

pub if_difference : {E : Type 0} (r : Result (List Range) E) (a b : List Range) → IsSet a → IsSet b → IfOk r (IsDifference a b) → IfOk r AreCanonical → IfOk r (λ s. s ≡ difference a b)
if_difference (Err e) a b p q u c = tt
if_difference (Ok s) a b p q u c = difference_is a b s p q u c
