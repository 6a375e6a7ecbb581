-- What is known of a model when its types are typed, and what stands last in it.
use Rattle.std.proofs.Common.{◌≡◌, ◌∙◌, ℕ, zero, suc, ◌<◌, List, [], ◌∷◌, length, map, get_or, refl, sym, ap, subst, arith}
use Rattle.std.specs.Prelude.{All}
use Rattle.std.proofs.lemmas.List.Elements.{All-head, All-tail}
use Rattle.mz_scope_order.specs.Scoped.{ScopedTree}
use Rattle.mz_scope_order.specs.Subjects.{Subject, IsOrderOf}
use Rattle.mz_check_meaning.specs.Models.{Model}
use Rattle.mz_check_meaning.specs.Headings.{with_types}
use Rattle.mz_check_meaning.specs.Checks.{untyped}
use Rattle.mz_check_exprs.specs.NamedModels.{AreNamed}
use Rattle.mz_check_exprs.specs.NewSubjects.{AreNew}
use Rattle.mz_check_exprs.proofs.New.{all_new, texts_kept}

untyped_texts : (texts : List (List ℕ)) (s : ScopedTree) → (untyped texts s).texts ≡ texts
unfolding untyped
untyped_texts texts s = refl

no_types : (texts : List (List ℕ)) (s : ScopedTree) → (untyped texts s).types ≡ []
unfolding untyped
no_types texts s = refl

no_headings : (texts : List (List ℕ)) (s : ScopedTree) → (untyped texts s).headings ≡ []
unfolding untyped
no_headings texts s = refl

-- an order's subjects have no types at first
pub order_new : (texts : List (List ℕ)) (s : ScopedTree) (m : Model) (order : List Subject) → m ≡ untyped texts s → IsOrderOf s order → AreNew m order
order_new texts s m order is o = all_new m order (ap (λ n. n.types) is ∙ no_types texts s) (ap (λ n. n.headings) is ∙ no_headings texts s) o.once

pub named_at_first : (texts : List (List ℕ)) (s : ScopedTree) (m : Model) → m ≡ untyped texts s → AreNamed (length texts) s → AreNamed (length m.texts) s
named_at_first texts s m is named = subst (λ t. AreNamed (length t) s) (sym (ap (λ n. n.texts) is ∙ untyped_texts texts s)) named

types_keep_texts : (s : ScopedTree) (m : Model) (order : List Subject) → (with_types s m order).texts ≡ m.texts
unfolding with_types
types_keep_texts s m [] = refl
types_keep_texts s m (x ∷ xs) = types_keep_texts s (with_types s m (x ∷ [])) xs ∙ texts_kept s m x

-- the names are those of the table when the types are typed, too
pub named_then : (s : ScopedTree) (m next : Model) (order : List Subject) → next ≡ with_types s m order → AreNamed (length m.texts) s → AreNamed (length next.texts) s
named_then s m next order is named = subst (λ t. AreNamed (length t) s) (sym (ap (λ n. n.texts) is ∙ types_keep_texts s m order)) named

last_of : {A B : Type 0} (P : B → Type 0) (f : A → B) (xs : List A) (i : ℕ) (d : A) → All P (map f xs) → i < length xs → P (f (get_or xs i d))
last_of P f [] i d all within = absurd (omega (arith, within))
last_of P f (x ∷ xs) zero d all within = All-head P (f x) (map f xs) all
last_of P f (x ∷ xs) (suc i) d all within = last_of P f xs i d (All-tail P (f x) (map f xs) all) (omega (arith, within))

-- an element of a list of which each has the kind
pub at_place : {A B : Type 0} (P : B → Type 0) (f : A → B) (xs ys : List A) (i : ℕ) (x : A) → x ≡ get_or xs i x → xs ≡ ys → All P (map f ys) → i < length xs → P (f x)
at_place P f xs ys i x is same all within = subst (λ y. P (f y)) (sym is) (last_of P f xs i x (subst (λ zs. All P (map f zs)) (sym same) all) within)

-- the same of the place in the list
pub last_in : {A B : Type 0} (P : B → Type 0) (f : A → B) (xs ys : List A) (i : ℕ) (d : A) → xs ≡ ys → All P (map f ys) → i < length xs → P (f (get_or xs i d))
last_in P f xs ys i d same all within = last_of P f xs i d (subst (λ zs. All P (map f zs)) (sym same) all) within
