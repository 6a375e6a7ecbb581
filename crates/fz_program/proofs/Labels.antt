-- The names of a program's variables.
use Rattle.std.proofs.Common.{◌≡◌, ℕ, zero, suc, ◌<◌, List, [], ◌∷◌, ◌++◌, length, get_or, map, ap, ◌∙◌, string_bytes, rules, arith, inl, inr}
use Rattle.std.specs.Prelude.{◌⊎◌}
use Rattle.std.specs.List.{AllByRecursion, Contains}
use Rattle.std.proofs.lemmas.List.{get_or-map, length-map}
use Rattle.fz_program.specs.Names.{Name}
use Rattle.fz_program.specs.declared.program.FzVar.{FzVar}
use Rattle.fz_program.specs.declared.program.FzArray.{FzArray}
use Rattle.fz_program.specs.Flat.{variable, labels_of, array_item, array_labels}

-- the name at a place is that of the variable there
pub label_or_is : (vars : List FzVar) (k : ℕ) (e : Name) (d : FzVar) → k < length vars → get_or (labels_of (map variable vars)) k e ≡ string_bytes (get_or vars k d).label.text
label_or_is vars k e d h = get_or-map (λ v. v.label) (map variable vars) k (variable d) e (search (rules, length-map)) ∙ ap (λ v. v.label) (get_or-map variable vars k d (variable d) h)

-- no variable has the name
pub lacks_label : (vars : List FzVar) (x : Name) → AllByRecursion (λ v. string_bytes v.label.text ≡ x → ⊥) vars → (k : ℕ) → k < length (labels_of (map variable vars)) → get_or (labels_of (map variable vars)) k x ≡ x → ⊥
lacks_label [] x a k h e = absurd (omega arith)
lacks_label (v ∷ vs) x a zero h e = a.0 e
lacks_label (v ∷ vs) x a (suc k) h e = lacks_label vs x a.1 k (omega arith) e

-- the same of arrays
pub array_label_is : (arrays : List FzArray) (k : ℕ) (e : Name) (d : FzArray) → k < length arrays → get_or (array_labels (map array_item arrays)) k e ≡ string_bytes (get_or arrays k d).label.text
array_label_is arrays k e d h = get_or-map (λ v. v.label) (map array_item arrays) k (array_item d) e (search (rules, length-map)) ∙ ap (λ v. v.label) (get_or-map array_item arrays k d (array_item d) h)

pub lacks_array_label : (arrays : List FzArray) (x : Name) → AllByRecursion (λ v. string_bytes v.label.text ≡ x → ⊥) arrays → (k : ℕ) → k < length (array_labels (map array_item arrays)) → get_or (array_labels (map array_item arrays)) k x ≡ x → ⊥
lacks_array_label [] x a k h e = absurd (omega arith)
lacks_array_label (v ∷ vs) x a zero h e = a.0 e
lacks_array_label (v ∷ vs) x a (suc k) h e = lacks_array_label vs x a.1 k (omega arith) e

-- a name stands in two lists, one after the other, where it stands in one of them
pub contains_both : (xs ys : List Name) (x : Name) → (Contains xs x ⊎ Contains ys x) → Contains (xs ++ ys) x
contains_both [] ys x (inl h) = absurd (omega (arith, h.1))
contains_both [] ys x (inr h) = h
contains_both (z ∷ xs) ys x (inl (zero, below, at)) = (zero, omega arith, at)
contains_both (z ∷ xs) ys x (inl (suc k, below, at)) = let r = contains_both xs ys x (inl (k, omega arith, at)) in (suc r.0, omega (arith, r.1), r.2)
contains_both (z ∷ xs) ys x (inr h) = let r = contains_both xs ys x (inr h) in (suc r.0, omega (arith, r.1), r.2)

pub contains_one : (xs ys : List Name) (x : Name) → Contains (xs ++ ys) x → Contains xs x ⊎ Contains ys x
contains_one [] ys x h = inr h
contains_one (z ∷ xs) ys x (zero, below, at) = inl (zero, omega arith, at)
contains_one (z ∷ xs) ys x (suc k, below, at) = elim (contains_one xs ys x (k, omega arith, at)) [ inl l ↦ inl (suc l.0, omega (arith, l.1), l.2) | inr r ↦ inr r ]
