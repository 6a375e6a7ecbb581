-- What the items of a list use, one after the other: where all are under the same hidden names, and where each hides more.
use Rattle.std.proofs.Common.{◌≡◌, ℕ, ◌+◌, ◌<◌, ◌≤◌, List, [], ◌∷◌, ◌++◌, refl, ap, sym, ◌∙◌, map, length, drop, get_or, append_assoc, append-nil}
use Rattle.std.specs.List.{flat_map}
use Rattle.std.proofs.lemmas.List.{drop_more, drop_all}
use Rattle.mz_base.specs.declared.fault.Span.{Span}
use Rattle.mz_tree.specs.declared.expr.PlacedOp.{PlacedOp}
use Rattle.mz_tree.specs.Tree as pure
use Rattle.mz_tree.specs.Tree.{Name, Tree, Part, Generator, Let, Based, Declaration}
use Rattle.mz_scope_names.specs.Sets.{with_name}
use Rattle.mz_scope_names.specs.declared.name_use.NameUse.{NameUse}
use Rattle.mz_scope_names.specs.Uses.{with_bound, with_generator, with_gens, with_let, with_lets, with_declaration, in_tree, in_trees, in_links, in_rows, in_branches, in_part, in_parts, in_generator, in_gens, in_let, in_lets, in_based, in_bases}
use Rattle.mz_scope_names.specs.Sketches.{in_parameter, in_parameters, with_parameters}

pub trees_flat : {X : Type 0} (h : List Name) (f : X → Tree) (xs : List X) → in_trees h (pure.trees (map f xs)) ≡ flat_map (λ x. in_tree h (f x)) xs
unfolding in_tree
trees_flat h f [] = refl
trees_flat h f (x ∷ xs) = ap (λ z. in_tree h (f x) ++ z) (trees_flat h f xs)

pub links_flat : {X : Type 0} (h : List Name) (f : X → PlacedOp × Tree) (xs : List X) → in_links h (pure.links (map f xs)) ≡ flat_map (λ x. in_tree h (f x).1) xs
unfolding in_tree
links_flat h f [] = refl
links_flat h f (x ∷ xs) = ap (λ z. in_tree h (f x).1 ++ z) (links_flat h f xs)

pub rows_flat : {X : Type 0} (h : List Name) (f : X → List Tree) (xs : List X) → in_rows h (pure.rows_of (map f xs)) ≡ flat_map (λ x. in_trees h (pure.trees (f x))) xs
unfolding in_tree
rows_flat h f [] = refl
rows_flat h f (x ∷ xs) = ap (λ z. in_trees h (pure.trees (f x)) ++ z) (rows_flat h f xs)

pub branches_flat : {X : Type 0} (h : List Name) (f : X → Tree × Tree) (xs : List X) → in_branches h (pure.branches (map f xs)) ≡ flat_map (λ x. in_tree h (f x).0 ++ in_tree h (f x).1) xs
unfolding in_tree
branches_flat h f [] = refl
branches_flat h f (x ∷ xs) = ap (λ z. (in_tree h (f x).0 ++ in_tree h (f x).1) ++ z) (branches_flat h f xs)

pub parts_flat : {X : Type 0} (h : List Name) (f : X → Part) (xs : List X) → in_parts h (pure.parts (map f xs)) ≡ flat_map (λ x. in_part h (f x)) xs
unfolding in_tree
parts_flat h f [] = refl
parts_flat h f (x ∷ xs) = ap (λ z. in_part h (f x) ++ z) (parts_flat h f xs)

pub bases_flat : {X : Type 0} (h : List Name) (f : X → Based) (xs : List X) → in_bases h (pure.bases (map f xs)) ≡ flat_map (λ x. in_based h (f x)) xs
unfolding in_tree
bases_flat h f [] = refl
bases_flat h f (x ∷ xs) = ap (λ z. in_based h (f x) ++ z) (bases_flat h f xs)

-- a loop over a list under the same hidden names
pub one_read : {X : Type 0} (f : X → List NameUse) (xs : List X) (i : ℕ) (x : X) (old out now : List NameUse) → old ++ flat_map f xs ≡ out ++ flat_map f (drop i xs) → i < length xs → x ≡ get_or xs i x → now ≡ out ++ f x → old ++ flat_map f xs ≡ now ++ flat_map f (drop (i + 1) xs)
one_read f xs i x old out now k h e g =
    let rest : List NameUse = flat_map f (drop (i + 1) xs) in
    k ∙ ap (λ z. out ++ flat_map f z) (drop_more xs i x h) ∙ ap (λ z. out ++ (f z ++ rest)) (sym e) ∙ sym (append_assoc out (f x) rest) ∙ ap (λ z. z ++ rest) (sym g)

pub all_read : {X : Type 0} (f : X → List NameUse) (xs : List X) (i : ℕ) (old out all : List NameUse) → old ++ flat_map f xs ≡ out ++ flat_map f (drop i xs) → length xs ≤ i → all ≡ flat_map f xs → out ≡ old ++ all
all_read f xs i old out all e h is =
    sym (append-nil out) ∙ sym (e ∙ ap (λ z. out ++ flat_map f z) (drop_all i xs h)) ∙ ap (λ z. old ++ z) (sym is)

-- generators and the items of a `let`, each of which hides more
pub gens_from : {X : Type 0} (h : List Name) (f : X → Generator) (xs : List X) (i : ℕ) (x : X) → i < length xs → x ≡ get_or xs i x → in_gens h (pure.gens (map f (drop i xs))) ≡ in_generator h (f x) ++ in_gens (with_generator h (f x)) (pure.gens (map f (drop (i + 1) xs)))
unfolding in_tree
gens_from h f xs i x l e = ap (λ z. in_gens h (pure.gens (map f z))) (drop_more xs i x l ∙ ap (λ z. z ∷ drop (i + 1) xs) (sym e))

pub with_gens_from : {X : Type 0} (h : List Name) (f : X → Generator) (xs : List X) (i : ℕ) (x : X) → i < length xs → x ≡ get_or xs i x → with_gens h (pure.gens (map f (drop i xs))) ≡ with_gens (with_generator h (f x)) (pure.gens (map f (drop (i + 1) xs)))
unfolding with_gens
with_gens_from h f xs i x l e = ap (λ z. with_gens h (pure.gens (map f z))) (drop_more xs i x l ∙ ap (λ z. z ∷ drop (i + 1) xs) (sym e))

pub lets_from : {X : Type 0} (h : List Name) (f : X → Let) (xs : List X) (i : ℕ) (x : X) → i < length xs → x ≡ get_or xs i x → in_lets h (pure.lets (map f (drop i xs))) ≡ in_let h (f x) ++ in_lets (with_let h (f x)) (pure.lets (map f (drop (i + 1) xs)))
unfolding in_tree
lets_from h f xs i x l e = ap (λ z. in_lets h (pure.lets (map f z))) (drop_more xs i x l ∙ ap (λ z. z ∷ drop (i + 1) xs) (sym e))

pub with_lets_from : {X : Type 0} (h : List Name) (f : X → Let) (xs : List X) (i : ℕ) (x : X) → i < length xs → x ≡ get_or xs i x → with_lets h (pure.lets (map f (drop i xs))) ≡ with_lets (with_let h (f x)) (pure.lets (map f (drop (i + 1) xs)))
unfolding with_lets
with_lets_from h f xs i x l e = ap (λ z. with_lets h (pure.lets (map f z))) (drop_more xs i x l ∙ ap (λ z. z ∷ drop (i + 1) xs) (sym e))

pub parameters_from : {X : Type 0} (h : List Name) (f : X → Declaration) (xs : List X) (i : ℕ) (x : X) → i < length xs → x ≡ get_or xs i x → in_parameters h (map f (drop i xs)) ≡ in_parameter h (f x) ++ in_parameters (with_declaration h (f x)) (map f (drop (i + 1) xs))
unfolding in_parameters
parameters_from h f xs i x l e = ap (λ z. in_parameters h (map f z)) (drop_more xs i x l ∙ ap (λ z. z ∷ drop (i + 1) xs) (sym e))

pub with_parameters_from : {X : Type 0} (h : List Name) (f : X → Declaration) (xs : List X) (i : ℕ) (x : X) → i < length xs → x ≡ get_or xs i x → with_parameters h (map f (drop i xs)) ≡ with_parameters (with_declaration h (f x)) (map f (drop (i + 1) xs))
unfolding with_parameters
with_parameters_from h f xs i x l e = ap (λ z. with_parameters h (map f z)) (drop_more xs i x l ∙ ap (λ z. z ∷ drop (i + 1) xs) (sym e))

pub bound_from : (h : List Name) (xs : List (Name × Span)) (i : ℕ) (x : Name × Span) → i < length xs → x ≡ get_or xs i x → with_bound h (drop i xs) ≡ with_bound (with_name h x.0) (drop (i + 1) xs)
unfolding with_bound
bound_from h xs i x l e = ap (λ z. with_bound h z) (drop_more xs i x l ∙ ap (λ z. z ∷ drop (i + 1) xs) (sym e))

-- a step of such a loop: what is used, of anything that `uses` and `after` describe
pub step : {H X : Type 0} (uses : H → List X → List NameUse) (one : H → X → List NameUse) (after : H → X → H) (xs : List X) (i : ℕ) (x : X) (h hidden : H) (all out now : List NameUse) → uses h (drop i xs) ≡ one h x ++ uses (after h x) (drop (i + 1) xs) → all ≡ out ++ uses h (drop i xs) → now ≡ out ++ one h x → hidden ≡ after h x → all ≡ now ++ uses hidden (drop (i + 1) xs)
step uses one after xs i x h hidden all out now u k g e =
    k ∙ ap (λ z. out ++ z) u ∙ sym (append_assoc out (one h x) (uses (after h x) (drop (i + 1) xs))) ∙ ap (λ z. z ++ uses (after h x) (drop (i + 1) xs)) (sym g) ∙ ap (λ z. now ++ uses z (drop (i + 1) xs)) (sym e)

-- such a loop ends
pub gens_read : {X : Type 0} (h : List Name) (f : X → Generator) (xs : List X) (i : ℕ) (all out : List NameUse) → all ≡ out ++ in_gens h (pure.gens (map f (drop i xs))) → length xs ≤ i → out ≡ all
unfolding in_tree
gens_read h f xs i all out k l = sym (k ∙ ap (λ z. out ++ in_gens h (pure.gens (map f z))) (drop_all i xs l) ∙ append-nil out)

pub with_gens_read : {X : Type 0} (h : List Name) (f : X → Generator) (xs : List X) (i : ℕ) (all : List Name) → all ≡ with_gens h (pure.gens (map f (drop i xs))) → length xs ≤ i → h ≡ all
unfolding with_gens
with_gens_read h f xs i all k l = sym (k ∙ ap (λ z. with_gens h (pure.gens (map f z))) (drop_all i xs l))

pub lets_read : {X : Type 0} (h : List Name) (f : X → Let) (xs : List X) (i : ℕ) (all out : List NameUse) → all ≡ out ++ in_lets h (pure.lets (map f (drop i xs))) → length xs ≤ i → out ≡ all
unfolding in_tree
lets_read h f xs i all out k l = sym (k ∙ ap (λ z. out ++ in_lets h (pure.lets (map f z))) (drop_all i xs l) ∙ append-nil out)

pub with_lets_read : {X : Type 0} (h : List Name) (f : X → Let) (xs : List X) (i : ℕ) (all : List Name) → all ≡ with_lets h (pure.lets (map f (drop i xs))) → length xs ≤ i → h ≡ all
unfolding with_lets
with_lets_read h f xs i all k l = sym (k ∙ ap (λ z. with_lets h (pure.lets (map f z))) (drop_all i xs l))

pub parameters_read : {X : Type 0} (h : List Name) (f : X → Declaration) (xs : List X) (i : ℕ) (all out : List NameUse) → all ≡ out ++ in_parameters h (map f (drop i xs)) → length xs ≤ i → out ≡ all
unfolding in_parameters
parameters_read h f xs i all out k l = sym (k ∙ ap (λ z. out ++ in_parameters h (map f z)) (drop_all i xs l) ∙ append-nil out)

pub with_parameters_read : {X : Type 0} (h : List Name) (f : X → Declaration) (xs : List X) (i : ℕ) (all : List Name) → all ≡ with_parameters h (map f (drop i xs)) → length xs ≤ i → h ≡ all
unfolding with_parameters
with_parameters_read h f xs i all k l = sym (k ∙ ap (λ z. with_parameters h (map f z)) (drop_all i xs l))

pub bound_read : (h : List Name) (xs : List (Name × Span)) (i : ℕ) (all : List Name) → all ≡ with_bound h (drop i xs) → length xs ≤ i → h ≡ all
unfolding with_bound
bound_read h xs i all k l = sym (k ∙ ap (λ z. with_bound h z) (drop_all i xs l))
