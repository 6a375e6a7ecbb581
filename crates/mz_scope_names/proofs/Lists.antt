-- Lists of parts, read one by one.
use Rattle.std.proofs.Common.{◌≡◌, ℕ, ◌+◌, ◌<◌, ◌≤◌, List, [], ◌∷◌, ◌++◌, refl, ap, sym, ◌∙◌, map, length, drop, get_or, append_assoc, append-nil, Result, OnOk}
use Rattle.std.proofs.lemmas.Result.{on_ok_weaker}
use Rattle.std.specs.List.{flat_map}
use Rattle.std.proofs.lemmas.List.{drop_more, drop_all}
use Rattle.mz_tree.specs.Tree as pure
use Rattle.mz_tree.specs.Tree.{Tree, Part, Generator, Let, Based}
use Rattle.mz_tree.specs.declared.expr.PlacedOp.{PlacedOp}
use Rattle.mz_scope_names.specs.declared.occurrence.Occurrence.{Occurrence}
use Rattle.mz_tree.specs.declared.expr.Decl.{Decl}
use Rattle.mz_tree.specs.Views.{declaration}
use Rattle.mz_scope_names.specs.Occurrences.{in_parameter, in_tree, in_trees, in_links, in_rows, in_branches, in_part, in_parts, in_generator, in_gens, in_let, in_lets, in_based, in_bases}

pub trees_flat : {X : Type 0} (f : X → Tree) (xs : List X) → in_trees (pure.trees (map f xs)) ≡ flat_map (λ x. in_tree (f x)) xs
unfolding in_tree
trees_flat f [] = refl
trees_flat f (x ∷ xs) = ap (λ z. in_tree (f x) ++ z) (trees_flat f xs)

pub links_flat : {X : Type 0} (f : X → PlacedOp × Tree) (xs : List X) → in_links (pure.links (map f xs)) ≡ flat_map (λ x. in_tree (f x).1) xs
unfolding in_tree
links_flat f [] = refl
links_flat f (x ∷ xs) = ap (λ z. in_tree (f x).1 ++ z) (links_flat f xs)

pub rows_flat : {X : Type 0} (f : X → List Tree) (xs : List X) → in_rows (pure.rows_of (map f xs)) ≡ flat_map (λ x. in_trees (pure.trees (f x))) xs
unfolding in_tree
rows_flat f [] = refl
rows_flat f (x ∷ xs) = ap (λ z. in_trees (pure.trees (f x)) ++ z) (rows_flat f xs)

pub branches_flat : {X : Type 0} (f : X → Tree × Tree) (xs : List X) → in_branches (pure.branches (map f xs)) ≡ flat_map (λ x. in_tree (f x).0 ++ in_tree (f x).1) xs
unfolding in_tree
branches_flat f [] = refl
branches_flat f (x ∷ xs) = ap (λ z. (in_tree (f x).0 ++ in_tree (f x).1) ++ z) (branches_flat f xs)

pub parts_flat : {X : Type 0} (f : X → Part) (xs : List X) → in_parts (pure.parts (map f xs)) ≡ flat_map (λ x. in_part (f x)) xs
unfolding in_tree
parts_flat f [] = refl
parts_flat f (x ∷ xs) = ap (λ z. in_part (f x) ++ z) (parts_flat f xs)

pub gens_flat : {X : Type 0} (f : X → Generator) (xs : List X) → in_gens (pure.gens (map f xs)) ≡ flat_map (λ x. in_generator (f x)) xs
unfolding in_tree
gens_flat f [] = refl
gens_flat f (x ∷ xs) = ap (λ z. in_generator (f x) ++ z) (gens_flat f xs)

pub lets_flat : {X : Type 0} (f : X → Let) (xs : List X) → in_lets (pure.lets (map f xs)) ≡ flat_map (λ x. in_let (f x)) xs
unfolding in_tree
lets_flat f [] = refl
lets_flat f (x ∷ xs) = ap (λ z. in_let (f x) ++ z) (lets_flat f xs)

pub bases_flat : {X : Type 0} (f : X → Based) (xs : List X) → in_bases (pure.bases (map f xs)) ≡ flat_map (λ x. in_based (f x)) xs
unfolding in_tree
bases_flat f [] = refl
bases_flat f (x ∷ xs) = ap (λ z. in_based (f x) ++ z) (bases_flat f xs)

pub flat_of_both : {X Y : Type 0} (f : X → List Y) (g h : List X) → flat_map f (g ++ h) ≡ flat_map f g ++ flat_map f h
flat_of_both f [] h = refl
flat_of_both f (x ∷ g) h = ap (λ z. f x ++ z) (flat_of_both f g h) ∙ sym (append_assoc (f x) (flat_map f g) (flat_map f h))

-- a loop over a list takes a step, and ends
pub one_read : {X Y : Type 0} (f : X → List Y) (xs : List X) (i : ℕ) (x : X) (old out now : List Y) → old ++ flat_map f xs ≡ out ++ flat_map f (drop i xs) → i < length xs → x ≡ get_or xs i x → now ≡ out ++ f x → old ++ flat_map f xs ≡ now ++ flat_map f (drop (i + 1) xs)
one_read {Y = Y} f xs i x old out now k h e g =
    let rest : List Y = flat_map f (drop (i + 1) xs) in
    k ∙ ap (λ z. out ++ flat_map f z) (drop_more xs i x h) ∙ ap (λ z. out ++ (f z ++ rest)) (sym e) ∙ sym (append_assoc out (f x) rest) ∙ ap (λ z. z ++ rest) (sym g)

pub all_read : {X Y : Type 0} (f : X → List Y) (xs : List X) (i : ℕ) (old out all : List Y) → old ++ flat_map f xs ≡ out ++ flat_map f (drop i xs) → length xs ≤ i → all ≡ flat_map f xs → out ≡ old ++ all
all_read f xs i old out all e h is =
    sym (append-nil out) ∙ sym (e ∙ ap (λ z. out ++ flat_map f z) (drop_all i xs h)) ∙ ap (λ z. old ++ z) (sym is)

pub flat_mapped : {X Y Z : Type 0} (f : Y → List Z) (g : X → Y) (xs : List X) → flat_map f (map g xs) ≡ flat_map (λ x. f (g x)) xs
flat_mapped f g [] = refl
flat_mapped f g (x ∷ xs) = ap (λ z. f (g x) ++ z) (flat_mapped f g xs)

pub function_read : {T E : Type 0} (r : Result T E) (old one two three four a b d : List Occurrence) (ps qs : List Decl) → one ≡ old ++ a → two ≡ one ++ b → three ≡ two ++ flat_map (λ p. in_parameter (declaration p)) ps → ps ≡ qs → OnOk r (four ≡ three ++ d) → OnOk r (four ≡ old ++ (a ++ (b ++ (flat_map in_parameter (map declaration qs) ++ d))))
function_read answer old one two three four a b d ps qs p q r e last =
    let c : List Occurrence = flat_map in_parameter (map declaration qs) in
    let is : flat_map (λ x. in_parameter (declaration x)) ps ≡ c = ap (λ z. flat_map (λ x. in_parameter (declaration x)) z) e ∙ sym (flat_mapped in_parameter declaration qs) in
    on_ok_weaker answer (λ s. s ∙ ap (λ z. z ++ d) (r ∙ ap (λ z. two ++ z) is) ∙ ap (λ z. (z ++ c) ++ d) (q ∙ ap (λ z. z ++ b) p)
    ∙ append_assoc ((old ++ a) ++ b) c d ∙ append_assoc (old ++ a) b (c ++ d) ∙ append_assoc old a (b ++ (c ++ d))) last
