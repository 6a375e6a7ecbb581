-- A list of identifiers, read one by one.
use Rattle.std.proofs.lemmas.List.{drop_all}
use Rattle.std.proofs.Common.{◌≡◌, ℕ, zero, suc, ◌+◌, ◌<◌, ◌≤◌, List, [], ◌∷◌, ◌++◌, refl, ap, sym, ◌∙◌, map, length, drop, get_or, Option, Some, None, append_assoc, append-nil, arith}
use Rattle.std.specs.Option.{option_map}
use Rattle.mz_tree.specs.Tree.{Name}
use Rattle.mz_tree.specs.Data.{value, values}
use Rattle.mz_tree.specs.declared.data.Datum.{Datum}
use Rattle.mz_scope_names.specs.Given.{identifier, with_identifier, identifiers}

drop_next : {X : Type 0} (xs : List X) (i : ℕ) (x d : X) → i < length xs → x ≡ get_or xs i d → drop i xs ≡ x ∷ drop (suc i) xs
drop_next [] i x d h e = absurd (omega (arith, h))
drop_next (y ∷ xs) zero x d h e = ap (λ z. z ∷ xs) (sym e)
drop_next (y ∷ xs) (suc i) x d h e = drop_next xs i x d (omega (arith, h)) e

more : (so : List Name) (n : Name) (rest : Option (List Name)) → option_map (λ ns. so ++ ns) (with_identifier (Some n) rest) ≡ option_map (λ ns. (so ++ n ∷ []) ++ ns) rest
more so n None = refl
more so n (Some ns) = ap (λ z. Some z) (sym (append_assoc so (n ∷ []) ns))

next_is : (list : List Datum) (i : ℕ) (d : Datum) → i < length list → d ≡ get_or list i d → identifiers (values (map value (drop i list))) ≡ with_identifier (identifier (value d)) (identifiers (values (map value (drop (i + 1) list))))
unfolding identifiers
next_is list i d h e =
    let one : suc i ≡ i + 1 = omega arith in
    ap (λ z. identifiers (values (map value z))) (drop_next list i d d h e ∙ ap (λ k. d ∷ drop k list) one)

pub one_more : (list : List Datum) (i : ℕ) (d : Datum) (n : Name) (so now : List Name) (all : Option (List Name)) → i < length list → d ≡ get_or list i d → identifier (value d) ≡ Some n → now ≡ so ++ n ∷ [] → all ≡ option_map (λ ns. so ++ ns) (identifiers (values (map value (drop i list)))) → all ≡ option_map (λ ns. now ++ ns) (identifiers (values (map value (drop (i + 1) list))))
one_more list i d n so now all h e is grown so_far =
    so_far ∙ ap (λ z. option_map (λ ns. so ++ ns) z) (next_is list i d h e ∙ ap (λ z. with_identifier z (identifiers (values (map value (drop (i + 1) list))))) is)
    ∙ more so n (identifiers (values (map value (drop (i + 1) list))))
    ∙ ap (λ z. option_map (λ ns. z ++ ns) (identifiers (values (map value (drop (i + 1) list))))) (sym grown)

pub another : (list : List Datum) (i : ℕ) (d : Datum) (so : List Name) (all : Option (List Name)) → i < length list → d ≡ get_or list i d → identifier (value d) ≡ None → all ≡ option_map (λ ns. so ++ ns) (identifiers (values (map value (drop i list)))) → None ≡ all
another list i d so all h e is so_far =
    sym (so_far ∙ ap (λ z. option_map (λ ns. so ++ ns) z) (next_is list i d h e ∙ ap (λ z. with_identifier z (identifiers (values (map value (drop (i + 1) list))))) is))

pub all_of_them : (list : List Datum) (i : ℕ) (so : List Name) (all : Option (List Name)) → length list ≤ i → all ≡ option_map (λ ns. so ++ ns) (identifiers (values (map value (drop i list)))) → Some so ≡ all
unfolding identifiers
all_of_them list i so all h so_far =
    sym (so_far ∙ ap (λ z. option_map (λ ns. so ++ ns) (identifiers (values (map value z)))) (drop_all i list h) ∙ ap (λ z. Some z) (append-nil so))
