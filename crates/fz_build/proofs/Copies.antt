-- Arrays by their elements.
use Rattle.std.proofs.Common.{◌≡◌, List, [], ◌∷◌, ◌++◌, map, refl, sym, ap, ◌∙◌, Vec, Global}
use Rattle.std.proofs.lemmas.List.{map_push}
use Rattle.fz_program.specs.declared.program.Arg.{Arg, Array, the_lemmas}
use Rattle.fz_program.specs.Arguments.{argument, array, plain, plains}

pub plains_are : (xs : List Arg) → plains xs ≡ map plain xs
plains_are [] = refl
plains_are (x ∷ xs) = ap (λ ps. plain x ∷ ps) (plains_are xs)

pub same_plains : (xs ys zs : List Arg) → map plain xs ≡ map plain ys → ys ≡ zs → plains xs ≡ plains zs
same_plains xs ys zs e h = plains_are xs ∙ e ∙ ap (map plain) h ∙ sym (plains_are zs)

pub pushed_plains : (xs new ys : List Arg) (a : Arg) → new ≡ xs ++ a ∷ [] → map plain xs ≡ map plain ys → plains new ≡ plains ys ++ plain a ∷ []
pushed_plains xs new ys a e h = plains_are new ∙ ap (map plain) e ∙ map_push plain xs a ∙ ap (λ ps. ps ++ plain a ∷ []) (h ∙ sym (plains_are ys))

pub array_opened : (v : Vec Arg Global) → argument (Array v) ≡ array (plains v.items)
array_opened v = simp the_lemmas refl
