-- A loop that gathers names.
use Rattle.std.proofs.Common.{◌≡◌, ℕ, ◌+◌, ◌<◌, ◌≤◌, Bool, List, [], ◌∷◌, ap, sym, ◌∙◌, map, length, drop, get_or}
use Rattle.std.proofs.lemmas.List.{drop_more, drop_all}
use Rattle.mz_scope_names.specs.declared.sketch.Sketch.{Sketch as CodeSketch}
use Rattle.mz_scope_names.specs.Sketches.{sketch}
use Rattle.mz_scope_order.specs.StepsPlaces.{if_in, names_in}

pub one_gathered : (applied : Bool) (all ns now : List ℕ) (xs : List CodeSketch) (i : ℕ) (x : CodeSketch) → all ≡ names_in applied ns (map sketch (drop i xs)) → i < length xs → x ≡ get_or xs i x → now ≡ if_in applied ns (sketch x) → all ≡ names_in applied now (map sketch (drop (i + 1) xs))
unfolding names_in
one_gathered applied all ns now xs i x k l e g =
    k ∙ ap (λ z. names_in applied ns (map sketch z)) (drop_more xs i x l ∙ ap (λ z. z ∷ drop (i + 1) xs) (sym e))
    ∙ ap (λ z. names_in applied z (map sketch (drop (i + 1) xs))) (sym g)

pub all_gathered : (applied : Bool) (all ns : List ℕ) (xs : List CodeSketch) (i : ℕ) → all ≡ names_in applied ns (map sketch (drop i xs)) → length xs ≤ i → ns ≡ all
unfolding names_in
all_gathered applied all ns xs i k l = sym (k ∙ ap (λ z. names_in applied ns (map sketch z)) (drop_all i xs l))
