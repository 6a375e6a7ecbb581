-- Hulls and unions of lists, as what their elements have together.
use Rattle.std.proofs.Common.{◌≡◌, ℕ, List, [], ◌∷◌, drop, take, map, Some, refl, sym, ap, ◌∙◌}
use Rattle.std.specs.List.{take-map, drop-map}
use Rattle.mz_value.specs.Ranges.{Range}
use Rattle.mz_interval.specs.Ends.{Ends, hull_of}
use Rattle.mz_interval.specs.Interval.{ends}
use Rattle.mz_interval.specs.declared.interval.Interval.{Interval}
use Rattle.mz_operations.specs.Bounds.{hull_from, hull_of_all, union_from, union_of_all}
use Rattle.mz_operations.specs.Sets.{union}
use Rattle.mz_arena_blocks.specs.Joins.{join_from, join_of_all}

-- ---- hulls

hull_joined : (a : Ends) (es : List Ends) → join_from hull_of a es ≡ hull_from a es
hull_joined a [] = refl
hull_joined a (e ∷ es) = hull_joined (hull_of a e) es

some_hull : (h : Ends) (es : List Ends) → Some h ≡ join_of_all hull_of es → h ≡ hull_of_all es
some_hull h [] e = cc
some_hull h (d ∷ es) e = let same : h ≡ join_from hull_of d es = cc in same ∙ hull_joined d es

part_of : (n m : ℕ) (is : List Interval) → map ends (take n (drop m is)) ≡ take n (drop m (map ends is))
part_of n m is = sym (take-map ends n (drop m is)) ∙ ap (take n) (sym (drop-map ends m is))

pub hull_of_part : (h : Ends) (n m : ℕ) (is : List Interval) → Some h ≡ join_of_all hull_of (map ends (take n (drop m is))) → h ≡ hull_of_all (take n (drop m (map ends is)))
hull_of_part h n m is e = some_hull h (take n (drop m (map ends is))) (e ∙ ap (join_of_all hull_of) (part_of n m is))

-- ---- unions

abbrev itself : List Range → List Range
itself s = s

unions_joined : (a : List Range) (us : List (List Range)) → join_from union a (map itself us) ≡ union_from a us
unfolding union_from
unions_joined a [] = refl
unions_joined a (u ∷ us) = unions_joined (union a u) us

pub union_of_part : (u none : List Range) (n : ℕ) (xs ys : List (List Range)) → none ≡ [] → xs ≡ ys → u ≡ join_from union none (map itself (take n xs)) → u ≡ union_of_all (take n ys)
union_of_part u none n xs ys p q h = h ∙ ap (λ s. join_from union s (map itself (take n xs))) p ∙ unions_joined [] (take n xs) ∙ ap (λ us. union_of_all (take n us)) q
