-- The bounds of branches.
use Rattle.std.proofs.Common.{◌≡◌, List, [], ◌∷◌, ◌++◌, map, refl, ap}
use Rattle.std.specs.Prelude.{Option, Some, None}
use Rattle.mz_operations.specs.Bounds.{Bounds}
use Rattle.mz_meaning.specs.Cells.{Cell}
use Rattle.mz_meaning.specs.Arrays.{all_bounds}
use Rattle.mz_eval_cells.specs.declared.types.Known.{Known}
use Rattle.mz_eval_cells.specs.Views.{cell_of}
use Rattle.mz_eval_arrays.specs.Gathered.{pairs_of}

one_more : (o : Option Bounds) (xs ys : List (Option Bounds)) (zs : List Bounds) → all_bounds xs ≡ all_bounds ys ++ zs → all_bounds (o ∷ xs) ≡ all_bounds (o ∷ ys) ++ zs
one_more None xs ys zs e = e
one_more (Some b) xs ys zs e = ap (λ t. b ∷ t) e

pub all_bounds_last : (f : Cell → Option Bounds) (ps : List (Known × Known)) (last : Cell) → all_bounds (map f (map (λ p. p.1) (pairs_of ps) ++ last ∷ [])) ≡ all_bounds (map (λ p. f (cell_of p.1)) ps) ++ all_bounds (f last ∷ [])
all_bounds_last f [] last = refl
all_bounds_last f (p ∷ ps) last = one_more (f (cell_of p.1)) (map f (map (λ q. q.1) (pairs_of ps) ++ last ∷ [])) (map (λ q. f (cell_of q.1)) ps) (all_bounds (f last ∷ [])) (all_bounds_last f ps last)
