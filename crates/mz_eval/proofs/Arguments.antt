-- The parameters of a call with their arguments, one after the other.
use Rattle.std.proofs.Common.{◌≡◌, ◌∙◌, ℕ, zero, suc, ◌+◌, ◌<◌, ◌≤◌, min, List, [], ◌∷◌, map, drop, length, get_or, refl, ap, arith}
use Rattle.mz_core.specs.declared.tree.Core.{Core}
use Rattle.mz_core.specs.declared.tree.CoreDecl.{CoreDecl}
use Rattle.mz_core.specs.Tree.{Tree, Decl}
use Rattle.mz_core.specs.TreeViews.{tree, decl}
use Rattle.mz_eval_cells.specs.declared.types.Known.{Known}
use Rattle.mz_symbol.specs.Readings.{Reading}
use Rattle.mz_eval_cells.specs.Views.{all_seen, seen}
use Rattle.mz_meaning.specs.Cells.{Cell}
use Rattle.mz_meaning.specs.Calls.{arguments}
use Rattle.mz_eval.specs.Calls.{arguments_seen}

-- those from a place on
abbrev arguments_from : Reading → ℕ → List CoreDecl → List Core → List Known → List (Decl × Tree × Cell)
arguments_from r i ds es cs = arguments_seen r (drop i ds) (drop i es) (drop i cs)

next_after : (r : Reading) (i : ℕ) (ds : List CoreDecl) (es : List Core) (cs : List Known) (d : CoreDecl) (e : Core) (k : Known) → i < length ds → i < length es → i < length cs → arguments_from r i ds es cs ≡ (decl (get_or ds i d), tree (get_or es i e), seen r (get_or cs i k)) ∷ arguments_from r (suc i) ds es cs
next_after r i [] es cs d e k h g m = absurd (omega arith)
next_after r i (x ∷ ds) [] cs d e k h g m = absurd (omega arith)
next_after r i (x ∷ ds) (y ∷ es) [] d e k h g m = absurd (omega arith)
next_after r zero (x ∷ ds) (y ∷ es) (z ∷ cs) d e k h g m = refl
next_after r (suc i) (x ∷ ds) (y ∷ es) (z ∷ cs) d e k h g m = next_after r i ds es cs d e k (omega arith) (omega arith) (omega arith)

pub arguments_next : (r : Reading) (i : ℕ) (ds : List CoreDecl) (es : List Core) (cs : List Known) (d : CoreDecl) (e : Core) (k : Known) → i < length ds → i < length es → i < length cs → arguments_seen r (drop i ds) (drop i es) (drop i cs) ≡ (decl (get_or ds i d), tree (get_or es i e), seen r (get_or cs i k)) ∷ arguments_seen r (drop (i + 1) ds) (drop (i + 1) es) (drop (i + 1) cs)
arguments_next r i ds es cs d e k h g m =
    let more : suc i ≡ i + 1 = omega arith in
    next_after r i ds es cs d e k h g m
    ∙ ap (λ j. (decl (get_or ds i d), tree (get_or es i e), seen r (get_or cs i k)) ∷ arguments_from r j ds es cs) more

no_trees : (ds : List Decl) (cs : List Cell) → arguments ds [] cs ≡ []
no_trees [] cs = refl
no_trees (d ∷ ds) cs = refl

no_cells : (ds : List Decl) (es : List Tree) → arguments ds es [] ≡ []
no_cells [] es = refl
no_cells (d ∷ ds) [] = refl
no_cells (d ∷ ds) (e ∷ es) = refl

pub arguments_end : (r : Reading) (i : ℕ) (ds : List CoreDecl) (es : List Core) (cs : List Known) → min (min (length ds) (length es)) (length cs) ≤ i → arguments_seen r (drop i ds) (drop i es) (drop i cs) ≡ []
arguments_end r zero [] es cs h = refl
arguments_end r (suc i) [] es cs h = refl
arguments_end r zero (x ∷ ds) [] cs h = refl
arguments_end r (suc i) (x ∷ ds) [] cs h = no_trees (map decl (drop i ds)) (all_seen r (drop (suc i) cs))
arguments_end r zero (x ∷ ds) (y ∷ es) [] h = refl
arguments_end r (suc i) (x ∷ ds) (y ∷ es) [] h = no_cells (map decl (drop i ds)) (map tree (drop i es))
arguments_end r zero (x ∷ ds) (y ∷ es) (z ∷ cs) h = absurd (omega arith)
arguments_end r (suc i) (x ∷ ds) (y ∷ es) (z ∷ cs) h = arguments_end r i ds es cs (omega arith)
