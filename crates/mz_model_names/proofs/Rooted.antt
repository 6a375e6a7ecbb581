-- Roots of names that have a value, and of names that have none.
use Rattle.std.proofs.Common.{◌≡◌, ◌∙◌, ◌⊎◌, ◌&&◌, ℕ, Bool, true, false, List, [], ◌∷◌, ◌++◌, Option, Some, None, refl, ap, inr}
use Rattle.std.specs.Ordering.{int_eq}
use Rattle.std.proofs.lemmas.Bool.Decides.{Decides-int_eq}
use Rattle.mz_value.specs.Ranges.{Range}
use Rattle.mz_operations.specs.Sets.{same_set}
use Rattle.mz_symbol.specs.Runs.{Run}
use Rattle.mz_eval_cells.specs.declared.types.Known.{Known}
use Rattle.mz_model_state.specs.Hands.{NameKind}
use Rattle.mz_model_state.specs.Roots.{NoRoots}
use Rattle.mz_model_roots.specs.Rooted.{view, AreRootsOf}
use Rattle.mz_model_names.specs.Named.{AreRootsIf, Stands, view_if}

pub stands_still : (s : Run) → Stands s s
stands_still s = record { back = λ r h. h; same = λ r h. refl }

pub rooted_if : (s : Run) (c : NameKind) (k : Known) (ids js : List ℕ) → js ≡ ids → AreRootsOf s c (view k) ids → AreRootsIf s c (view_if (Some k)) js
rooted_if s c k ids js same h = record { by = λ ns n kind value roots. h.by ns n kind value (roots ∙ same) }

pub not_rooted : NoRoots → (s : Run) (c : NameKind) (ids : List ℕ) → ids ≡ [] → AreRootsIf s c None ids
not_rooted none s c ids same = record { by = λ ns n kind value roots. none s (ns ++ n ∷ []) n (roots ∙ same) (inr value) }

-- ---- two lists of ranges

and_true : (a b : Bool) → a && b ≡ true → (a ≡ true) × (b ≡ true)
and_true true b h = (refl, h)
and_true false b h = absurd (cc)

pub one_list : (s t : List Range) → same_set s t ≡ true → s ≡ t
unfolding same_set
one_list [] [] h = refl
one_list [] (r ∷ rs) h = absurd (cc)
one_list (r ∷ rs) [] h = absurd (cc)
one_list (r ∷ rs) (q ∷ qs) h =
    let both = and_true (int_eq r.0 q.0 && int_eq r.1 q.1) (same_set rs qs) h in
    let ends = and_true (int_eq r.0 q.0) (int_eq r.1 q.1) both.0 in
    ap (λ n. (n, r.1) ∷ rs) ((Decides-int_eq r.0 q.0).0 ends.0) ∙ ap (λ n. (q.0, n) ∷ rs) ((Decides-int_eq r.1 q.1).0 ends.1) ∙ ap (λ ts. q ∷ ts) (one_list rs qs both.1)
