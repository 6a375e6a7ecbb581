-- Loops over domains and dimensions: what is read of the rest is what is read of all.
use Rattle.std.proofs.Common.{◌≡◌, ℕ, suc, ◌<◌, ◌≤◌, ◌+◌, List, [], ◌∷◌, ◌++◌, length, map, drop, get_or, refl, sym, ap, ◌∙◌, Option, Some, None, add-one}
use Rattle.std.proofs.Math.Seq.{drop-cons}
use Rattle.std.proofs.lemmas.List.{drop_all, drop-map}
use Rattle.mz_value.specs.Ranges.{Range}
use Rattle.mz_value.specs.Contents.{Content}
use Rattle.mz_value.specs.declared.value.ShapeBase.{ShapeBase}
use Rattle.fz_items.specs.declared.outputs.Part.{Part}
use Rattle.fz_items.specs.Items.{Read, next_at, more_at, dimension_at, index_at}

-- the element at a place, and the rest
pub cut : {X : Type 0} (xs : List X) (i : ℕ) (x : X) → i < length xs → x ≡ get_or xs i x → drop i xs ≡ x ∷ drop (i + 1) xs
cut {X} xs i x below is = rw add-one (drop-cons xs i x below ∙ ap (λ (y : X). y ∷ drop (suc i) xs) (sym is))

pub cut_map : {X Y : Type 0} (f : X → Y) (xs : List X) (i : ℕ) (x : X) → i < length xs → x ≡ get_or xs i x → drop i (map f xs) ≡ f x ∷ drop (i + 1) (map f xs)
cut_map f xs i x below is = drop-map f i xs ∙ ap (map f) (cut xs i x below is) ∙ ap (λ ys. f x ∷ ys) (sym (drop-map f (i + 1) xs))

cut_at : {X : Type 0} (xs : List X) (i : ℕ) (d : X) → i < length xs → drop i xs ≡ get_or xs i d ∷ drop (i + 1) xs
cut_at xs i d below = rw add-one (drop-cons xs i d below)

more_cons : (part : Part) (base : ShapeBase) (xs : List Content) (d : List Range) (ds : List (List Range)) (at : List ℕ) (x : Content) (rest : List ℕ) → next_at part base d at ≡ Some (x, rest) → more_at part base xs (d ∷ ds) at ≡ more_at part base (xs ++ x ∷ []) ds rest
unfolding more_at
more_cons part base xs d ds at x rest e = rw e refl

more_none : (part : Part) (base : ShapeBase) (xs : List Content) (d : List Range) (ds : List (List Range)) (at : List ℕ) → next_at part base d at ≡ None → more_at part base xs (d ∷ ds) at ≡ None
unfolding more_at
more_none part base xs d ds at e = rw e refl

more_nil : (part : Part) (base : ShapeBase) (xs : List Content) (at : List ℕ) → more_at part base xs [] at ≡ Some (xs, at)
unfolding more_at
more_nil part base xs at = refl

pub more_step : (part : Part) (base : ShapeBase) (xs ys : List Content) (ds : List (List Range)) (i : ℕ) (d : List Range) (at : List ℕ) (x : Content) (rest : List ℕ) (whole : Read (List Content)) → i < length ds → d ≡ get_or ds i d → next_at part base d at ≡ Some (x, rest) → ys ≡ xs ++ x ∷ [] → more_at part base xs (drop i ds) at ≡ whole → more_at part base ys (drop (i + 1) ds) rest ≡ whole
more_step part base xs ys ds i d at x rest whole below is read pushed so_far =
    ap (λ zs. more_at part base zs (drop (i + 1) ds) rest) pushed ∙ sym (more_cons part base xs d (drop (i + 1) ds) at x rest read) ∙ ap (λ es. more_at part base xs es at) (sym (cut ds i d below is)) ∙ so_far

pub more_fails : (part : Part) (base : ShapeBase) (xs : List Content) (ds : List (List Range)) (i : ℕ) (d : List Range) (at : List ℕ) (whole : Read (List Content)) → i < length ds → d ≡ get_or ds i d → more_at part base xs (drop i ds) at ≡ whole → next_at part base d at ≡ None → whole ≡ None
more_fails part base xs ds i d at whole below is so_far read =
    sym so_far ∙ ap (λ es. more_at part base xs es at) (cut ds i d below is) ∙ more_none part base xs d (drop (i + 1) ds) at read

pub more_ends : (part : Part) (base : ShapeBase) (xs : List Content) (ds : List (List Range)) (i : ℕ) (at : List ℕ) (whole : Read (List Content)) → length ds ≤ i → more_at part base xs (drop i ds) at ≡ whole → whole ≡ Some (xs, at)
more_ends part base xs ds i at whole all so_far =
    sym so_far ∙ ap (λ es. more_at part base xs es at) (drop_all i ds all) ∙ more_nil part base xs at

index_cons : (r : Range) (rs : List Range) (at rest : List ℕ) → dimension_at r at ≡ Some rest → index_at (r ∷ rs) at ≡ index_at rs rest
unfolding index_at
index_cons r rs at rest e = rw e refl

index_none : (r : Range) (rs : List Range) (at : List ℕ) → dimension_at r at ≡ None → index_at (r ∷ rs) at ≡ None
unfolding index_at
index_none r rs at e = rw e refl

index_nil : (at : List ℕ) → index_at [] at ≡ Some at
unfolding index_at
index_nil at = refl

pub index_step : (rs : List Range) (i : ℕ) (d : Range) (at rest : List ℕ) (whole : Option (List ℕ)) → i < length rs → dimension_at (get_or rs i d) at ≡ Some rest → index_at (drop i rs) at ≡ whole → index_at (drop (i + 1) rs) rest ≡ whole
index_step rs i d at rest whole below read so_far =
    sym (index_cons (get_or rs i d) (drop (i + 1) rs) at rest read) ∙ ap (λ ss. index_at ss at) (sym (cut_at rs i d below)) ∙ so_far

pub index_fails : (rs : List Range) (i : ℕ) (d : Range) (at : List ℕ) (whole : Option (List ℕ)) → i < length rs → index_at (drop i rs) at ≡ whole → dimension_at (get_or rs i d) at ≡ None → whole ≡ None
index_fails rs i d at whole below so_far read =
    sym so_far ∙ ap (λ ss. index_at ss at) (cut_at rs i d below) ∙ index_none (get_or rs i d) (drop (i + 1) rs) at read

pub index_ends : (rs : List Range) (i : ℕ) (at : List ℕ) (whole : Option (List ℕ)) → length rs ≤ i → index_at (drop i rs) at ≡ whole → whole ≡ Some at
index_ends rs i at whole all so_far = sym so_far ∙ ap (λ ss. index_at ss at) (drop_all i rs all) ∙ index_nil at
