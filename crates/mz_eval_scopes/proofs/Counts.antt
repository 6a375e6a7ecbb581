-- How many cases an enum has.
use Rattle.std.proofs.Common.{◌≡◌, ◌∙◌, ℕ, zero, suc, List, [], ◌∷◌, map, length, Vec, Some, None, slice_get, slice_index_or, refl, sym, ap}
use Rattle.std.specs.Global.{Global}
use Rattle.std.proofs.lemmas.List.{length-map}
use Rattle.mz_value.specs.declared.value.TextValue.{TextValue}
use Rattle.mz_value.specs.Contents.{text_bytes}

pub no_count_at : (ns : List (Vec TextValue Global)) (i : ℕ) → slice_get ns i ≡ None → 0 ≡ length (slice_index_or (map (λ e. map text_bytes e.items) ns) i [])
no_count_at [] i h = refl
no_count_at (x ∷ ns) zero h = absurd (cc)
no_count_at (x ∷ ns) (suc i) h = no_count_at ns i h

pub count_at : (ns : List (Vec TextValue Global)) (i : ℕ) (v : Vec TextValue Global) → slice_get ns i ≡ Some v → length v.items ≡ length (slice_index_or (map (λ e. map text_bytes e.items) ns) i [])
count_at [] i v h = absurd (cc)
count_at (x ∷ ns) zero v h =
    let same : x ≡ v = cc in
    sym (length-map x.items text_bytes ∙ ap (λ z. length z.items) same)
count_at (x ∷ ns) (suc i) v h = count_at ns i v h
