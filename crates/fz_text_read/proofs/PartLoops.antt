-- A loop that reads parts with commas between them: what is read so far, before what the rest is read to in the turns
-- that are left, is what all is read to.
use Rattle.std.proofs.Common.{◌≡◌, ℕ, zero, suc, ◌+◌, ◌-◌, ◌<◌, ◌≤◌, List, [], ◌∷◌, ◌++◌, length, refl, sym, ap, ◌∙◌, arith, Some, None, append_assoc}
use Rattle.std.specs.Prelude.{codes}
use Rattle.fz_items.specs.Items.{Read, ◌>>=◌}
use Rattle.fz_text_read.specs.Tokens.{behind}
use Rattle.fz_text_read.specs.Lists.{parts_at, with_first}

abbrev pub with_prefix : {A : Type 0} → List A → Read (List A) → Read (List A)
with_prefix prefix None = None
with_prefix prefix (Some r) = Some (prefix ++ r.0, r.1)

pub begins : {A : Type 0} (r : Read (List A)) → with_prefix [] r ≡ r
begins None = refl
begins (Some r) = refl

-- nothing is read yet
pub begins_at : {A : Type 0} (part : List ℕ → Read A) (start : List ℕ) (prefix : List A) → prefix ≡ [] → with_prefix prefix (parts_at part (length start - 0) start) ≡ parts_at part (length start) start
begins_at part start prefix none =
    let turns : length start - 0 ≡ length start = omega arith in
    ap (λ xs. with_prefix xs (parts_at part (length start - 0) start)) none ∙ begins (parts_at part (length start - 0) start) ∙ ap (λ k. parts_at part k start) turns

pub joined_prefix : {A : Type 0} (prefix : List A) (x : A) (r : Read (List A)) → with_prefix (prefix ++ x ∷ []) r ≡ with_prefix prefix (r >>= λ xs. Some (with_first x xs))
joined_prefix prefix x None = refl
joined_prefix prefix x (Some r) = rw append_assoc refl

none_at : {A : Type 0} (part : List ℕ → Read A) (most : ℕ) (at : List ℕ) → part at ≡ None → parts_at part most at ≡ None
unfolding parts_at
none_at part zero at e = refl
none_at part (suc most) at e = rw e refl

pub last_at : {A : Type 0} (part : List ℕ → Read A) (most : ℕ) (at next : List ℕ) (x : A) → 0 < most → part at ≡ Some (x, next) → behind (codes ",") next ≡ None → parts_at part most at ≡ Some (x ∷ [], next)
unfolding parts_at
last_at part zero at next x some e stop = absurd (omega arith)
last_at part (suc most) at next x some e stop = rw e (rw stop refl)

pub more_at : {A : Type 0} (part : List ℕ → Read A) (most : ℕ) (at next more : List ℕ) (x : A) → part at ≡ Some (x, next) → behind (codes ",") next ≡ Some more → parts_at part (suc most) at ≡ (parts_at part most more >>= λ xs. Some (with_first x xs))
unfolding parts_at
more_at part most at next more x e goes = rw e (rw goes refl)

no_turn : {A : Type 0} (part : List ℕ → Read A) (most : ℕ) (at : List ℕ) → most ≤ 0 → parts_at part most at ≡ None
unfolding parts_at
no_turn part zero at none = refl
no_turn part (suc most) at none = absurd (omega arith)

-- the part that stands next isn't read
pub fails : {A : Type 0} (part : List ℕ → Read A) (prefix : List A) (n i : ℕ) (at : List ℕ) (whole : Read (List A)) → with_prefix prefix (parts_at part (n - i) at) ≡ whole → part at ≡ None → whole ≡ None
fails part prefix n i at whole so_far e = sym so_far ∙ ap (with_prefix prefix) (none_at part (n - i) at e)

-- it is read, and no comma follows it
pub ends : {A : Type 0} (part : List ℕ → Read A) (prefix : List A) (n i : ℕ) (at next : List ℕ) (x : A) (whole : Read (List A)) → i < n → with_prefix prefix (parts_at part (n - i) at) ≡ whole → part at ≡ Some (x, next) → behind (codes ",") next ≡ None → whole ≡ Some (prefix ++ x ∷ [], next)
ends part prefix n i at next x whole below so_far e stop = sym so_far ∙ ap (with_prefix prefix) (last_at part (n - i) at next x (omega arith) e stop)

-- it is read, and a comma follows it
pub goes_on : {A : Type 0} (part : List ℕ → Read A) (prefix : List A) (n i : ℕ) (at next more : List ℕ) (x : A) (whole : Read (List A)) → i < n → with_prefix prefix (parts_at part (n - i) at) ≡ whole → part at ≡ Some (x, next) → behind (codes ",") next ≡ Some more → with_prefix (prefix ++ x ∷ []) (parts_at part (n - (i + 1)) more) ≡ whole
goes_on part prefix n i at next more x whole below so_far e goes =
    let turns : suc (n - (i + 1)) ≡ n - i = omega arith in
    joined_prefix prefix x (parts_at part (n - (i + 1)) more)
    ∙ ap (with_prefix prefix) (sym (more_at part (n - (i + 1)) at next more x e goes))
    ∙ ap (λ k. with_prefix prefix (parts_at part k at)) turns ∙ so_far

-- no turn is left
pub runs_out : {A : Type 0} (part : List ℕ → Read A) (prefix : List A) (n i : ℕ) (at : List ℕ) (whole : Read (List A)) → n ≤ i → with_prefix prefix (parts_at part (n - i) at) ≡ whole → whole ≡ None
runs_out part prefix n i at whole all so_far = sym so_far ∙ ap (with_prefix prefix) (no_turn part (n - i) at (omega arith))
