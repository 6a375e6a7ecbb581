-- A loop that reads lines that begin with the same text: what is read so far, before what the rest is read to in the
-- turns that are left, is what all is read to.
use Rattle.std.proofs.Common.{◌≡◌, ℕ, zero, suc, ◌+◌, ◌-◌, ◌<◌, ◌≤◌, List, [], ◌∷◌, ◌++◌, length, refl, sym, ap, ◌∙◌, arith, Some, None, append_assoc}
use Rattle.std.proofs.lemmas.List.{append-nil}
use Rattle.fz_items.specs.Items.{Read, ◌>>=◌}
use Rattle.fz_text_read.specs.Tokens.{behind}
use Rattle.fz_text_read.specs.Lines.{lines_at, add_first}
use Rattle.fz_text_read.proofs.PartLoops.{with_prefix, begins}

joined_prefix : {A : Type 0} (prefix : List A) (x : A) (r : Read (List A)) → with_prefix (prefix ++ x ∷ []) r ≡ with_prefix prefix (r >>= λ xs. Some (add_first x xs))
joined_prefix prefix x None = refl
joined_prefix prefix x (Some r) = rw append_assoc refl

-- nothing is read yet
pub begins_at : {A : Type 0} (head : List ℕ) (part : List ℕ → Read A) (start : List ℕ) (prefix : List A) → prefix ≡ [] → with_prefix prefix (lines_at head part (length start - 0) start) ≡ lines_at head part (length start) start
begins_at head part start prefix none =
    let turns : length start - 0 ≡ length start = omega arith in
    ap (λ xs. with_prefix xs (lines_at head part (length start - 0) start)) none ∙ begins (lines_at head part (length start - 0) start) ∙ ap (λ k. lines_at head part k start) turns

pub stop_at : {A : Type 0} (head : List ℕ) (part : List ℕ → Read A) (most : ℕ) (at : List ℕ) → behind head at ≡ None → lines_at head part most at ≡ Some ([], at)
unfolding lines_at
stop_at head part zero at e = refl
stop_at head part (suc most) at e = rw e refl

none_at : {A : Type 0} (head : List ℕ) (part : List ℕ → Read A) (most : ℕ) (at inside : List ℕ) → 0 < most → behind head at ≡ Some inside → part inside ≡ None → lines_at head part most at ≡ None
unfolding lines_at
none_at head part zero at inside some goes e = absurd (omega arith)
none_at head part (suc most) at inside some goes e = rw goes (rw e refl)

pub more_at : {A : Type 0} (head : List ℕ) (part : List ℕ → Read A) (most : ℕ) (at inside next : List ℕ) (x : A) → behind head at ≡ Some inside → part inside ≡ Some (x, next) → lines_at head part (suc most) at ≡ (lines_at head part most next >>= λ xs. Some (add_first x xs))
unfolding lines_at
more_at head part most at inside next x goes e = rw goes (rw e refl)

no_turn : {A : Type 0} (head : List ℕ) (part : List ℕ → Read A) (most : ℕ) (at : List ℕ) → most ≤ 0 → lines_at head part most at ≡ Some ([], at)
unfolding lines_at
no_turn head part zero at none = refl
no_turn head part (suc most) at none = absurd (omega arith)

only_prefix : {A : Type 0} (prefix : List A) (at : List ℕ) → with_prefix prefix (Some ([], at)) ≡ Some (prefix, at)
only_prefix prefix at = rw (append-nil prefix) refl

-- no such line stands next
pub stops : {A : Type 0} (head : List ℕ) (part : List ℕ → Read A) (prefix : List A) (n i : ℕ) (at : List ℕ) (whole : Read (List A)) → with_prefix prefix (lines_at head part (n - i) at) ≡ whole → behind head at ≡ None → whole ≡ Some (prefix, at)
stops head part prefix n i at whole so_far e = sym so_far ∙ ap (with_prefix prefix) (stop_at head part (n - i) at e) ∙ only_prefix prefix at

-- the line isn't read
pub fails : {A : Type 0} (head : List ℕ) (part : List ℕ → Read A) (prefix : List A) (n i : ℕ) (at inside : List ℕ) (whole : Read (List A)) → i < n → with_prefix prefix (lines_at head part (n - i) at) ≡ whole → behind head at ≡ Some inside → part inside ≡ None → whole ≡ None
fails head part prefix n i at inside whole below so_far goes e = sym so_far ∙ ap (with_prefix prefix) (none_at head part (n - i) at inside (omega arith) goes e)

-- it is read
pub goes_on : {A : Type 0} (head : List ℕ) (part : List ℕ → Read A) (prefix : List A) (n i : ℕ) (at inside next : List ℕ) (x : A) (whole : Read (List A)) → i < n → with_prefix prefix (lines_at head part (n - i) at) ≡ whole → behind head at ≡ Some inside → part inside ≡ Some (x, next) → with_prefix (prefix ++ x ∷ []) (lines_at head part (n - (i + 1)) next) ≡ whole
goes_on head part prefix n i at inside next x whole below so_far goes e =
    let turns : suc (n - (i + 1)) ≡ n - i = omega arith in
    joined_prefix prefix x (lines_at head part (n - (i + 1)) next)
    ∙ ap (with_prefix prefix) (sym (more_at head part (n - (i + 1)) at inside next x goes e))
    ∙ ap (λ k. with_prefix prefix (lines_at head part k at)) turns ∙ so_far

-- no turn is left
pub runs_out : {A : Type 0} (head : List ℕ) (part : List ℕ → Read A) (prefix : List A) (n i : ℕ) (at : List ℕ) (whole : Read (List A)) → n ≤ i → with_prefix prefix (lines_at head part (n - i) at) ≡ whole → whole ≡ Some (prefix, at)
runs_out head part prefix n i at whole all so_far = sym so_far ∙ ap (with_prefix prefix) (no_turn head part (n - i) at (omega arith)) ∙ only_prefix prefix at
