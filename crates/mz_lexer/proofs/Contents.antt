-- What stands in a piece of a text, a byte at a time.
use Rattle.std.proofs.Common.{◌≡◌, ℕ, suc, ◌+◌, ◌-◌, ◌<◌, ◌≤◌, List, [], ◌∷◌, ◌++◌, length, take, drop, get_or, Bool, true, false, cond, refl, sym, ap, ◌∙◌, arith, drop-cons, append_assoc, append-nil, add-one}
use Rattle.std.specs.Prelude.{Some, None}
use Rattle.std.proofs.lemmas.List.{drop_all}
use Rattle.std.proofs.lemmas.Slice.{between_to_end}
use Rattle.mz_lexer.specs.Texts.{content_step, one_more, content_from, begins_escape, meant, meaning_from}

content_cons : (escaped : Bool) (b : ℕ) (bs : List ℕ) → content_from escaped (b ∷ bs) ≡ one_more (content_step escaped (b ∷ bs)) (λ next. content_from next bs)
unfolding content_from
content_cons true b bs = refl
content_cons false b bs = refl

-- the byte at a place is the first of the rest
pub at_place : (bs : List ℕ) (i : ℕ) → i < length bs → drop i bs ≡ get_or bs i 0 ∷ drop (i + 1) bs
at_place bs i below = rw (add-one, drop-cons bs i 0 below) refl

pub content_at : (escaped : Bool) (bs : List ℕ) (i : ℕ) → i < length bs → content_from escaped (drop i bs) ≡ one_more (content_step escaped (drop i bs)) (λ next. content_from next (drop (i + 1) bs))
content_at escaped bs i below = let P : List ℕ → Type 0 = λ us. content_from escaped us ≡ one_more (content_step escaped us) (λ next. content_from next (drop (i + 1) bs)) in rw (at_place bs i below) (content_cons escaped _ _)

pub content_next : (escaped next : Bool) (bs : List ℕ) (i : ℕ) → i < length bs → content_step escaped (drop i bs) ≡ Some next → content_from escaped (drop i bs) ≡ suc (content_from next (drop (i + 1) bs))
content_next escaped next bs i below is = content_at escaped bs i below ∙ ap (λ o. one_more o (λ e. content_from e (drop (i + 1) bs))) is

pub content_stops : (escaped : Bool) (bs : List ℕ) (i : ℕ) → i < length bs → content_step escaped (drop i bs) ≡ None → content_from escaped (drop i bs) ≡ 0
content_stops escaped bs i below is = content_at escaped bs i below ∙ ap (λ o. one_more o (λ e. content_from e (drop (i + 1) bs))) is

pub content_none : (escaped : Bool) → content_from escaped [] ≡ 0
unfolding content_from
content_none escaped = refl

meaning_cons : (escaped : Bool) (b : ℕ) (bs : List ℕ) → meaning_from escaped (b ∷ bs) ≡ cond (begins_escape escaped b) (meaning_from true bs) (meant escaped b ∷ meaning_from false bs)
unfolding meaning_from
meaning_cons true b bs = refl
meaning_cons false b bs = refl

pub meaning_none : (escaped : Bool) → meaning_from escaped [] ≡ []
unfolding meaning_from
meaning_none escaped = refl

pub means_escape : (escaped : Bool) (bs prefix : List ℕ) (i : ℕ) → i < length bs → begins_escape escaped (get_or bs i 0) ≡ true → prefix ++ meaning_from true (drop (i + 1) bs) ≡ prefix ++ meaning_from escaped (drop i bs)
means_escape escaped bs prefix i below is =
    let step : meaning_from escaped (drop i bs) ≡ meaning_from true (drop (i + 1) bs) = rw (at_place bs i below) (meaning_cons escaped _ _ ∙ rw is refl) in
    ap (λ us. prefix ++ us) (sym step)

pub means_byte : (escaped : Bool) (bs prefix : List ℕ) (i : ℕ) → i < length bs → begins_escape escaped (get_or bs i 0) ≡ false → (prefix ++ meant escaped (get_or bs i 0) ∷ []) ++ meaning_from false (drop (i + 1) bs) ≡ prefix ++ meaning_from escaped (drop i bs)
means_byte escaped bs prefix i below isnt =
    let step : meaning_from escaped (drop i bs) ≡ meant escaped (get_or bs i 0) ∷ meaning_from false (drop (i + 1) bs) = rw (at_place bs i below) (meaning_cons escaped _ _ ∙ rw isnt refl) in
    append_assoc prefix _ _ ∙ ap (λ us. prefix ++ us) (sym step)

-- the rest of a slice from a place on
pub past : (n : ℕ) (bs : List ℕ) → take (length bs - n) (drop n bs) ≡ drop n bs
past n bs = between_to_end bs n (length bs) (omega arith)

pub content_end : (escaped : Bool) (bs : List ℕ) (i : ℕ) → length bs ≤ i → content_from escaped (drop i bs) ≡ 0
content_end escaped bs i le = rw (drop_all i bs le) (content_none escaped)

pub meaning_end : (escaped : Bool) (bs prefix : List ℕ) (i : ℕ) → length bs ≤ i → prefix ++ meaning_from escaped (drop i bs) ≡ prefix
meaning_end escaped bs prefix i le = rw (drop_all i bs le, meaning_none escaped) (append-nil prefix)
