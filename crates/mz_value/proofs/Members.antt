-- What canonical lists have, and lists that are joined end to end.
use Rattle.std.proofs.Common.{List, [], ◌∷◌, ◌++◌, inl, inr, ⊎_elim, arith}
use Rattle.std.proofs.lemmas.Int.{ints, by_lt_z}
use Rattle.std.specs.Prelude.{ℤ, pos, ◌+ℤ◌, ◌≤ℤ◌, ◌<ℤ◌, ◌⊎◌}
use Rattle.mz_value.specs.Ranges.{Range, IsApart, AreCanonical, IsIn, Has, AreInLimit, least, greatest, range_of}
use Rattle.mz_value.proofs.Walking.{range_of_some, range_of_none}

-- the first range begins at lo or above it
abbrev pub Begins : ℤ → List Range → Type 0
Begins lo [] = Unit {0}
Begins lo (r ∷ rs) = lo ≤ℤ r.0

pub begins_lower : (lo hi : ℤ) (rs : List Range) → lo ≤ℤ hi → Begins hi rs → Begins lo rs
begins_lower lo hi [] below b = tt
begins_lower lo hi (r ∷ rs) below b = omega (arith, ints)

pub begins_behind : (lo : ℤ) (r : Range) (rs : List Range) → lo ≤ℤ (r.1 +ℤ pos 2) → IsApart r rs → Begins lo rs
begins_behind lo r [] below a = tt
begins_behind lo r (s ∷ ss) below a = omega (arith, ints)

pub apart_from_begins : (lo : ℤ) (r : Range) (rs : List Range) → (r.1 +ℤ pos 2) ≤ℤ lo → Begins lo rs → IsApart r rs
apart_from_begins lo r [] below b = tt
apart_from_begins lo r (s ∷ ss) below b = omega (arith, ints)

-- no element lies below the first range
pub has_begins : (lo : ℤ) (rs : List Range) (x : ℤ) → AreCanonical rs → Begins lo rs → Has rs x → lo ≤ℤ x
has_begins lo [] x c b h = absurd h
has_begins lo (r ∷ rs) x c b (inl p) = omega (arith, ints)
has_begins lo (r ∷ rs) x c b (inr h) = has_begins lo rs x c.2 (begins_behind lo r rs (omega (arith, ints)) c.1) h

pub has_behind : (r : Range) (rs : List Range) (x : ℤ) → AreCanonical (r ∷ rs) → Has rs x → r.1 <ℤ x
has_behind r rs x c h =
    let l = has_begins (r.1 +ℤ pos 2) rs x c.2 (begins_behind (r.1 +ℤ pos 2) r rs (omega (arith, ints)) c.1) h in
    omega (arith, ints)

pub has_append : (rs ss : List Range) (x : ℤ) → Has (rs ++ ss) x → Has rs x ⊎ Has ss x
has_append [] ss x h = inr h
has_append (r ∷ rs) ss x (inl p) = inl (inl p)
has_append (r ∷ rs) ss x (inr h) = ⊎_elim (λ l. inl (inr l)) (λ l. inr l) (has_append rs ss x h)

pub has_left : (rs ss : List Range) (x : ℤ) → Has rs x → Has (rs ++ ss) x
has_left [] ss x h = absurd h
has_left (r ∷ rs) ss x (inl p) = inl p
has_left (r ∷ rs) ss x (inr h) = inr (has_left rs ss x h)

pub has_right : (rs ss : List Range) (x : ℤ) → Has ss x → Has (rs ++ ss) x
has_right [] ss x h = h
has_right (r ∷ rs) ss x h = inr (has_right rs ss x h)

-- a range first, where it isn't empty

pub has_range : (lo hi : ℤ) (rs : List Range) (x : ℤ) → Has (range_of lo hi ++ rs) x → IsIn (lo, hi) x ⊎ Has rs x
has_range lo hi rs x h = by_lt_z hi lo (λ e. inr (rw (range_of_none lo hi e) at h)) (λ l. rw (range_of_some lo hi l) at h)

pub range_has : (lo hi : ℤ) (rs : List Range) (x : ℤ) → lo ≤ℤ x → x ≤ℤ hi → Has (range_of lo hi ++ rs) x
range_has lo hi rs x low high =
    let l : lo ≤ℤ hi = omega (arith, ints) in
    rw (range_of_some lo hi l) (inl (low, high))

pub behind_range_has : (lo hi : ℤ) (rs : List Range) (x : ℤ) → Has rs x → Has (range_of lo hi ++ rs) x
behind_range_has lo hi rs x h = has_right (range_of lo hi) rs x h

pub begins_range : (low lo hi : ℤ) (rs : List Range) → low ≤ℤ lo → Begins low rs → Begins low (range_of lo hi ++ rs)
begins_range low lo hi rs below b = by_lt_z hi lo (λ e. rw (range_of_none lo hi e) b) (λ l. rw (range_of_some lo hi l) below)

pub canonical_range : (lo hi : ℤ) (rs : List Range) → Begins (hi +ℤ pos 2) rs → AreCanonical rs → AreCanonical (range_of lo hi ++ rs)
canonical_range lo hi rs b c =
    by_lt_z hi lo
    (λ e. rw (range_of_none lo hi e) c)
    (λ l. rw (range_of_some lo hi l) (l, apart_from_begins (hi +ℤ pos 2) (lo, hi) rs (omega (arith, ints)) b, c))

pub limit_range : (lo hi : ℤ) (rs : List Range) → least ≤ℤ lo → hi ≤ℤ greatest → AreInLimit rs → AreInLimit (range_of lo hi ++ rs)
limit_range lo hi rs low high all =
    by_lt_z hi lo
    (λ e. rw (range_of_none lo hi e) all)
    (λ l. rw (range_of_some lo hi l) ((low, omega (arith, ints)), (omega (arith, ints), high), all))
