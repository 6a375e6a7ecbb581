-- One step of each walk.
use Rattle.std.proofs.Common.{◌≡◌, List, [], ◌∷◌, ◌++◌, refl, ap}
use Rattle.std.specs.Prelude.{ℤ, pos, ◌+ℤ◌, ◌≤ℤ◌, ◌<ℤ◌}
use Rattle.std.specs.Int.{int_max, int_min}
use Rattle.mz_value.specs.Ranges.{Range, range_of}
use Rattle.mz_value.specs.StepsWalks.{merged, merged_from, joined_from, common, common_from}
use Rattle.mz_value.proofs.Comparisons.{int_le_true, int_le_false, int_lt_true, int_lt_false}

pub range_of_some : (lo hi : ℤ) → lo ≤ℤ hi → range_of lo hi ≡ (lo, hi) ∷ []
range_of_some lo hi h = rw (int_le_true lo hi h) refl

pub range_of_none : (lo hi : ℤ) → hi <ℤ lo → range_of lo hi ≡ []
range_of_none lo hi h = rw (int_le_false lo hi h) refl

pub merged_left : (r s : Range) (rs ss : List Range) → r.0 ≤ℤ s.0 → merged (r ∷ rs) (s ∷ ss) ≡ r ∷ merged rs (s ∷ ss)
unfolding merged merged_from
merged_left r s rs ss h = rw (int_le_true r.0 s.0 h) refl

pub merged_right : (r s : Range) (rs ss : List Range) → s.0 <ℤ r.0 → merged (r ∷ rs) (s ∷ ss) ≡ s ∷ merged (r ∷ rs) ss
unfolding merged merged_from
merged_right r s rs ss h = rw (int_le_false r.0 s.0 h) refl

pub merged_none_left : (ss : List Range) → merged [] ss ≡ ss
unfolding merged
merged_none_left ss = refl

pub merged_none_right : (rs : List Range) → merged rs [] ≡ rs
unfolding merged merged_from
merged_none_right [] = refl
merged_none_right (r ∷ rs) = ap (λ t. r ∷ t) (merged_none_right rs)

pub joined_on : (r s : Range) (ss : List Range) → s.0 ≤ℤ (r.1 +ℤ pos 1) → joined_from r (s ∷ ss) ≡ joined_from (r.0, int_max r.1 s.1) ss
unfolding joined_from
joined_on r s ss h = rw (int_le_true s.0 (r.1 +ℤ pos 1) h) refl

pub joined_apart : (r s : Range) (ss : List Range) → (r.1 +ℤ pos 1) <ℤ s.0 → joined_from r (s ∷ ss) ≡ r ∷ joined_from s ss
unfolding joined_from
joined_apart r s ss h = rw (int_le_false s.0 (r.1 +ℤ pos 1) h) refl

pub joined_end : (r : Range) → joined_from r [] ≡ r ∷ []
unfolding joined_from
joined_end r = refl

-- what two ranges have in common
abbrev pub overlap : Range → Range → List Range
overlap r s = range_of (int_max r.0 s.0) (int_min r.1 s.1)

pub common_left : (r s : Range) (rs ss : List Range) → r.1 <ℤ s.1 → common (r ∷ rs) (s ∷ ss) ≡ overlap r s ++ common rs (s ∷ ss)
unfolding common common_from
common_left r s rs ss h = rw (int_lt_true r.1 s.1 h) refl

pub common_right : (r s : Range) (rs ss : List Range) → s.1 ≤ℤ r.1 → common (r ∷ rs) (s ∷ ss) ≡ overlap r s ++ common (r ∷ rs) ss
unfolding common common_from
common_right r s rs ss h = rw (int_lt_false r.1 s.1 h) refl

pub common_none_left : (ss : List Range) → common [] ss ≡ []
unfolding common
common_none_left ss = refl

pub common_none_right : (rs : List Range) → common rs [] ≡ []
unfolding common common_from
common_none_right [] = refl
common_none_right (r ∷ rs) = refl
