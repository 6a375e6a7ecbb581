-- Mirror of src/walks.rt; private clauses only. How sets are made: each walk goes along its lists once.
use Rattle.std.specs.Prelude.{◌≡◌, refl, ℤ, pos, List, [], ◌∷◌, ◌++◌, ◌+ℤ◌, ◌-ℤ◌, if◌then◌else◌, int_le, int_lt}
use Rattle.std.specs.Int.{int_max, int_min}
use Rattle.mz_value.specs.Ranges.{Range, range_of, greatest}

-- a range, and what is after it in its list, merged with another list by their least elements
unfoldable pub merged_from : Range → (List Range → List Range) → List Range → List Range
merged_from r behind [] = r ∷ behind []
merged_from r behind (s ∷ ss) = if int_le r.0 s.0 then r ∷ behind (s ∷ ss) else s ∷ merged_from r behind ss

-- two lists, each ascending by its ranges' least elements, as one such list
unfoldable pub merged : List Range → List Range → List Range
merged [] ss = ss
merged (r ∷ rs) ss = merged_from r (merged rs) ss

-- a range grows over those after it that overlap or touch it
unfoldable pub joined_from : Range → List Range → List Range
joined_from r [] = r ∷ []
joined_from r (s ∷ ss) = if int_le s.0 (r.1 +ℤ pos 1) then joined_from (r.0, int_max r.1 s.1) ss else r ∷ joined_from s ss

-- ranges that ascend by their least elements, with those joined that overlap or touch
unfoldable pub joined : List Range → List Range
joined [] = []
joined (r ∷ rs) = joined_from r rs

-- what a range, and what is after it in its list, has in common with another list
unfoldable pub common_from : Range → (List Range → List Range) → List Range → List Range
common_from r behind [] = []
common_from r behind (s ∷ ss) = range_of (int_max r.0 s.0) (int_min r.1 s.1) ++ (if int_lt r.1 s.1 then behind (s ∷ ss) else common_from r behind ss)

-- what two lists have in common
unfoldable pub common : List Range → List Range → List Range
common [] ss = []
common (r ∷ rs) ss = common_from r (common rs) ss

-- the integers of the limit from lo on that no range has
unfoldable pub gaps : ℤ → List Range → List Range
gaps lo [] = range_of lo greatest
gaps lo (r ∷ rs) = range_of lo (r.0 -ℤ pos 1) ++ gaps (r.1 +ℤ pos 1) rs

-- worked examples

in_order : merged ((pos 1, pos 2) ∷ (pos 7, pos 7) ∷ []) ((pos 4, pos 9) ∷ []) ≡ (pos 1, pos 2) ∷ (pos 4, pos 9) ∷ (pos 7, pos 7) ∷ []
unfolding merged merged_from
in_order = refl

touching : joined ((pos 1, pos 2) ∷ (pos 3, pos 4) ∷ (pos 6, pos 6) ∷ []) ≡ (pos 1, pos 4) ∷ (pos 6, pos 6) ∷ []
unfolding joined joined_from
touching = refl

both : common ((pos 1, pos 3) ∷ (pos 8, pos 9) ∷ []) ((pos 2, pos 8) ∷ []) ≡ (pos 2, pos 3) ∷ (pos 8, pos 8) ∷ []
unfolding common common_from
both = refl

missing : gaps (pos 0) ((pos 0, pos 3) ∷ (pos 5, greatest) ∷ []) ≡ (pos 4, pos 4) ∷ []
unfolding gaps
missing = refl
