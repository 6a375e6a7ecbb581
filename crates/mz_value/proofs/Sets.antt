-- What a set's ranges are known to be.
use Rattle.std.proofs.Common.{◌≡◌, List, subst, sym}
use Rattle.mz_value.specs.Ranges.{Range, AreCanonical, AreInLimit, IsIntersection, IsDifference, IsUnion, least}
use Rattle.mz_value.specs.StepsWalks.{common, gaps, merged, joined}
use Rattle.mz_value.proofs.Common.{common_members, common_canonical, common_limit}
use Rattle.mz_value.proofs.Gaps.{gaps_canonical, begins_least, difference_members}
use Rattle.mz_value.proofs.Joined.{union_members, union_canonical, union_limit}

abbrev pub IsSound : List Range → Type 0
IsSound s = AreCanonical s × AreInLimit s

pub sound_same : (s t : List Range) → s ≡ t → IsSound s → IsSound t
sound_same s t same sound = let P : List Range → Type 0 = IsSound in subst P same sound

-- a set that is made of two sets, with what it has of them
abbrev pub Makes : (List Range → List Range → List Range → Type 0) → List Range → List Range → List Range → Type 0
Makes R a b s = R a b s × AreCanonical s × AreInLimit s

pub makes_intersection : (a b s : List Range) → IsSound a → IsSound b → s ≡ common a b → Makes IsIntersection a b s
makes_intersection a b s sa sb made =
    let P : List Range → Type 0 = Makes IsIntersection a b in
    subst P (sym made) (common_members a b sa.0 sb.0, common_canonical a b sa.0 sb.0, common_limit a b sa.1)

pub makes_difference : (a b s : List Range) → IsSound a → IsSound b → s ≡ common a (gaps least b) → Makes IsDifference a b s
makes_difference a b s sa sb made =
    let P : List Range → Type 0 = Makes IsDifference a b in
    let missing = gaps_canonical least b sb.0 (begins_least b sb.1) in
    subst P (sym made) (difference_members a b sa.0 sa.1 sb.0 sb.1, common_canonical a (gaps least b) sa.0 missing, common_limit a (gaps least b) sa.1)

pub makes_union : (a b s : List Range) → IsSound a → IsSound b → s ≡ joined (merged a b) → Makes IsUnion a b s
makes_union a b s sa sb made =
    let P : List Range → Type 0 = Makes IsUnion a b in
    subst P (sym made) (union_members a b sa.0 sa.1 sb.0 sb.1, union_canonical a b sa.0 sa.1 sb.0 sb.1, union_limit a b sa.1 sb.1)
