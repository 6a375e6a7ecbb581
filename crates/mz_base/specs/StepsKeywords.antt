-- Mirror of src/keyword.rt; private clauses only. The keywords by their first bytes.
use Rattle.std.specs.Prelude.{ℕ, List, [], ◌∷◌, nat_eq, if◌then◌else◌}
use Rattle.mz_base.specs.declared.keyword.Keyword.{Keyword}
use Rattle.mz_base.specs.declared.keyword.Keyword.TheVariants.{KAnn, KAnnotation, KAny, KArray, KBool, KCase, KConstraint, KDefault, KDiff, KDiv, KElse, KElseif, KEndif, KEnum, KFalse, KFloat, KFunction, KIf, KIn, KInclude, KInt, KIntersect, KLet, KList, KMaximize, KMinimize, KMod, KNot, KOf, KOp, KOpt, KOutput, KPar, KPredicate, KRecord, KSatisfy, KSet, KSolve, KString, KSubset, KSuperset, KSymdiff, KTest, KThen, KTrue, KTuple, KType, KUnion, KVar, KWhere, KXor}

-- the keywords that begin with a byte
unfoldable pub keywords_with : ℕ → List Keyword
keywords_with b =
    if nat_eq b 97 then KAnn ∷ KAnnotation ∷ KAny ∷ KArray ∷ [] else
    if nat_eq b 98 then KBool ∷ [] else
    if nat_eq b 99 then KCase ∷ KConstraint ∷ [] else
    if nat_eq b 100 then KDefault ∷ KDiff ∷ KDiv ∷ [] else
    if nat_eq b 101 then KElse ∷ KElseif ∷ KEndif ∷ KEnum ∷ [] else
    if nat_eq b 102 then KFalse ∷ KFloat ∷ KFunction ∷ [] else
    if nat_eq b 105 then KIf ∷ KIn ∷ KInclude ∷ KInt ∷ KIntersect ∷ [] else
    if nat_eq b 108 then KLet ∷ KList ∷ [] else
    if nat_eq b 109 then KMaximize ∷ KMinimize ∷ KMod ∷ [] else
    if nat_eq b 110 then KNot ∷ [] else
    if nat_eq b 111 then KOf ∷ KOp ∷ KOpt ∷ KOutput ∷ [] else
    if nat_eq b 112 then KPar ∷ KPredicate ∷ [] else
    if nat_eq b 114 then KRecord ∷ [] else
    if nat_eq b 115 then KSatisfy ∷ KSet ∷ KSolve ∷ KString ∷ KSubset ∷ KSuperset ∷ KSymdiff ∷ [] else
    if nat_eq b 116 then KTest ∷ KThen ∷ KTrue ∷ KTuple ∷ KType ∷ [] else
    if nat_eq b 117 then KUnion ∷ [] else
    if nat_eq b 118 then KVar ∷ [] else
    if nat_eq b 119 then KWhere ∷ [] else
    if nat_eq b 120 then KXor ∷ [] else
    []
