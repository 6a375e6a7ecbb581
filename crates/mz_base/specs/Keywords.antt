-- The keywords and how they are spelled.
use Rattle.std.specs.Prelude.{ℕ, List, [], ◌∷◌, codes, Option, find}
use Rattle.std.specs.Str.{bytes_eq}
use Rattle.mz_base.specs.declared.keyword.Keyword.{Keyword}
use Rattle.mz_base.specs.declared.keyword.Keyword.TheVariants.{KAnn, KAnnotation, KAny, KArray, KBool, KCase, KConstraint, KDefault, KDiff, KDiv, KElse, KElseif, KEndif, KEnum, KFalse, KFloat, KFunction, KIf, KIn, KInclude, KInt, KIntersect, KLet, KList, KMaximize, KMinimize, KMod, KNot, KOf, KOp, KOpt, KOutput, KPar, KPredicate, KRecord, KSatisfy, KSet, KSolve, KString, KSubset, KSuperset, KSymdiff, KTest, KThen, KTrue, KTuple, KType, KUnion, KVar, KWhere, KXor}

-- how a keyword is spelled
abbrev pub keyword_text : Keyword → List ℕ
keyword_text KAnn = codes "ann"
keyword_text KAnnotation = codes "annotation"
keyword_text KAny = codes "any"
keyword_text KArray = codes "array"
keyword_text KBool = codes "bool"
keyword_text KCase = codes "case"
keyword_text KConstraint = codes "constraint"
keyword_text KDefault = codes "default"
keyword_text KDiff = codes "diff"
keyword_text KDiv = codes "div"
keyword_text KElse = codes "else"
keyword_text KElseif = codes "elseif"
keyword_text KEndif = codes "endif"
keyword_text KEnum = codes "enum"
keyword_text KFalse = codes "false"
keyword_text KFloat = codes "float"
keyword_text KFunction = codes "function"
keyword_text KIf = codes "if"
keyword_text KIn = codes "in"
keyword_text KInclude = codes "include"
keyword_text KInt = codes "int"
keyword_text KIntersect = codes "intersect"
keyword_text KLet = codes "let"
keyword_text KList = codes "list"
keyword_text KMaximize = codes "maximize"
keyword_text KMinimize = codes "minimize"
keyword_text KMod = codes "mod"
keyword_text KNot = codes "not"
keyword_text KOf = codes "of"
keyword_text KOp = codes "op"
keyword_text KOpt = codes "opt"
keyword_text KOutput = codes "output"
keyword_text KPar = codes "par"
keyword_text KPredicate = codes "predicate"
keyword_text KRecord = codes "record"
keyword_text KSatisfy = codes "satisfy"
keyword_text KSet = codes "set"
keyword_text KSolve = codes "solve"
keyword_text KString = codes "string"
keyword_text KSubset = codes "subset"
keyword_text KSuperset = codes "superset"
keyword_text KSymdiff = codes "symdiff"
keyword_text KTest = codes "test"
keyword_text KThen = codes "then"
keyword_text KTrue = codes "true"
keyword_text KTuple = codes "tuple"
keyword_text KType = codes "type"
keyword_text KUnion = codes "union"
keyword_text KVar = codes "var"
keyword_text KWhere = codes "where"
keyword_text KXor = codes "xor"

-- every keyword, once
abbrev pub all_keywords : List Keyword
all_keywords = KAnn ∷ KAnnotation ∷ KAny ∷ KArray ∷ KBool ∷ KCase ∷ KConstraint ∷ KDefault ∷ KDiff ∷ KDiv ∷ KElse ∷ KElseif ∷ KEndif ∷ KEnum ∷ KFalse ∷ KFloat ∷ KFunction ∷ KIf ∷ KIn ∷ KInclude ∷ KInt ∷ KIntersect ∷ KLet ∷ KList ∷ KMaximize ∷ KMinimize ∷ KMod ∷ KNot ∷ KOf ∷ KOp ∷ KOpt ∷ KOutput ∷ KPar ∷ KPredicate ∷ KRecord ∷ KSatisfy ∷ KSet ∷ KSolve ∷ KString ∷ KSubset ∷ KSuperset ∷ KSymdiff ∷ KTest ∷ KThen ∷ KTrue ∷ KTuple ∷ KType ∷ KUnion ∷ KVar ∷ KWhere ∷ KXor ∷ []

-- the keyword that a word is, if it is one
unfoldable pub keyword_of : List ℕ → Option Keyword
keyword_of w = find (λ k. bytes_eq (keyword_text k) w) all_keywords
