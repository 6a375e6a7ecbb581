-- Tests on one token.
use Rattle.std.specs.Prelude.{ℕ, Bool, false, Option, nat_eq}
use Rattle.mz_grammar.specs.Tokens.{passes}
use Rattle.mz_lexer.specs.declared.token.Tok.{Tok}
use Rattle.mz_lexer.specs.declared.token.Tok.TheVariants.{Word, Sym}
use Rattle.mz_base.specs.declared.keyword.Keyword.{Keyword}
use Rattle.mz_base.specs.declared.keyword.Keyword.TheVariants.{KAnn, KAnnotation, KAny, KArray, KBool, KCase, KConstraint, KDefault, KDiff, KDiv, KElse, KElseif, KEndif, KEnum, KFalse, KFloat, KFunction, KIf, KIn, KInclude, KInt, KIntersect, KLet, KList, KMaximize, KMinimize, KMod, KNot, KOf, KOp, KOpt, KOutput, KPar, KPredicate, KRecord, KSatisfy, KSet, KSolve, KString, KSubset, KSuperset, KSymdiff, KTest, KThen, KTrue, KTuple, KType, KUnion, KVar, KWhere, KXor}
use Rattle.mz_lexer.specs.declared.token.Symbol.{Symbol}
use Rattle.mz_lexer.specs.declared.token.Symbol.TheVariants.{SLParen, SRParen, SLBrack, SRBrack, SLBrace, SRBrace, SLRows, SRRows, SBar, SComma, SSemi, SColon, SColons, SDots, SEq, SEqEq, SNe, SLt, SLe, SGt, SGe, SRimp, SImp, SIff, SOr, SAnd, SPlus, SMinus, SStar, SCaret, SConcat, SAbsent}

-- the number of a keyword, and of a symbol, in the order of their lists
unfoldable pub keyword_number : Keyword → ℕ
keyword_number KAnn = 0
keyword_number KAnnotation = 1
keyword_number KAny = 2
keyword_number KArray = 3
keyword_number KBool = 4
keyword_number KCase = 5
keyword_number KConstraint = 6
keyword_number KDefault = 7
keyword_number KDiff = 8
keyword_number KDiv = 9
keyword_number KElse = 10
keyword_number KElseif = 11
keyword_number KEndif = 12
keyword_number KEnum = 13
keyword_number KFalse = 14
keyword_number KFloat = 15
keyword_number KFunction = 16
keyword_number KIf = 17
keyword_number KIn = 18
keyword_number KInclude = 19
keyword_number KInt = 20
keyword_number KIntersect = 21
keyword_number KLet = 22
keyword_number KList = 23
keyword_number KMaximize = 24
keyword_number KMinimize = 25
keyword_number KMod = 26
keyword_number KNot = 27
keyword_number KOf = 28
keyword_number KOp = 29
keyword_number KOpt = 30
keyword_number KOutput = 31
keyword_number KPar = 32
keyword_number KPredicate = 33
keyword_number KRecord = 34
keyword_number KSatisfy = 35
keyword_number KSet = 36
keyword_number KSolve = 37
keyword_number KString = 38
keyword_number KSubset = 39
keyword_number KSuperset = 40
keyword_number KSymdiff = 41
keyword_number KTest = 42
keyword_number KThen = 43
keyword_number KTrue = 44
keyword_number KTuple = 45
keyword_number KType = 46
keyword_number KUnion = 47
keyword_number KVar = 48
keyword_number KWhere = 49
keyword_number KXor = 50

unfoldable pub symbol_number : Symbol → ℕ
symbol_number SLParen = 0
symbol_number SRParen = 1
symbol_number SLBrack = 2
symbol_number SRBrack = 3
symbol_number SLBrace = 4
symbol_number SRBrace = 5
symbol_number SLRows = 6
symbol_number SRRows = 7
symbol_number SBar = 8
symbol_number SComma = 9
symbol_number SSemi = 10
symbol_number SColon = 11
symbol_number SColons = 12
symbol_number SDots = 13
symbol_number SEq = 14
symbol_number SEqEq = 15
symbol_number SNe = 16
symbol_number SLt = 17
symbol_number SLe = 18
symbol_number SGt = 19
symbol_number SGe = 20
symbol_number SRimp = 21
symbol_number SImp = 22
symbol_number SIff = 23
symbol_number SOr = 24
symbol_number SAnd = 25
symbol_number SPlus = 26
symbol_number SMinus = 27
symbol_number SStar = 28
symbol_number SCaret = 29
symbol_number SConcat = 30
symbol_number SAbsent = 31

-- it is this keyword, or this symbol
abbrev pub is_keyword : Keyword → Tok → Bool
is_keyword k (Word w) = nat_eq (keyword_number w) (keyword_number k)
is_keyword k _ = false

abbrev pub is_symbol : Symbol → Tok → Bool
is_symbol s (Sym t) = nat_eq (symbol_number t) (symbol_number s)
is_symbol s _ = false

-- the next token is this keyword, or this symbol
abbrev pub is_word : Keyword → Option Tok → Bool
is_word k o = passes (is_keyword k) o

abbrev pub is_sym : Symbol → Option Tok → Bool
is_sym s o = passes (is_symbol s) o
