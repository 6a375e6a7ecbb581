-- Each token by itself: an operator, whose lines have its level, or none.
use Rattle.std.proofs.Common.{refl}
use Rattle.mz_base.specs.declared.keyword.Keyword.TheVariants.{KAnn, KAnnotation, KAny, KArray, KBool, KCase, KConstraint, KDefault, KDiff, KDiv, KElse, KElseif, KEndif, KEnum, KFalse, KFloat, KFunction, KIf, KIn, KInclude, KInt, KIntersect, KLet, KList, KMaximize, KMinimize, KMod, KNot, KOf, KOp, KOpt, KOutput, KPar, KPredicate, KRecord, KSatisfy, KSet, KSolve, KString, KSubset, KSuperset, KSymdiff, KTest, KThen, KTrue, KTuple, KType, KUnion, KVar, KWhere, KXor}
use Rattle.mz_lexer.specs.declared.token.Tok.TheVariants.{Word, Sym, Ident, Int, Text, TextHead, TextMid, TextTail}
use Rattle.mz_lexer.specs.declared.token.Symbol.TheVariants.{SLParen, SRParen, SLBrack, SRBrack, SLBrace, SRBrace, SLRows, SRRows, SBar, SComma, SSemi, SColon, SColons, SDots, SEq, SEqEq, SNe, SLt, SLe, SGt, SGe, SRimp, SImp, SIff, SOr, SAnd, SPlus, SMinus, SStar, SCaret, SConcat, SAbsent}
use Rattle.mz_operations.specs.Lines.{lines}
use Rattle.mz_check_meaning.specs.Chains.{operator_name}
use Rattle.mz_analysis.specs.Levels.{levels_of, AreTheGrammars}

pub levels_are : AreTheGrammars
unfolding lines operator_name levels_of
levels_are (Word KAnn) = tt
levels_are (Word KAnnotation) = tt
levels_are (Word KAny) = tt
levels_are (Word KArray) = tt
levels_are (Word KBool) = tt
levels_are (Word KCase) = tt
levels_are (Word KConstraint) = tt
levels_are (Word KDefault) = tt
levels_are (Word KDiff) = refl
levels_are (Word KDiv) = refl
levels_are (Word KElse) = tt
levels_are (Word KElseif) = tt
levels_are (Word KEndif) = tt
levels_are (Word KEnum) = tt
levels_are (Word KFalse) = tt
levels_are (Word KFloat) = tt
levels_are (Word KFunction) = tt
levels_are (Word KIf) = tt
levels_are (Word KIn) = refl
levels_are (Word KInclude) = tt
levels_are (Word KInt) = tt
levels_are (Word KIntersect) = refl
levels_are (Word KLet) = tt
levels_are (Word KList) = tt
levels_are (Word KMaximize) = tt
levels_are (Word KMinimize) = tt
levels_are (Word KMod) = refl
levels_are (Word KNot) = tt
levels_are (Word KOf) = tt
levels_are (Word KOp) = tt
levels_are (Word KOpt) = tt
levels_are (Word KOutput) = tt
levels_are (Word KPar) = tt
levels_are (Word KPredicate) = tt
levels_are (Word KRecord) = tt
levels_are (Word KSatisfy) = tt
levels_are (Word KSet) = tt
levels_are (Word KSolve) = tt
levels_are (Word KString) = tt
levels_are (Word KSubset) = refl
levels_are (Word KSuperset) = refl
levels_are (Word KSymdiff) = refl
levels_are (Word KTest) = tt
levels_are (Word KThen) = tt
levels_are (Word KTrue) = tt
levels_are (Word KTuple) = tt
levels_are (Word KType) = tt
levels_are (Word KUnion) = refl
levels_are (Word KVar) = tt
levels_are (Word KWhere) = tt
levels_are (Word KXor) = refl
levels_are (Sym SLParen) = tt
levels_are (Sym SRParen) = tt
levels_are (Sym SLBrack) = tt
levels_are (Sym SRBrack) = tt
levels_are (Sym SLBrace) = tt
levels_are (Sym SRBrace) = tt
levels_are (Sym SLRows) = tt
levels_are (Sym SRRows) = tt
levels_are (Sym SBar) = tt
levels_are (Sym SComma) = tt
levels_are (Sym SSemi) = tt
levels_are (Sym SColon) = tt
levels_are (Sym SColons) = tt
levels_are (Sym SDots) = refl
levels_are (Sym SEq) = refl
levels_are (Sym SEqEq) = refl
levels_are (Sym SNe) = refl
levels_are (Sym SLt) = refl
levels_are (Sym SLe) = refl
levels_are (Sym SGt) = refl
levels_are (Sym SGe) = refl
levels_are (Sym SRimp) = refl
levels_are (Sym SImp) = refl
levels_are (Sym SIff) = refl
levels_are (Sym SOr) = refl
levels_are (Sym SAnd) = refl
levels_are (Sym SPlus) = refl
levels_are (Sym SMinus) = refl
levels_are (Sym SStar) = refl
levels_are (Sym SCaret) = refl
levels_are (Sym SConcat) = refl
levels_are (Sym SAbsent) = tt
levels_are (Ident x) = tt
levels_are (Int x) = tt
levels_are (Text x) = tt
levels_are (TextHead x) = tt
levels_are (TextMid x) = tt
levels_are (TextTail x) = tt
