-- Symbols with one number are one symbol, and so are keywords.
use Rattle.std.proofs.Common.{◌≡◌, ℕ, zero, suc, List, [], ◌∷◌, refl, sym, ap, ◌∙◌, true}
use Rattle.std.proofs.lemmas.Bool.{eqb-true}
use Rattle.mz_base.specs.declared.keyword.Keyword.{Keyword}
use Rattle.mz_base.specs.declared.keyword.Keyword.TheVariants.{KAnn, KAnnotation, KAny, KArray, KBool, KCase, KConstraint, KDefault, KDiff, KDiv, KElse, KElseif, KEndif, KEnum, KFalse, KFloat, KFunction, KIf, KIn, KInclude, KInt, KIntersect, KLet, KList, KMaximize, KMinimize, KMod, KNot, KOf, KOp, KOpt, KOutput, KPar, KPredicate, KRecord, KSatisfy, KSet, KSolve, KString, KSubset, KSuperset, KSymdiff, KTest, KThen, KTrue, KTuple, KType, KUnion, KVar, KWhere, KXor}
use Rattle.mz_lexer.specs.declared.token.Tok.{Tok}
use Rattle.mz_lexer.specs.declared.token.Tok.TheVariants.{Word, Sym}
use Rattle.mz_lexer.specs.declared.token.Symbol.{Symbol}
use Rattle.mz_lexer.specs.declared.token.Symbol.TheVariants.{SLParen, SRParen, SLBrack, SRBrack, SLBrace, SRBrace, SLRows, SRRows, SBar, SComma, SSemi, SColon, SColons, SDots, SEq, SEqEq, SNe, SLt, SLe, SGt, SGe, SRimp, SImp, SIff, SOr, SAnd, SPlus, SMinus, SStar, SCaret, SConcat, SAbsent}
use Rattle.mz_grammar.specs.Look.{symbol_number, keyword_number, is_symbol, is_keyword}

nth : {A : Type 0} → A → List A → ℕ → A
nth other [] n = other
nth other (x ∷ xs) zero = x
nth other (x ∷ xs) (suc n) = nth other xs n

symbol_at : ℕ → Symbol
symbol_at n = nth SLParen (SLParen ∷ SRParen ∷ SLBrack ∷ SRBrack ∷ SLBrace ∷ SRBrace ∷ SLRows ∷ SRRows ∷ SBar ∷ SComma ∷ SSemi ∷ SColon ∷ SColons ∷ SDots ∷ SEq ∷ SEqEq ∷ SNe ∷ SLt ∷ SLe ∷ SGt ∷ SGe ∷ SRimp ∷ SImp ∷ SIff ∷ SOr ∷ SAnd ∷ SPlus ∷ SMinus ∷ SStar ∷ SCaret ∷ SConcat ∷ SAbsent ∷ []) n

keyword_at : ℕ → Keyword
keyword_at n = nth KAnn (KAnn ∷ KAnnotation ∷ KAny ∷ KArray ∷ KBool ∷ KCase ∷ KConstraint ∷ KDefault ∷ KDiff ∷ KDiv ∷ KElse ∷ KElseif ∷ KEndif ∷ KEnum ∷ KFalse ∷ KFloat ∷ KFunction ∷ KIf ∷ KIn ∷ KInclude ∷ KInt ∷ KIntersect ∷ KLet ∷ KList ∷ KMaximize ∷ KMinimize ∷ KMod ∷ KNot ∷ KOf ∷ KOp ∷ KOpt ∷ KOutput ∷ KPar ∷ KPredicate ∷ KRecord ∷ KSatisfy ∷ KSet ∷ KSolve ∷ KString ∷ KSubset ∷ KSuperset ∷ KSymdiff ∷ KTest ∷ KThen ∷ KTrue ∷ KTuple ∷ KType ∷ KUnion ∷ KVar ∷ KWhere ∷ KXor ∷ []) n

symbol_back : (s : Symbol) → symbol_at (symbol_number s) ≡ s
unfolding symbol_number symbol_at nth
symbol_back SLParen = refl
symbol_back _ = refl

keyword_back : (k : Keyword) → keyword_at (keyword_number k) ≡ k
unfolding keyword_number keyword_at nth
keyword_back KAnn = refl
keyword_back _ = refl

pub same_symbol : (s : Symbol) (k : Tok) → is_symbol s k ≡ true → k ≡ Sym s
same_symbol s (Sym t) e = ap Sym (sym (symbol_back t) ∙ ap symbol_at (eqb-true _ _ e) ∙ symbol_back s)
same_symbol s _ e = absurd (cc)

pub same_word : (w : Keyword) (k : Tok) → is_keyword w k ≡ true → k ≡ Word w
same_word w (Word t) e = ap Word (sym (keyword_back t) ∙ ap keyword_at (eqb-true _ _ e) ∙ keyword_back w)
same_word w _ e = absurd (cc)
