-- Keywords and symbols: what is found is spelled so, and as long as it can be.
use Rattle.std.proofs.Common.{◌≡◌, ℕ, ◌<◌, ◌≤◌, List, [], ◌∷◌, ◌++◌, length, take, Bool, true, false, cond, refl, sym, ap, subst, ◌∙◌, arith}
use Rattle.std.specs.Prelude.{Option, Some, None, nat_eq, find}
use Rattle.std.specs.Str.{bytes_eq}
use Rattle.std.proofs.lemmas.Slice.Eq.{bytes_eq-Decides}
use Rattle.std.proofs.lemmas.Bool.Decides.{Decides-eqb}
use Rattle.mz_base.specs.declared.keyword.Keyword.{Keyword}
use Rattle.mz_base.specs.declared.keyword.Keyword.TheVariants.{KAnn, KAnnotation, KAny, KArray, KBool, KCase, KConstraint, KDefault, KDiff, KDiv, KElse, KElseif, KEndif, KEnum, KFalse, KFloat, KFunction, KIf, KIn, KInclude, KInt, KIntersect, KLet, KList, KMaximize, KMinimize, KMod, KNot, KOf, KOp, KOpt, KOutput, KPar, KPredicate, KRecord, KSatisfy, KSet, KSolve, KString, KSubset, KSuperset, KSymdiff, KTest, KThen, KTrue, KTuple, KType, KUnion, KVar, KWhere, KXor}
use Rattle.mz_base.proofs.Choices.{pick}
use Rattle.mz_lexer.specs.declared.token.Symbol.{Symbol}
use Rattle.mz_lexer.specs.declared.token.Symbol.TheVariants.{SLParen, SRParen, SLBrack, SRBrack, SLBrace, SRBrace, SLRows, SRRows, SBar, SComma, SSemi, SColon, SColons, SDots, SEq, SEqEq, SNe, SLt, SLe, SGt, SGe, SRimp, SImp, SIff, SOr, SAnd, SPlus, SMinus, SStar, SCaret, SConcat, SAbsent}
use Rattle.mz_lexer.specs.Bytes.{first_byte, second_byte, third_byte}
use Rattle.mz_base.specs.Keywords.{keyword_text, keyword_of, all_keywords}
use Rattle.mz_lexer.specs.Symbols.{symbol_text}
use Rattle.mz_lexer.specs.StepsSymbols.{symbol_at, less_at}
use Rattle.mz_base.specs.Words.{is_word}

found_passes : {A : Type 0} (p : A → Bool) (xs : List A) (x : A) → find p xs ≡ Some x → p x ≡ true
found_passes p [] x e = cc
found_passes p (y ∷ ys) x e = go (p y) refl e (found_passes p ys x)
  where
    go : (t : Bool) → p y ≡ t → cond t (Some y) (find p ys) ≡ Some x → (find p ys ≡ Some x → p x ≡ true) → p x ≡ true
    go true is e rest = let same : y ≡ x = cc in subst (λ z. p z ≡ true) same is
    go false is e rest = rest e

-- the keyword that is found is spelled so
pub keyword_known : (w : List ℕ) (k : Keyword) → keyword_of w ≡ Some k → keyword_text k ≡ w
unfolding keyword_of
keyword_known w k e = (bytes_eq-Decides (keyword_text k) w).0 (found_passes (λ x. bytes_eq (keyword_text x) w) all_keywords k e)

pub keyword_found : (k : Keyword) → keyword_of (keyword_text k) ≡ Some k
unfolding keyword_of
keyword_found KAnn = refl
keyword_found KAnnotation = refl
keyword_found KAny = refl
keyword_found KArray = refl
keyword_found KBool = refl
keyword_found KCase = refl
keyword_found KConstraint = refl
keyword_found KDefault = refl
keyword_found KDiff = refl
keyword_found KDiv = refl
keyword_found KElse = refl
keyword_found KElseif = refl
keyword_found KEndif = refl
keyword_found KEnum = refl
keyword_found KFalse = refl
keyword_found KFloat = refl
keyword_found KFunction = refl
keyword_found KIf = refl
keyword_found KIn = refl
keyword_found KInclude = refl
keyword_found KInt = refl
keyword_found KIntersect = refl
keyword_found KLet = refl
keyword_found KList = refl
keyword_found KMaximize = refl
keyword_found KMinimize = refl
keyword_found KMod = refl
keyword_found KNot = refl
keyword_found KOf = refl
keyword_found KOp = refl
keyword_found KOpt = refl
keyword_found KOutput = refl
keyword_found KPar = refl
keyword_found KPredicate = refl
keyword_found KRecord = refl
keyword_found KSatisfy = refl
keyword_found KSet = refl
keyword_found KSolve = refl
keyword_found KString = refl
keyword_found KSubset = refl
keyword_found KSuperset = refl
keyword_found KSymdiff = refl
keyword_found KTest = refl
keyword_found KThen = refl
keyword_found KTrue = refl
keyword_found KTuple = refl
keyword_found KType = refl
keyword_found KUnion = refl
keyword_found KVar = refl
keyword_found KWhere = refl
keyword_found KXor = refl

pub keyword_is_word : (k : Keyword) → is_word (keyword_text k) ≡ true
keyword_is_word KAnn = refl
keyword_is_word KAnnotation = refl
keyword_is_word KAny = refl
keyword_is_word KArray = refl
keyword_is_word KBool = refl
keyword_is_word KCase = refl
keyword_is_word KConstraint = refl
keyword_is_word KDefault = refl
keyword_is_word KDiff = refl
keyword_is_word KDiv = refl
keyword_is_word KElse = refl
keyword_is_word KElseif = refl
keyword_is_word KEndif = refl
keyword_is_word KEnum = refl
keyword_is_word KFalse = refl
keyword_is_word KFloat = refl
keyword_is_word KFunction = refl
keyword_is_word KIf = refl
keyword_is_word KIn = refl
keyword_is_word KInclude = refl
keyword_is_word KInt = refl
keyword_is_word KIntersect = refl
keyword_is_word KLet = refl
keyword_is_word KList = refl
keyword_is_word KMaximize = refl
keyword_is_word KMinimize = refl
keyword_is_word KMod = refl
keyword_is_word KNot = refl
keyword_is_word KOf = refl
keyword_is_word KOp = refl
keyword_is_word KOpt = refl
keyword_is_word KOutput = refl
keyword_is_word KPar = refl
keyword_is_word KPredicate = refl
keyword_is_word KRecord = refl
keyword_is_word KSatisfy = refl
keyword_is_word KSet = refl
keyword_is_word KSolve = refl
keyword_is_word KString = refl
keyword_is_word KSubset = refl
keyword_is_word KSuperset = refl
keyword_is_word KSymdiff = refl
keyword_is_word KTest = refl
keyword_is_word KThen = refl
keyword_is_word KTrue = refl
keyword_is_word KTuple = refl
keyword_is_word KType = refl
keyword_is_word KUnion = refl
keyword_is_word KVar = refl
keyword_is_word KWhere = refl
keyword_is_word KXor = refl

-- a symbol that is found comes first
pub data IsFound (bs : List ℕ) : Option (Symbol × ℕ) → Type 0 where
  none_found : IsFound bs None
  one_found : {s : Symbol} {n : ℕ} → take n bs ≡ symbol_text s → n ≤ length bs → IsFound bs (Some (s, n))

same_byte : (a k : ℕ) → nat_eq a k ≡ true → a ≡ k
same_byte a k e = (Decides-eqb a k).0 e

one_long : (bs : List ℕ) (k : ℕ) (s : Symbol) → symbol_text s ≡ k ∷ [] → 0 < k → first_byte bs ≡ k → IsFound bs (Some (s, 1))
one_long [] k s text some e = absurd (omega arith)
one_long (b ∷ bs) k s text some e = one_found (ap (λ x. x ∷ []) e ∙ sym text) (omega arith)

two_long : (bs : List ℕ) (k j : ℕ) (s : Symbol) → symbol_text s ≡ k ∷ j ∷ [] → 0 < k → 0 < j → first_byte bs ≡ k → second_byte bs ≡ j → IsFound bs (Some (s, 2))
two_long [] k j s text some more e f = absurd (omega arith)
two_long (b ∷ []) k j s text some more e f = absurd (omega arith)
two_long (b ∷ c ∷ bs) k j s text some more e f = one_found (ap (λ x. x ∷ c ∷ []) e ∙ ap (λ x. k ∷ x ∷ []) f ∙ sym text) (omega arith)

three_long : (bs : List ℕ) (k j i : ℕ) (s : Symbol) → symbol_text s ≡ k ∷ j ∷ i ∷ [] → 0 < k → 0 < j → 0 < i → first_byte bs ≡ k → second_byte bs ≡ j → third_byte bs ≡ i → IsFound bs (Some (s, 3))
three_long [] k j i s text some more most e f g = absurd (omega arith)
three_long (b ∷ []) k j i s text some more most e f g = absurd (omega arith)
three_long (b ∷ c ∷ []) k j i s text some more most e f g = absurd (omega arith)
three_long (b ∷ c ∷ d ∷ bs) k j i s text some more most e f g = one_found (ap (λ x. x ∷ c ∷ d ∷ []) e ∙ ap (λ x. k ∷ x ∷ d ∷ []) f ∙ ap (λ x. k ∷ j ∷ x ∷ []) g ∙ sym text) (omega arith)

module _ (bs : List ℕ) where
  one : (k : ℕ) (s : Symbol) → symbol_text s ≡ k ∷ [] → 0 < k → nat_eq (first_byte bs) k ≡ true → IsFound bs (Some (s, 1))
  one k s text some e = one_long bs k s text some (same_byte _ k e)

  two : (k j : ℕ) (s : Symbol) (other : Option (Symbol × ℕ)) → symbol_text s ≡ k ∷ j ∷ [] → 0 < k → 0 < j → nat_eq (first_byte bs) k ≡ true → IsFound bs other → IsFound bs (cond (nat_eq (second_byte bs) j) (Some (s, 2)) other)
  two k j s other text some more e rest = pick (IsFound bs) (nat_eq (second_byte bs) j) _ _ (λ f. two_long bs k j s text some more (same_byte _ k e) (same_byte _ j f)) (λ _. rest)

  less_found : nat_eq (first_byte bs) 60 ≡ true → IsFound bs (less_at (second_byte bs) (third_byte bs))
  unfolding less_at
  less_found e = two 60 61 SLe _ refl (omega arith) (omega arith) e
      (pick (IsFound bs) (nat_eq (second_byte bs) 45) _ _
      (λ f. pick (IsFound bs) (nat_eq (third_byte bs) 62) _ _
      (λ g. three_long bs 60 45 62 SIff refl (omega arith) (omega arith) (omega arith) (same_byte _ 60 e) (same_byte _ 45 f) (same_byte _ 62 g))
      (λ _. two_long bs 60 45 SRimp refl (omega arith) (omega arith) (same_byte _ 60 e) (same_byte _ 45 f)))
      (λ _. two 60 62 SAbsent _ refl (omega arith) (omega arith) e (one 60 SLt refl (omega arith) e)))

  pub symbol_is_found : IsFound bs (symbol_at (first_byte bs) (second_byte bs) (third_byte bs))
  unfolding symbol_at
  symbol_is_found =
      pick (IsFound bs) (nat_eq (first_byte bs) 40) _ _ (λ e. one 40 SLParen refl (omega arith) e) (λ _.
      pick (IsFound bs) (nat_eq (first_byte bs) 41) _ _ (λ e. one 41 SRParen refl (omega arith) e) (λ _.
      pick (IsFound bs) (nat_eq (first_byte bs) 91) _ _ (λ e. two 91 124 SLRows _ refl (omega arith) (omega arith) e (one 91 SLBrack refl (omega arith) e)) (λ _.
      pick (IsFound bs) (nat_eq (first_byte bs) 93) _ _ (λ e. one 93 SRBrack refl (omega arith) e) (λ _.
      pick (IsFound bs) (nat_eq (first_byte bs) 123) _ _ (λ e. one 123 SLBrace refl (omega arith) e) (λ _.
      pick (IsFound bs) (nat_eq (first_byte bs) 125) _ _ (λ e. one 125 SRBrace refl (omega arith) e) (λ _.
      pick (IsFound bs) (nat_eq (first_byte bs) 124) _ _ (λ e. two 124 93 SRRows _ refl (omega arith) (omega arith) e (one 124 SBar refl (omega arith) e)) (λ _.
      pick (IsFound bs) (nat_eq (first_byte bs) 44) _ _ (λ e. one 44 SComma refl (omega arith) e) (λ _.
      pick (IsFound bs) (nat_eq (first_byte bs) 59) _ _ (λ e. one 59 SSemi refl (omega arith) e) (λ _.
      pick (IsFound bs) (nat_eq (first_byte bs) 58) _ _ (λ e. two 58 58 SColons _ refl (omega arith) (omega arith) e (one 58 SColon refl (omega arith) e)) (λ _.
      pick (IsFound bs) (nat_eq (first_byte bs) 46) _ _ (λ e. two 46 46 SDots _ refl (omega arith) (omega arith) e none_found) (λ _.
      pick (IsFound bs) (nat_eq (first_byte bs) 61) _ _ (λ e. two 61 61 SEqEq _ refl (omega arith) (omega arith) e (one 61 SEq refl (omega arith) e)) (λ _.
      pick (IsFound bs) (nat_eq (first_byte bs) 33) _ _ (λ e. two 33 61 SNe _ refl (omega arith) (omega arith) e none_found) (λ _.
      pick (IsFound bs) (nat_eq (first_byte bs) 60) _ _ (λ e. less_found e) (λ _.
      pick (IsFound bs) (nat_eq (first_byte bs) 62) _ _ (λ e. two 62 61 SGe _ refl (omega arith) (omega arith) e (one 62 SGt refl (omega arith) e)) (λ _.
      pick (IsFound bs) (nat_eq (first_byte bs) 45) _ _ (λ e. two 45 62 SImp _ refl (omega arith) (omega arith) e (one 45 SMinus refl (omega arith) e)) (λ _.
      pick (IsFound bs) (nat_eq (first_byte bs) 92) _ _ (λ e. two 92 47 SOr _ refl (omega arith) (omega arith) e none_found) (λ _.
      pick (IsFound bs) (nat_eq (first_byte bs) 47) _ _ (λ e. two 47 92 SAnd _ refl (omega arith) (omega arith) e none_found) (λ _.
      pick (IsFound bs) (nat_eq (first_byte bs) 43) _ _ (λ e. two 43 43 SConcat _ refl (omega arith) (omega arith) e (one 43 SPlus refl (omega arith) e)) (λ _.
      pick (IsFound bs) (nat_eq (first_byte bs) 42) _ _ (λ e. one 42 SStar refl (omega arith) e) (λ _.
      pick (IsFound bs) (nat_eq (first_byte bs) 94) _ _ (λ e. one 94 SCaret refl (omega arith) e) (λ _.
      none_found)))))))))))))))))))))

-- a symbol that comes first is found, or a longer one is
pub data IsCovered (t : Symbol) : Option (Symbol × ℕ) → Type 0 where
  covered : {s : Symbol} {n : ℕ} → length (symbol_text t) ≤ n → (length (symbol_text t) ≡ n → t ≡ s) → IsCovered t (Some (s, n))

itself : (t : Symbol) (n : ℕ) → length (symbol_text t) ≡ n → IsCovered t (Some (t, n))
itself t n e = covered (omega (arith, e)) (λ _. refl)

beyond : (t s : Symbol) (n : ℕ) → length (symbol_text t) < n → IsCovered t (Some (s, n))
beyond t s n less = covered (omega (arith, less)) (λ e. absurd (omega (arith, less, e)))

at_second : (t s : Symbol) (x : Bool) → length (symbol_text t) ≡ 1 → IsCovered t (cond x (Some (s, 2)) (Some (t, 1)))
at_second t s true e = beyond t s 2 (omega (arith, e))
at_second t s false e = itself t 1 e

less_covered : (b c : ℕ) → IsCovered SLt (less_at b c)
unfolding less_at
less_covered b c =
    pick (IsCovered SLt) (nat_eq b 61) _ _ (λ _. beyond SLt SLe 2 (omega arith)) (λ _.
    pick (IsCovered SLt) (nat_eq b 45) _ _ (λ _. pick (IsCovered SLt) (nat_eq c 62) _ _ (λ _. beyond SLt SIff 3 (omega arith)) (λ _. beyond SLt SRimp 2 (omega arith))) (λ _.
    pick (IsCovered SLt) (nat_eq b 62) _ _ (λ _. beyond SLt SAbsent 2 (omega arith)) (λ _. itself SLt 1 refl)))

arrow_covered : (c : ℕ) → IsCovered SRimp (less_at 45 c)
unfolding less_at
arrow_covered c = pick (IsCovered SRimp) (nat_eq c 62) _ _ (λ _. beyond SRimp SIff 3 (omega arith)) (λ _. itself SRimp 2 refl)

less_two : (t : Symbol) (b : ℕ) (c : ℕ) → less_at b c ≡ Some (t, 2) → length (symbol_text t) ≡ 2 → IsCovered t (less_at b c)
less_two t b c e len = subst (IsCovered t) (sym e) (itself t 2 len)

le_is : (c : ℕ) → less_at 61 c ≡ Some (SLe, 2)
unfolding less_at
le_is c = refl

absent_is : (c : ℕ) → less_at 62 c ≡ Some (SAbsent, 2)
unfolding less_at
absent_is c = refl

iff_is : less_at 45 62 ≡ Some (SIff, 3)
unfolding less_at
iff_is = refl

pub symbol_is_covered : (t : Symbol) (after : List ℕ) → IsCovered t (symbol_at (first_byte (symbol_text t ++ after)) (second_byte (symbol_text t ++ after)) (third_byte (symbol_text t ++ after)))
unfolding symbol_at
symbol_is_covered SLParen after = itself SLParen 1 refl
symbol_is_covered SRParen after = itself SRParen 1 refl
symbol_is_covered SLBrack after = at_second SLBrack SLRows (nat_eq (first_byte after) 124) refl
symbol_is_covered SRBrack after = itself SRBrack 1 refl
symbol_is_covered SLBrace after = itself SLBrace 1 refl
symbol_is_covered SRBrace after = itself SRBrace 1 refl
symbol_is_covered SLRows after = itself SLRows 2 refl
symbol_is_covered SRRows after = itself SRRows 2 refl
symbol_is_covered SBar after = at_second SBar SRRows (nat_eq (first_byte after) 93) refl
symbol_is_covered SComma after = itself SComma 1 refl
symbol_is_covered SSemi after = itself SSemi 1 refl
symbol_is_covered SColon after = at_second SColon SColons (nat_eq (first_byte after) 58) refl
symbol_is_covered SColons after = itself SColons 2 refl
symbol_is_covered SDots after = itself SDots 2 refl
symbol_is_covered SEq after = at_second SEq SEqEq (nat_eq (first_byte after) 61) refl
symbol_is_covered SEqEq after = itself SEqEq 2 refl
symbol_is_covered SNe after = itself SNe 2 refl
symbol_is_covered SLt after = less_covered (first_byte after) (second_byte after)
symbol_is_covered SLe after = less_two SLe 61 (first_byte after) (le_is _) refl
symbol_is_covered SGt after = at_second SGt SGe (nat_eq (first_byte after) 61) refl
symbol_is_covered SGe after = itself SGe 2 refl
symbol_is_covered SRimp after = arrow_covered (first_byte after)
symbol_is_covered SImp after = itself SImp 2 refl
symbol_is_covered SIff after = subst (IsCovered SIff) (sym iff_is) (itself SIff 3 refl)
symbol_is_covered SOr after = itself SOr 2 refl
symbol_is_covered SAnd after = itself SAnd 2 refl
symbol_is_covered SPlus after = at_second SPlus SConcat (nat_eq (first_byte after) 43) refl
symbol_is_covered SMinus after = at_second SMinus SImp (nat_eq (first_byte after) 62) refl
symbol_is_covered SStar after = itself SStar 1 refl
symbol_is_covered SCaret after = itself SCaret 1 refl
symbol_is_covered SConcat after = itself SConcat 2 refl
symbol_is_covered SAbsent after = less_two SAbsent 62 (first_byte after) (absent_is _) refl
