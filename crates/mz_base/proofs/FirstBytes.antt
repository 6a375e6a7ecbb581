-- A keyword is sought among those that begin with its first byte.
use Rattle.std.proofs.Common.{◌≡◌, ◌<◌, ◌≤◌, ℕ, List, [], ◌∷◌, length, get_or, false, refl, sym, subst, arith}
use Rattle.std.specs.Prelude.{nat_eq, find, None}
use Rattle.std.specs.Str.{bytes_eq}
use Rattle.std.proofs.lemmas.Bool.Decides.{nat_tests, Decides-eqb}
use Rattle.mz_base.specs.declared.keyword.Keyword.{Keyword}
use Rattle.mz_base.specs.declared.keyword.Keyword.TheVariants.{KAnn, KAnnotation, KAny, KArray, KBool, KCase, KConstraint, KDefault, KDiff, KDiv, KElse, KElseif, KEndif, KEnum, KFalse, KFloat, KFunction, KIf, KIn, KInclude, KInt, KIntersect, KLet, KList, KMaximize, KMinimize, KMod, KNot, KOf, KOp, KOpt, KOutput, KPar, KPredicate, KRecord, KSatisfy, KSet, KSolve, KString, KSubset, KSuperset, KSymdiff, KTest, KThen, KTrue, KTuple, KType, KUnion, KVar, KWhere, KXor}
use Rattle.mz_base.specs.Keywords.{keyword_text, keyword_of}
use Rattle.mz_base.specs.StepsKeywords.{keywords_with}
use Rattle.mz_base.proofs.Choices.{pick}

-- the keyword of a word is found among these
pub data AreEnough (w : List ℕ) (ks : List Keyword) : Type 0 where
  enough : find (λ k. bytes_eq (keyword_text k) w) ks ≡ keyword_of w → AreEnough w ks

turned : (b k : ℕ) → nat_eq b k ≡ false → nat_eq k b ≡ false
turned b k e = grind (arith, nat_tests)

with_a : (bs : List ℕ) → AreEnough (97 ∷ bs) (KAnn ∷ KAnnotation ∷ KAny ∷ KArray ∷ [])
unfolding keyword_of
with_a bs = enough refl

with_b : (bs : List ℕ) → AreEnough (98 ∷ bs) (KBool ∷ [])
unfolding keyword_of
with_b bs = enough refl

with_c : (bs : List ℕ) → AreEnough (99 ∷ bs) (KCase ∷ KConstraint ∷ [])
unfolding keyword_of
with_c bs = enough refl

with_d : (bs : List ℕ) → AreEnough (100 ∷ bs) (KDefault ∷ KDiff ∷ KDiv ∷ [])
unfolding keyword_of
with_d bs = enough refl

with_e : (bs : List ℕ) → AreEnough (101 ∷ bs) (KElse ∷ KElseif ∷ KEndif ∷ KEnum ∷ [])
unfolding keyword_of
with_e bs = enough refl

with_f : (bs : List ℕ) → AreEnough (102 ∷ bs) (KFalse ∷ KFloat ∷ KFunction ∷ [])
unfolding keyword_of
with_f bs = enough refl

with_i : (bs : List ℕ) → AreEnough (105 ∷ bs) (KIf ∷ KIn ∷ KInclude ∷ KInt ∷ KIntersect ∷ [])
unfolding keyword_of
with_i bs = enough refl

with_l : (bs : List ℕ) → AreEnough (108 ∷ bs) (KLet ∷ KList ∷ [])
unfolding keyword_of
with_l bs = enough refl

with_m : (bs : List ℕ) → AreEnough (109 ∷ bs) (KMaximize ∷ KMinimize ∷ KMod ∷ [])
unfolding keyword_of
with_m bs = enough refl

with_n : (bs : List ℕ) → AreEnough (110 ∷ bs) (KNot ∷ [])
unfolding keyword_of
with_n bs = enough refl

with_o : (bs : List ℕ) → AreEnough (111 ∷ bs) (KOf ∷ KOp ∷ KOpt ∷ KOutput ∷ [])
unfolding keyword_of
with_o bs = enough refl

with_p : (bs : List ℕ) → AreEnough (112 ∷ bs) (KPar ∷ KPredicate ∷ [])
unfolding keyword_of
with_p bs = enough refl

with_r : (bs : List ℕ) → AreEnough (114 ∷ bs) (KRecord ∷ [])
unfolding keyword_of
with_r bs = enough refl

with_s : (bs : List ℕ) → AreEnough (115 ∷ bs) (KSatisfy ∷ KSet ∷ KSolve ∷ KString ∷ KSubset ∷ KSuperset ∷ KSymdiff ∷ [])
unfolding keyword_of
with_s bs = enough refl

with_t : (bs : List ℕ) → AreEnough (116 ∷ bs) (KTest ∷ KThen ∷ KTrue ∷ KTuple ∷ KType ∷ [])
unfolding keyword_of
with_t bs = enough refl

with_u : (bs : List ℕ) → AreEnough (117 ∷ bs) (KUnion ∷ [])
unfolding keyword_of
with_u bs = enough refl

with_v : (bs : List ℕ) → AreEnough (118 ∷ bs) (KVar ∷ [])
unfolding keyword_of
with_v bs = enough refl

with_w : (bs : List ℕ) → AreEnough (119 ∷ bs) (KWhere ∷ [])
unfolding keyword_of
with_w bs = enough refl

with_x : (bs : List ℕ) → AreEnough (120 ∷ bs) (KXor ∷ [])
unfolding keyword_of
with_x bs = enough refl

with_other : (b : ℕ) (bs : List ℕ) → nat_eq b 97 ≡ false → nat_eq b 98 ≡ false → nat_eq b 99 ≡ false → nat_eq b 100 ≡ false → nat_eq b 101 ≡ false → nat_eq b 102 ≡ false → nat_eq b 105 ≡ false → nat_eq b 108 ≡ false → nat_eq b 109 ≡ false → nat_eq b 110 ≡ false → nat_eq b 111 ≡ false → nat_eq b 112 ≡ false → nat_eq b 114 ≡ false → nat_eq b 115 ≡ false → nat_eq b 116 ≡ false → nat_eq b 117 ≡ false → nat_eq b 118 ≡ false → nat_eq b 119 ≡ false → nat_eq b 120 ≡ false → AreEnough (b ∷ bs) []
unfolding keyword_of
with_other b bs not_a not_b not_c not_d not_e not_f not_i not_l not_m not_n not_o not_p not_r not_s not_t not_u not_v not_w not_x = enough (rw (turned b 97 not_a, turned b 98 not_b, turned b 99 not_c, turned b 100 not_d, turned b 101 not_e, turned b 102 not_f, turned b 105 not_i, turned b 108 not_l, turned b 109 not_m, turned b 110 not_n, turned b 111 not_o, turned b 112 not_p, turned b 114 not_r, turned b 115 not_s, turned b 116 not_t, turned b 117 not_u, turned b 118 not_v, turned b 119 not_w, turned b 120 not_x) refl)

in_front : (b : ℕ) (bs : List ℕ) → AreEnough (b ∷ bs) (keywords_with b)
unfolding keywords_with
in_front b bs =
    pick (AreEnough (b ∷ bs)) (nat_eq b 97) _ _ (λ e. subst (λ x. AreEnough (x ∷ bs) (KAnn ∷ KAnnotation ∷ KAny ∷ KArray ∷ [])) (sym ((Decides-eqb b 97).0 e)) (with_a bs)) (λ not_a.
    pick (AreEnough (b ∷ bs)) (nat_eq b 98) _ _ (λ e. subst (λ x. AreEnough (x ∷ bs) (KBool ∷ [])) (sym ((Decides-eqb b 98).0 e)) (with_b bs)) (λ not_b.
    pick (AreEnough (b ∷ bs)) (nat_eq b 99) _ _ (λ e. subst (λ x. AreEnough (x ∷ bs) (KCase ∷ KConstraint ∷ [])) (sym ((Decides-eqb b 99).0 e)) (with_c bs)) (λ not_c.
    pick (AreEnough (b ∷ bs)) (nat_eq b 100) _ _ (λ e. subst (λ x. AreEnough (x ∷ bs) (KDefault ∷ KDiff ∷ KDiv ∷ [])) (sym ((Decides-eqb b 100).0 e)) (with_d bs)) (λ not_d.
    pick (AreEnough (b ∷ bs)) (nat_eq b 101) _ _ (λ e. subst (λ x. AreEnough (x ∷ bs) (KElse ∷ KElseif ∷ KEndif ∷ KEnum ∷ [])) (sym ((Decides-eqb b 101).0 e)) (with_e bs)) (λ not_e.
    pick (AreEnough (b ∷ bs)) (nat_eq b 102) _ _ (λ e. subst (λ x. AreEnough (x ∷ bs) (KFalse ∷ KFloat ∷ KFunction ∷ [])) (sym ((Decides-eqb b 102).0 e)) (with_f bs)) (λ not_f.
    pick (AreEnough (b ∷ bs)) (nat_eq b 105) _ _ (λ e. subst (λ x. AreEnough (x ∷ bs) (KIf ∷ KIn ∷ KInclude ∷ KInt ∷ KIntersect ∷ [])) (sym ((Decides-eqb b 105).0 e)) (with_i bs)) (λ not_i.
    pick (AreEnough (b ∷ bs)) (nat_eq b 108) _ _ (λ e. subst (λ x. AreEnough (x ∷ bs) (KLet ∷ KList ∷ [])) (sym ((Decides-eqb b 108).0 e)) (with_l bs)) (λ not_l.
    pick (AreEnough (b ∷ bs)) (nat_eq b 109) _ _ (λ e. subst (λ x. AreEnough (x ∷ bs) (KMaximize ∷ KMinimize ∷ KMod ∷ [])) (sym ((Decides-eqb b 109).0 e)) (with_m bs)) (λ not_m.
    pick (AreEnough (b ∷ bs)) (nat_eq b 110) _ _ (λ e. subst (λ x. AreEnough (x ∷ bs) (KNot ∷ [])) (sym ((Decides-eqb b 110).0 e)) (with_n bs)) (λ not_n.
    pick (AreEnough (b ∷ bs)) (nat_eq b 111) _ _ (λ e. subst (λ x. AreEnough (x ∷ bs) (KOf ∷ KOp ∷ KOpt ∷ KOutput ∷ [])) (sym ((Decides-eqb b 111).0 e)) (with_o bs)) (λ not_o.
    pick (AreEnough (b ∷ bs)) (nat_eq b 112) _ _ (λ e. subst (λ x. AreEnough (x ∷ bs) (KPar ∷ KPredicate ∷ [])) (sym ((Decides-eqb b 112).0 e)) (with_p bs)) (λ not_p.
    pick (AreEnough (b ∷ bs)) (nat_eq b 114) _ _ (λ e. subst (λ x. AreEnough (x ∷ bs) (KRecord ∷ [])) (sym ((Decides-eqb b 114).0 e)) (with_r bs)) (λ not_r.
    pick (AreEnough (b ∷ bs)) (nat_eq b 115) _ _ (λ e. subst (λ x. AreEnough (x ∷ bs) (KSatisfy ∷ KSet ∷ KSolve ∷ KString ∷ KSubset ∷ KSuperset ∷ KSymdiff ∷ [])) (sym ((Decides-eqb b 115).0 e)) (with_s bs)) (λ not_s.
    pick (AreEnough (b ∷ bs)) (nat_eq b 116) _ _ (λ e. subst (λ x. AreEnough (x ∷ bs) (KTest ∷ KThen ∷ KTrue ∷ KTuple ∷ KType ∷ [])) (sym ((Decides-eqb b 116).0 e)) (with_t bs)) (λ not_t.
    pick (AreEnough (b ∷ bs)) (nat_eq b 117) _ _ (λ e. subst (λ x. AreEnough (x ∷ bs) (KUnion ∷ [])) (sym ((Decides-eqb b 117).0 e)) (with_u bs)) (λ not_u.
    pick (AreEnough (b ∷ bs)) (nat_eq b 118) _ _ (λ e. subst (λ x. AreEnough (x ∷ bs) (KVar ∷ [])) (sym ((Decides-eqb b 118).0 e)) (with_v bs)) (λ not_v.
    pick (AreEnough (b ∷ bs)) (nat_eq b 119) _ _ (λ e. subst (λ x. AreEnough (x ∷ bs) (KWhere ∷ [])) (sym ((Decides-eqb b 119).0 e)) (with_w bs)) (λ not_w.
    pick (AreEnough (b ∷ bs)) (nat_eq b 120) _ _ (λ e. subst (λ x. AreEnough (x ∷ bs) (KXor ∷ [])) (sym ((Decides-eqb b 120).0 e)) (with_x bs)) (λ not_x.
    with_other b bs not_a not_b not_c not_d not_e not_f not_i not_l not_m not_n not_o not_p not_r not_s not_t not_u not_v not_w not_x)))))))))))))))))))

opened : (w : List ℕ) (ks : List Keyword) → AreEnough w ks → find (λ k. bytes_eq (keyword_text k) w) ks ≡ keyword_of w
opened w ks (enough e) = e

pub by_first_byte : (w : List ℕ) → 1 ≤ length w → find (λ k. bytes_eq (keyword_text k) w) (keywords_with (get_or w 0 0)) ≡ keyword_of w
by_first_byte [] some = absurd (omega arith)
by_first_byte (b ∷ bs) some = opened (b ∷ bs) _ (in_front b bs)

pub no_word : (w : List ℕ) → length w < 1 → None ≡ keyword_of w
unfolding keyword_of
no_word [] none = refl
no_word (b ∷ bs) none = absurd (omega arith)
