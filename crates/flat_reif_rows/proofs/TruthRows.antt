-- The rows that give a truth value from two children, kind by kind.
use Rattle.std.proofs.Common.{◌≡◌, pos, ◌≤ℤ◌, Bool, true, false, List, [], ◌∷◌, map, Some, IsSome, refl, sym, ap, ap₂, subst, ◌∙◌, arith}
use Rattle.std.specs.Prelude.{◌&&◌}
use Rattle.std.proofs.lemmas.Bool.{and_from}
use Rattle.std.proofs.lemmas.Int.{ints}
use Rattle.mz_interval.specs.Ends.{Ends, if_interval}
use Rattle.mz_operations.specs.Bounds as bounds
use Rattle.mz_operations.specs.Bounds.{combined_upper}
use Rattle.mz_arena.specs.declared.node.NodeKind.{NodeKind}
use Rattle.mz_arena.specs.declared.node.NodeKind.TheVariants as kinds
use Rattle.mz_arena.specs.Values as terms
use Rattle.mz_arena.specs.Values.{arith_term, comparison_term, set_comparison_term, member_term, and_term, or_term, not_term, iff_term, to_int_term, set_term}
use Rattle.mz_arena.specs.Terms.{kind_term}
use Rattle.mz_arena.specs.Extents.{Known, open_truth, as_whole, as_truth, as_subset, comparison_extent, connective_extent, member_extent, set_comparison_extent}
use Rattle.fz_program.specs.declared.program.Domain.{Domain}
use Rattle.fz_program.specs.declared.program.Domain.TheVariants.{Bool as Truths}
use Rattle.fz_program.specs.declared.row_name.RowName.{RowName}
use Rattle.fz_program.specs.declared.row_name.RowName.TheVariants as rows
use Rattle.fz_program.specs.declared.row_name.Kind.{Kind}
use Rattle.fz_program.specs.declared.row_name.Kind.TheVariants.{Int, Bool as Truth, Set}
use Rattle.fz_program.specs.Arguments.{Plain, Argument, one}
use Rattle.fz_program.specs.Values as values
use Rattle.fz_program.specs.Values.{Value, Values, ArgumentValue}
use Rattle.fz_program.specs.Table.{line}
use Rattle.fz_program.specs.Flat.{Variable, Program, AreInDomains, plain_value, argument_value, is_kind, same_kind, kind_of_domain, is_plain, is_argument, are_arguments}
use Rattle.fz_build.specs.Inputs.{is_sum}
use Rattle.fz_build.specs.Results.{result_given}
use Rattle.fz_build.specs.Bounds.{AreInputs, result_domain, form_of, domain_by, ends_of, upper_of, domain_ends, domain_upper, variable_ends, variable_upper}
use Rattle.fz_build.specs.Asked.{is_linear_row}
use Rattle.fz_build.specs.Growth.{HasDomain}
use Rattle.flat_reif_rows.specs.Standing.{seen, seen_maybe, Suits, AllSuit, of_kind, extent_over, term_over}
use Rattle.flat_reif_rows.specs.NodeRows.{is_joined, inputs_by, inputs_of_two}
use Rattle.flat_reif_rows.specs.Making.{MayGive}
use Rattle.flat_reif_rows.proofs.Sorts.{Sort, of_integer, of_truth, of_set, kind_of, Raw, flat, HasSort, OfWhole, OfTruth, OfSubset, whole_of, truth_of, subset_of, both_there, open_both, suit_sort, sort_value}
use Rattle.flat_reif_rows.proofs.Given.{RowFits, Always}

-- ---- the sort of what a row gives

pub domain_kind : (vs : List Variable) (p : Plain) (d : Domain) (k : Kind) → same_kind k (kind_of_domain d) ≡ true → HasDomain vs p d → is_plain vs k p ≡ true
unfolding is_plain
domain_kind vs p d k e h = subst (λ q. is_plain vs k q ≡ true) (sym h.is) (ap (λ o. is_kind o k) h.stands ∙ ap (λ g. same_kind k (kind_of_domain g)) h.same ∙ e)

pub ends_out : (vs : List Variable) (p : Plain) (d : Domain) → HasDomain vs p d → ends_of vs p ≡ domain_ends d
ends_out vs p d h = ap (ends_of vs) h.is ∙ ap variable_ends h.stands ∙ ap domain_ends h.same

pub upper_out : (vs : List Variable) (p : Plain) (d : Domain) → HasDomain vs p d → upper_of vs p ≡ domain_upper d
upper_out vs p d h = ap (upper_of vs) h.is ∙ ap variable_upper h.stands ∙ ap domain_upper h.same

pub truth_out : (vs : List Variable) (p : Plain) → HasDomain vs p Truths → Suits vs p open_truth
unfolding same_kind kind_of_domain
truth_out vs p h =
    let same : bounds.truth ≡ ends_of vs p = sym (ends_out vs p Truths h) in
    record {
      sort = domain_kind vs p Truths Truth refl h;
      interval = subst (λ (g : Ends). if_interval g ≡ Some g) same refl;
      from = subst (λ (g : Ends). pos 0 ≤ℤ g.0) same (omega (arith, ints));
      to = subst (λ (g : Ends). g.1 ≤ℤ pos 1) same (omega (arith, ints));
    }

pub same_some : (d e : Domain) → Some d ≡ Some e → d ≡ e
same_some d e h = cc

-- ---- values

unfoldable pub values_by : Bool → Value → Value → List ArgumentValue
values_by true u w = values.many (u ∷ w ∷ []) ∷ []
values_by false u w = values.one u ∷ values.one w ∷ []

values_of_inputs : (b : Bool) (f : Values) (p q : Plain) → map (argument_value f) (inputs_by b (one p) (one q)) ≡ values_by b (plain_value f p) (plain_value f q)
unfolding values_by
values_of_inputs true f p q = refl
values_of_inputs false f p q = refl

-- ---- two children, and a truth value

-- the facts of one kind
pub record TruthRow (k : NodeKind) (name : RowName) (s t : Sort) : Type 0 where
  pub sorts : (x y : Known) → IsSome (extent_over k (x ∷ y ∷ [])) → HasSort s x × HasSort t y
  pub opens : (x y : Known) → IsSome (extent_over k (x ∷ y ∷ [])) → extent_over k (x ∷ y ∷ []) ≡ open_truth
  pub are : (vs : List Variable) (a b : Plain) → is_plain vs (kind_of s) a ≡ true → is_plain vs (kind_of t) b ≡ true → AreInputs vs name (inputs_of_two k (one a) (one b))
  pub domain : (vs : List Variable) (xs : List Argument) → result_domain vs name xs ≡ Some Truths
  pub other : is_linear_row name ≡ false
  pub core : (v : terms.Values) (m : Raw s) (n : Raw t) → kind_term v (of_kind k) k (Some (seen (flat s m)) ∷ Some (seen (flat t n)) ∷ []) ≡ seen_maybe (result_given name (values_by (is_joined k) (flat s m) (flat t n)))

pub not_linear : {A : Type 0} (name : RowName) → is_linear_row name ≡ false → is_linear_row name ≡ true → A
not_linear name o h = absurd (cc)

pub truth_row : (k : NodeKind) (name : RowName) (s t : Sort) → TruthRow k name s t → (a b : Plain) → RowFits k name (a ∷ b ∷ []) (inputs_of_two k (one a) (one b)) Always
truth_row k name s t r a b = record { may = λ p c. may p; suits = λ vs ws c xs d out u h is some. suits vs ws xs d out u h is; same = same }
  where
    may : (p : Program) (xs : List Known) → AllSuit p.vars (a ∷ b ∷ []) xs → IsSome (extent_over k xs) → MayGive p name (inputs_of_two k (one a) (one b))
    may p [] u h = absurd u
    may p (x ∷ []) u h = absurd (u.1)
    may p (x ∷ y ∷ []) u h =
        let o = r.sorts x y h in
        record {
          are = r.are p.vars a b (suit_sort s p.vars a x o.0 u.0) (suit_sort t p.vars b y o.1 u.1.0);
          domain = Truths;
          is = r.domain p.vars (inputs_of_two k (one a) (one b));
          within = not_linear name r.other;
        }
    may p (x ∷ y ∷ z ∷ zs) u h = absurd (u.1.1)

    suits : (vs ws : List Variable) (xs : List Known) (d : Domain) (out : Plain) → AllSuit vs (a ∷ b ∷ []) xs → IsSome (extent_over k xs) → result_domain vs name (inputs_of_two k (one a) (one b)) ≡ Some d → HasDomain ws out d → Suits ws out (extent_over k xs)
    suits vs ws [] d out u h is g = absurd u
    suits vs ws (x ∷ []) d out u h is g = absurd (u.1)
    suits vs ws (x ∷ y ∷ []) d out u h is g =
        let e : d ≡ Truths = same_some d Truths (sym is ∙ r.domain vs (inputs_of_two k (one a) (one b))) in
        subst (Suits ws out) (sym (r.opens x y h)) (truth_out ws out (subst (HasDomain ws out) e g))
    suits vs ws (x ∷ y ∷ z ∷ zs) d out u h is g = absurd (u.1.1)

    same : (vs : List Variable) (xs : List Known) → AllSuit vs (a ∷ b ∷ []) xs → IsSome (extent_over k xs) → (v : terms.Values) (f : Values) → AreInDomains vs f → term_over v k (a ∷ b ∷ []) f ≡ seen_maybe (result_given name (map (argument_value f) (inputs_of_two k (one a) (one b))))
    same vs [] u h v f d = absurd u
    same vs (x ∷ []) u h v f d = absurd (u.1)
    same vs (x ∷ y ∷ []) u h v f d =
        let o = r.sorts x y h in
        let m = sort_value s vs f a d (suit_sort s vs a x o.0 u.0) in
        let n = sort_value t vs f b d (suit_sort t vs b y o.1 u.1.0) in
        ap₂ (λ i j. kind_term v (of_kind k) k (Some (seen i) ∷ Some (seen j) ∷ [])) m.is n.is
        ∙ r.core v m.raw n.raw
        ∙ ap₂ (λ i j. seen_maybe (result_given name (values_by (is_joined k) i j))) (sym m.is) (sym n.is)
        ∙ ap (λ is. seen_maybe (result_given name is)) (sym (values_of_inputs (is_joined k) f a b))
    same vs (x ∷ y ∷ z ∷ zs) u h v f d = absurd (u.1.1)

-- the inputs' kinds
pub two_inputs : (vs : List Variable) (j k : Kind) (a b : Plain) → is_argument vs j (one a) ≡ true → is_argument vs k (one b) ≡ true → are_arguments vs (j ∷ k ∷ []) (one a ∷ one b ∷ []) ≡ true
unfolding are_arguments
two_inputs vs j k a b h l = and_from (is_argument vs j (one a)) (is_argument vs k (one b) && true) h (and_from (is_argument vs k (one b)) true l refl)

-- ---- kind by kind

pub integers_of : (x y : Known) → IsSome (comparison_extent x y) → OfWhole x × OfWhole y
unfolding comparison_extent
integers_of x y h = let b = both_there (as_whole x) (as_whole y) (λ i j. open_truth) h in (whole_of x b.0, whole_of y b.1)

comparison_opens : (x y : Known) → IsSome (comparison_extent x y) → comparison_extent x y ≡ open_truth
unfolding comparison_extent
comparison_opens x y h = open_both (as_whole x) (as_whole y) h

pub truths_of : (x y : Known) → IsSome (connective_extent x y) → OfTruth x × OfTruth y
unfolding connective_extent
truths_of x y h = let b = both_there (as_truth x) (as_truth y) (λ i j. open_truth) h in (truth_of x b.0, truth_of y b.1)

connective_opens : (x y : Known) → IsSome (connective_extent x y) → connective_extent x y ≡ open_truth
unfolding connective_extent
connective_opens x y h = open_both (as_truth x) (as_truth y) h

pub sets_of : (x y : Known) → IsSome (set_comparison_extent x y) → OfSubset x × OfSubset y
unfolding set_comparison_extent
sets_of x y h = let b = both_there (as_subset x) (as_subset y) (λ i j. open_truth) h in (subset_of x b.0, subset_of y b.1)

set_comparison_opens : (x y : Known) → IsSome (set_comparison_extent x y) → set_comparison_extent x y ≡ open_truth
unfolding set_comparison_extent
set_comparison_opens x y h = open_both (as_subset x) (as_subset y) h

pub member_of : (x y : Known) → IsSome (member_extent x y) → OfWhole x × OfSubset y
unfolding member_extent
member_of x y h = let b = both_there (as_whole x) (as_subset y) (λ i j. open_truth) h in (whole_of x b.0, subset_of y b.1)

member_opens : (x y : Known) → IsSome (member_extent x y) → member_extent x y ≡ open_truth
unfolding member_extent
member_opens x y h = open_both (as_whole x) (as_subset y) h

pub row_Eq : TruthRow kinds.Eq rows.IntEqReif of_integer of_integer
unfolding line is_sum form_of domain_by is_argument values_by comparison_term
row_Eq = record {
  sorts = integers_of;
  opens = comparison_opens;
  are = λ vs a b h l. two_inputs vs Int Int a b h l;
  domain = λ vs xs. refl;
  other = refl;
  core = λ v m n. refl;
}

pub row_Ne : TruthRow kinds.Ne rows.IntNeReif of_integer of_integer
unfolding line is_sum form_of domain_by is_argument values_by comparison_term
row_Ne = record {
  sorts = integers_of;
  opens = comparison_opens;
  are = λ vs a b h l. two_inputs vs Int Int a b h l;
  domain = λ vs xs. refl;
  other = refl;
  core = λ v m n. refl;
}

pub row_Le : TruthRow kinds.Le rows.IntLeReif of_integer of_integer
unfolding line is_sum form_of domain_by is_argument values_by comparison_term
row_Le = record {
  sorts = integers_of;
  opens = comparison_opens;
  are = λ vs a b h l. two_inputs vs Int Int a b h l;
  domain = λ vs xs. refl;
  other = refl;
  core = λ v m n. refl;
}

pub row_Lt : TruthRow kinds.Lt rows.IntLtReif of_integer of_integer
unfolding line is_sum form_of domain_by is_argument values_by comparison_term
row_Lt = record {
  sorts = integers_of;
  opens = comparison_opens;
  are = λ vs a b h l. two_inputs vs Int Int a b h l;
  domain = λ vs xs. refl;
  other = refl;
  core = λ v m n. refl;
}

pub row_Member : TruthRow kinds.Member rows.SetInReif of_integer of_set
unfolding line is_sum form_of domain_by is_argument values_by member_term
row_Member = record {
  sorts = member_of;
  opens = member_opens;
  are = λ vs a b h l. two_inputs vs Int Set a b h l;
  domain = λ vs xs. refl;
  other = refl;
  core = λ v m n. refl;
}

pub row_SetEq : TruthRow kinds.SetEq rows.SetEqReif of_set of_set
unfolding line is_sum form_of domain_by is_argument values_by set_comparison_term
row_SetEq = record {
  sorts = sets_of;
  opens = set_comparison_opens;
  are = λ vs a b h l. two_inputs vs Set Set a b h l;
  domain = λ vs xs. refl;
  other = refl;
  core = λ v m n. refl;
}

pub row_Subset : TruthRow kinds.Subset rows.SetSubsetReif of_set of_set
unfolding line is_sum form_of domain_by is_argument values_by set_comparison_term
row_Subset = record {
  sorts = sets_of;
  opens = set_comparison_opens;
  are = λ vs a b h l. two_inputs vs Set Set a b h l;
  domain = λ vs xs. refl;
  other = refl;
  core = λ v m n. refl;
}

core_And : (v : terms.Values) (m n : Bool) → kind_term v (of_kind kinds.And) kinds.And (Some (seen (flat of_truth m)) ∷ Some (seen (flat of_truth n)) ∷ []) ≡ seen_maybe (result_given rows.ArrayBoolAnd (values_by (is_joined kinds.And) (flat of_truth m) (flat of_truth n)))
unfolding line is_sum values_by and_term
core_And v true true = refl
core_And v true false = refl
core_And v false true = refl
core_And v false false = refl

pub row_And : TruthRow kinds.And rows.ArrayBoolAnd of_truth of_truth
unfolding line is_sum form_of domain_by is_argument are_arguments
row_And = record {
  sorts = truths_of;
  opens = connective_opens;
  are = λ vs a b h l. and_from (is_plain vs Truth a && (is_plain vs Truth b && true)) true (and_from (is_plain vs Truth a) (is_plain vs Truth b && true) h (and_from (is_plain vs Truth b) true l refl)) refl;
  domain = λ vs xs. refl;
  other = refl;
  core = core_And;
}

core_Or : (v : terms.Values) (m n : Bool) → kind_term v (of_kind kinds.Or) kinds.Or (Some (seen (flat of_truth m)) ∷ Some (seen (flat of_truth n)) ∷ []) ≡ seen_maybe (result_given rows.ArrayBoolOr (values_by (is_joined kinds.Or) (flat of_truth m) (flat of_truth n)))
unfolding line is_sum values_by or_term
core_Or v true true = refl
core_Or v true false = refl
core_Or v false true = refl
core_Or v false false = refl

pub row_Or : TruthRow kinds.Or rows.ArrayBoolOr of_truth of_truth
unfolding line is_sum form_of domain_by is_argument are_arguments
row_Or = record {
  sorts = truths_of;
  opens = connective_opens;
  are = λ vs a b h l. and_from (is_plain vs Truth a && (is_plain vs Truth b && true)) true (and_from (is_plain vs Truth a) (is_plain vs Truth b && true) h (and_from (is_plain vs Truth b) true l refl)) refl;
  domain = λ vs xs. refl;
  other = refl;
  core = core_Or;
}

core_Iff : (v : terms.Values) (m n : Bool) → kind_term v (of_kind kinds.Iff) kinds.Iff (Some (seen (flat of_truth m)) ∷ Some (seen (flat of_truth n)) ∷ []) ≡ seen_maybe (result_given rows.BoolEqReif (values_by (is_joined kinds.Iff) (flat of_truth m) (flat of_truth n)))
unfolding line is_sum values_by iff_term
core_Iff v true true = refl
core_Iff v true false = refl
core_Iff v false true = refl
core_Iff v false false = refl

pub row_Iff : TruthRow kinds.Iff rows.BoolEqReif of_truth of_truth
unfolding line is_sum form_of domain_by is_argument are_arguments
row_Iff = record {
  sorts = truths_of;
  opens = connective_opens;
  are = λ vs a b h l. two_inputs vs Truth Truth a b h l;
  domain = λ vs xs. refl;
  other = refl;
  core = core_Iff;
}
