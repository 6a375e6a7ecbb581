-- The rows of one truth value: turned round, and as an integer.
use Rattle.std.proofs.Common.{◌≡◌, ◌≤ℤ◌, Bool, true, false, List, [], ◌∷◌, map, Some, None, IsSome, cond, refl, sym, ap, subst, ◌∙◌}
use Rattle.std.specs.Prelude.{int_le}
use Rattle.std.proofs.lemmas.Bool.{and_from}
use Rattle.mz_value.specs.Ranges.{range_of}
use Rattle.mz_interval.specs.Ends.{Ends, if_interval, if_in_limit}
use Rattle.mz_operations.specs.Sets.{end_of}
use Rattle.mz_operations.specs.Bounds.{hull_of_set}
use Rattle.mz_operations.specs.Views.{◌>>=◌}
use Rattle.mz_arena.specs.declared.node.NodeKind.TheVariants as kinds
use Rattle.mz_arena.specs.Values as terms
use Rattle.mz_arena.specs.Values.{not_term, to_int_term, set_term}
use Rattle.mz_arena.specs.Terms.{kind_term}
use Rattle.mz_arena.specs.Extents.{Known, whole, truth, open_truth, as_truth, not_extent, to_int_extent}
use Rattle.fz_program.specs.declared.program.Domain.{Domain}
use Rattle.fz_program.specs.declared.program.Domain.TheVariants.{Bool as Truths, Ints as Integers}
use Rattle.fz_program.specs.declared.row_name.RowName.TheVariants as rows
use Rattle.fz_program.specs.declared.row_name.Kind.TheVariants.{Int, Bool as Truth}
use Rattle.fz_program.specs.Arguments.{Plain, one}
use Rattle.fz_program.specs.Values as values
use Rattle.fz_program.specs.Values.{Value, Values}
use Rattle.fz_program.specs.Table.{line}
use Rattle.fz_program.specs.Flat.{Variable, Program, AreInDomains, argument_value, same_kind, kind_of_domain, is_plain, is_argument, are_arguments}
use Rattle.fz_build.specs.Inputs.{is_sum}
use Rattle.fz_build.specs.Results.{result_given}
use Rattle.fz_build.specs.Bounds.{AreInputs, result_domain, form_of, domain_by, ends_of, upper_of, domain_ends, domain_upper}
use Rattle.fz_build.specs.Bounds as domains
use Rattle.fz_build.specs.Growth.{HasDomain}
use Rattle.flat_reif_rows.specs.Standing.{seen, seen_maybe, LiesWithin, Suits, AllSuit, of_kind, extent_over, term_over}
use Rattle.flat_reif_rows.specs.Making.{MayGive}
use Rattle.flat_reif_rows.proofs.Sorts.{of_truth, OfTruth, truth_of, first_there, open_one, suit_sort, flat, sort_value}
use Rattle.flat_reif_rows.proofs.Given.{RowFits, Always}
use Rattle.flat_reif_rows.proofs.TruthRows.{domain_kind, ends_out, truth_out, same_some, not_linear}

one_input : (vs : List Variable) (a : Plain) → is_plain vs Truth a ≡ true → are_arguments vs (Truth ∷ []) (one a ∷ []) ≡ true
unfolding are_arguments is_argument
one_input vs a h = and_from (is_plain vs Truth a) true h refl

-- ---- not

not_of : (x : Known) → IsSome (not_extent x) → OfTruth x
unfolding not_extent
not_of x h = truth_of x (first_there (as_truth x) (λ e. open_truth) h)

not_opens : (x : Known) → IsSome (not_extent x) → not_extent x ≡ open_truth
unfolding not_extent
not_opens x h = open_one (as_truth x) h

core_not : (v : terms.Values) (m : Bool) → kind_term v (of_kind kinds.Not) kinds.Not (Some (seen (flat of_truth m)) ∷ []) ≡ seen_maybe (result_given rows.BoolNot (values.one (flat of_truth m) ∷ []))
unfolding line is_sum not_term
core_not v true = refl
core_not v false = refl

module _ (a : Plain) where
  not_may : (p : Program) (xs : List Known) → AllSuit p.vars (a ∷ []) xs → IsSome (extent_over kinds.Not xs) → MayGive p rows.BoolNot (one a ∷ [])
  unfolding line is_sum form_of domain_by
  not_may p [] u h = absurd u
  not_may p (x ∷ []) u h = record { are = one_input p.vars a (suit_sort of_truth p.vars a x (not_of x h) u.0); domain = Truths; is = refl; within = not_linear rows.BoolNot refl }
  not_may p (x ∷ y ∷ xs) u h = absurd (u.1)

  not_suits : (vs ws : List Variable) (xs : List Known) (d : Domain) (out : Plain) → AllSuit vs (a ∷ []) xs → IsSome (extent_over kinds.Not xs) → result_domain vs rows.BoolNot (one a ∷ []) ≡ Some d → HasDomain ws out d → Suits ws out (extent_over kinds.Not xs)
  unfolding form_of domain_by
  not_suits vs ws [] d out u h is g = absurd u
  not_suits vs ws (x ∷ []) d out u h is g = subst (Suits ws out) (sym (not_opens x h)) (truth_out ws out (subst (HasDomain ws out) (same_some d Truths (sym is)) g))
  not_suits vs ws (x ∷ y ∷ xs) d out u h is g = absurd (u.1)

  not_same : (vs : List Variable) (xs : List Known) → AllSuit vs (a ∷ []) xs → IsSome (extent_over kinds.Not xs) → (v : terms.Values) (f : Values) → AreInDomains vs f → term_over v kinds.Not (a ∷ []) f ≡ seen_maybe (result_given rows.BoolNot (map (argument_value f) (one a ∷ [])))
  not_same vs [] u h v f d = absurd u
  not_same vs (x ∷ []) u h v f d =
      let m = sort_value of_truth vs f a d (suit_sort of_truth vs a x (not_of x h) u.0) in
      ap (λ i. kind_term v (of_kind kinds.Not) kinds.Not (Some (seen i) ∷ [])) m.is ∙ core_not v m.raw ∙ ap (λ i. seen_maybe (result_given rows.BoolNot (values.one i ∷ []))) (sym m.is)
  not_same vs (x ∷ y ∷ xs) u h v f d = absurd (u.1)

  pub row_not : RowFits kinds.Not rows.BoolNot (a ∷ []) (one a ∷ []) Always
  row_not = record { may = λ p c. not_may p; suits = λ vs ws c xs d out u h is some. not_suits vs ws xs d out u h is; same = not_same }

-- ---- a truth value as an integer

flag_of : (x : Known) → IsSome (to_int_extent x) → OfTruth x
unfolding to_int_extent
flag_of x h = truth_of x (first_there (as_truth x) (λ e. Some (whole e)) h)

flag_extent : (x : Known) (e : Ends) → x ≡ Some (truth e) → to_int_extent x ≡ Some (whole e)
unfolding to_int_extent
flag_extent x e h = ap (λ y. as_truth y >>= λ g. Some (whole g)) h

core_flag : (v : terms.Values) (m : Bool) → kind_term v (of_kind kinds.ToInt) kinds.ToInt (Some (seen (flat of_truth m)) ∷ []) ≡ seen_maybe (result_given rows.BoolToInt (values.one (flat of_truth m) ∷ []))
unfolding line is_sum to_int_term
core_flag v true = refl
core_flag v false = refl

-- the hull of all from the least to the greatest
pub hull_of_range : (g : Ends) → if_interval g ≡ Some g → hull_of_set (range_of g.0 g.1) ≡ g
unfolding end_of
hull_of_range g h = by (int_le g.0 g.1) refl h
  where
    by : (b : Bool) → int_le g.0 g.1 ≡ b → cond b (if_in_limit g) None ≡ Some g → hull_of_set (range_of g.0 g.1) ≡ g
    by true e k = ap (λ b. hull_of_set (cond b ((g.0, g.1) ∷ []) [])) e
    by false e k = absurd (cc)

module _ (a : Plain) where
  flag_domain : (vs : List Variable) (e : Ends) → LiesWithin Truth vs a e → result_domain vs rows.BoolToInt (one a ∷ []) ≡ Some (Integers (range_of (ends_of vs a).0 (ends_of vs a).1))
  unfolding form_of domain_by
  flag_domain vs e l = ap domains.whole l.interval

  flag_may : (p : Program) (xs : List Known) → AllSuit p.vars (a ∷ []) xs → IsSome (extent_over kinds.ToInt xs) → MayGive p rows.BoolToInt (one a ∷ [])
  unfolding line is_sum
  flag_may p [] u h = absurd u
  flag_may p (x ∷ []) u h =
      let o = flag_of x h in
      record {
        are = one_input p.vars a (suit_sort of_truth p.vars a x o u.0);
        domain = Integers (range_of (ends_of p.vars a).0 (ends_of p.vars a).1);
        is = flag_domain p.vars o.ends (subst (Suits p.vars a) o.is u.0);
        within = not_linear rows.BoolToInt refl;
      }
  flag_may p (x ∷ y ∷ xs) u h = absurd (u.1)

  flag_out : (vs ws : List Variable) (e : Ends) (d : Domain) (out : Plain) → LiesWithin Truth vs a e → result_domain vs rows.BoolToInt (one a ∷ []) ≡ Some d → HasDomain ws out d → LiesWithin Int ws out e
  unfolding same_kind kind_of_domain
  flag_out vs ws e d out l is g =
      let f : Ends = ends_of vs a in
      let domain : d ≡ Integers (range_of f.0 f.1) = same_some d (Integers (range_of f.0 f.1)) (sym is ∙ flag_domain vs e l) in
      let same : f ≡ ends_of ws out = sym (ends_out ws out d g ∙ ap domain_ends domain ∙ hull_of_range f l.interval) in
      record {
        sort = domain_kind ws out (Integers (range_of f.0 f.1)) Int refl (subst (HasDomain ws out) domain g);
        interval = subst (λ (z : Ends). if_interval z ≡ Some z) same l.interval;
        from = subst (λ (z : Ends). e.0 ≤ℤ z.0) same l.from;
        to = subst (λ (z : Ends). z.1 ≤ℤ e.1) same l.to;
      }

  flag_suits : (vs ws : List Variable) (xs : List Known) (d : Domain) (out : Plain) → AllSuit vs (a ∷ []) xs → IsSome (extent_over kinds.ToInt xs) → result_domain vs rows.BoolToInt (one a ∷ []) ≡ Some d → HasDomain ws out d → Suits ws out (extent_over kinds.ToInt xs)
  flag_suits vs ws [] d out u h is g = absurd u
  flag_suits vs ws (x ∷ []) d out u h is g =
      let o = flag_of x h in
      subst (Suits ws out) (sym (flag_extent x o.ends o.is)) (flag_out vs ws o.ends d out (subst (Suits vs a) o.is u.0) is g)
  flag_suits vs ws (x ∷ y ∷ xs) d out u h is g = absurd (u.1)

  flag_same : (vs : List Variable) (xs : List Known) → AllSuit vs (a ∷ []) xs → IsSome (extent_over kinds.ToInt xs) → (v : terms.Values) (f : Values) → AreInDomains vs f → term_over v kinds.ToInt (a ∷ []) f ≡ seen_maybe (result_given rows.BoolToInt (map (argument_value f) (one a ∷ [])))
  flag_same vs [] u h v f d = absurd u
  flag_same vs (x ∷ []) u h v f d =
      let m = sort_value of_truth vs f a d (suit_sort of_truth vs a x (flag_of x h) u.0) in
      ap (λ i. kind_term v (of_kind kinds.ToInt) kinds.ToInt (Some (seen i) ∷ [])) m.is ∙ core_flag v m.raw ∙ ap (λ i. seen_maybe (result_given rows.BoolToInt (values.one i ∷ []))) (sym m.is)
  flag_same vs (x ∷ y ∷ xs) u h v f d = absurd (u.1)

  pub row_flag : RowFits kinds.ToInt rows.BoolToInt (a ∷ []) (one a ∷ []) Always
  row_flag = record { may = λ p c. flag_may p; suits = λ vs ws c xs d out u h is some. flag_suits vs ws xs d out u h is; same = flag_same }
