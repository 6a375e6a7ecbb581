-- Branches under a constant condition, and branches that are one: no row is needed.
use Rattle.std.proofs.Common.{◌≡◌, Bool, true, false, List, [], ◌∷◌, length, Some, None, IsSome, if◌then◌else◌, inl, inr, refl, sym, ap, subst, arith}
use Rattle.std.proofs.lemmas.Int.{ints, clamps}
use Rattle.mz_value.specs.Ranges.{Range}
use Rattle.mz_interval.specs.Ends.{Ends, hull_of}
use Rattle.mz_operations.specs.Laws.{IsSet}
use Rattle.mz_operations.specs.Sets.{union}
use Rattle.mz_operations.specs.Views.{◌>>=◌}
use Rattle.mz_operations.proofs.SetMembers.{union_set, union_members}
use Rattle.mz_arena.specs.declared.node.NodeKind.TheVariants as kinds
use Rattle.mz_arena.specs.Values as terms
use Rattle.mz_arena.specs.Values.{is_true, if_term}
use Rattle.mz_arena.specs.Extents.{Known, whole, truth, subset, wholes, truths, subsets, empty, open_truth, as_truth, as_single, as_whole, as_subset, branch_extent, if_extent}
use Rattle.fz_program.specs.declared.row_name.RowName.{RowName}
use Rattle.fz_program.specs.declared.row_name.Kind.TheVariants.{Int, Bool as Truth, Set}
use Rattle.fz_program.specs.Arguments.{Plain, bool}
use Rattle.fz_program.specs.Values.{Values}
use Rattle.fz_program.specs.Flat.{Variable, Program, plain_value}
use Rattle.fz_build.specs.Build.{IsOver}
use Rattle.flat_reif_rows.specs.Standing.{seen, LiesWithin, IsPartOf, Suits, extent_over, term_over}
use Rattle.flat_reif_rows.specs.Making.{HasValue}
use Rattle.flat_reif_rows.specs.Elements.{AreElements}
use Rattle.flat_reif_rows.specs.Extremes.{Ever}
use Rattle.flat_reif_rows.specs.Branches.{AreBranches, MakesBranch}
use Rattle.flat_reif_rows.proofs.Given.{grows_where}
use Rattle.flat_reif_rows.proofs.Sorts.{whole_of, truth_of, subset_of, first_there}
use Rattle.flat_reif_rows.proofs.Stepping.{grows_not}
use Rattle.flat_reif_rows.proofs.Truths.{truth_within}
use Rattle.flat_reif_rows.proofs.Chains.{plain_over}
use Rattle.flat_reif_rows.proofs.BranchRows.{part_of_more}

-- ---- a branch lies within the bounds of both

module _ (vs : List Variable) (p : Plain) where
  in_hull_first : (e f : Ends) → LiesWithin Int vs p e → LiesWithin Int vs p (hull_of e f)
  in_hull_first e f l = record { sort = l.sort; interval = l.interval; from = omega (arith, ints, clamps, l.from); to = omega (arith, ints, clamps, l.to) }

  in_hull_second : (e f : Ends) → LiesWithin Int vs p f → LiesWithin Int vs p (hull_of e f)
  in_hull_second e f l = record { sort = l.sort; interval = l.interval; from = omega (arith, ints, clamps, l.from); to = omega (arith, ints, clamps, l.to) }

  in_union_first : (u w : List Range) → IsSet w → IsPartOf vs p u → IsPartOf vs p (union u w)
  in_union_first u w h l = part_of_more vs p u (union u w) (record { inside = λ x m. (union_members u w l.upper h x).1 (inl m) }) (union_set u w l.upper h) l

  in_union_second : (u w : List Range) → IsSet u → IsPartOf vs p w → IsPartOf vs p (union u w)
  in_union_second u w h l = part_of_more vs p w (union u w) (record { inside = λ x m. (union_members u w h l.upper x).1 (inr m) }) (union_set u w h l.upper) l

-- the bounds of both, where the condition has some
if_is : (x e f : Known) → IsSome (extent_over kinds.If (x ∷ e ∷ f ∷ [])) → extent_over kinds.If (x ∷ e ∷ f ∷ []) ≡ (as_single e >>= λ b. branch_extent b f)
unfolding if_extent
if_is x e f h = let o = truth_of x (first_there (as_truth x) _ h) in ap (λ (g : Known). as_truth g >>= λ c. as_single e >>= λ b. branch_extent b f) o.is

module _ (vs : List Variable) (y z : Plain) where
  first_suits : (e f : Known) → Suits vs y e → Suits vs z f → IsSome (as_single e >>= λ b. branch_extent b f) → Suits vs y (as_single e >>= λ b. branch_extent b f)
  first_suits None f sy sz h = absurd sy
  first_suits (Some (whole a)) f sy sz h =
      let o = whole_of f (first_there (as_whole f) _ h) in
      subst (λ (g : Known). Suits vs y (as_whole g >>= λ w. Some (whole (hull_of a w)))) (sym o.is) (in_hull_first vs y a o.ends sy)
  first_suits (Some (truth a)) f sy sz h =
      let o = truth_of f (first_there (as_truth f) _ h) in
      subst (λ (g : Known). Suits vs y (as_truth g >>= λ w. open_truth)) (sym o.is) (truth_within vs y sy.sort)
  first_suits (Some (subset u)) f sy sz h =
      let o = subset_of f (first_there (as_subset f) _ h) in
      subst (λ (g : Known). Suits vs y (as_subset g >>= λ w. Some (subset (union u w)))) (sym o.is) (in_union_first vs y u o.upper (subst (Suits vs z) o.is sz).upper sy)
  first_suits (Some (wholes es)) f sy sz h = absurd sy
  first_suits (Some truths) f sy sz h = absurd sy
  first_suits (Some (subsets us)) f sy sz h = absurd sy
  first_suits (Some empty) f sy sz h = absurd sy

  second_suits : (e f : Known) → Suits vs y e → Suits vs z f → IsSome (as_single e >>= λ b. branch_extent b f) → Suits vs z (as_single e >>= λ b. branch_extent b f)
  second_suits None f sy sz h = absurd sy
  second_suits (Some (whole a)) f sy sz h =
      let o = whole_of f (first_there (as_whole f) _ h) in
      subst (λ (g : Known). Suits vs z (as_whole g >>= λ w. Some (whole (hull_of a w)))) (sym o.is) (in_hull_second vs z a o.ends (subst (Suits vs z) o.is sz))
  second_suits (Some (truth a)) f sy sz h =
      let o = truth_of f (first_there (as_truth f) _ h) in
      subst (λ (g : Known). Suits vs z (as_truth g >>= λ w. open_truth)) (sym o.is) (truth_within vs z (subst (Suits vs z) o.is sz).sort)
  second_suits (Some (subset u)) f sy sz h =
      let o = subset_of f (first_there (as_subset f) _ h) in
      subst (λ (g : Known). Suits vs z (as_subset g >>= λ w. Some (subset (union u w)))) (sym o.is) (in_union_second vs z u o.upper sy.upper (subst (Suits vs z) o.is sz))
  second_suits (Some (wholes es)) f sy sz h = absurd sy
  second_suits (Some truths) f sy sz h = absurd sy
  second_suits (Some (subsets us)) f sy sz h = absurd sy
  second_suits (Some empty) f sy sz h = absurd sy

  over_both : (list : Known) → AreElements vs (z ∷ y ∷ []) list → IsOver (length vs) y × IsOver (length vs) z
  over_both None h = absurd h
  over_both (Some (whole e)) h = absurd h
  over_both (Some (truth e)) h = absurd h
  over_both (Some (subset u)) h = absurd h
  over_both (Some (wholes [])) h = absurd h
  over_both (Some (wholes (e ∷ []))) h = absurd (h.1)
  over_both (Some (wholes (e ∷ g ∷ []))) h = (plain_over vs Int y h.1.0.sort, plain_over vs Int z h.0.sort)
  over_both (Some (wholes (e ∷ g ∷ k ∷ ks))) h = absurd (h.1.1)
  over_both (Some truths) h = (plain_over vs Truth y h.1.0, plain_over vs Truth z h.0)
  over_both (Some (subsets [])) h = absurd h
  over_both (Some (subsets (u ∷ []))) h = absurd (h.1)
  over_both (Some (subsets (u ∷ w ∷ []))) h = (plain_over vs Set y h.1.0.sort, plain_over vs Set z h.0.sort)
  over_both (Some (subsets (u ∷ w ∷ k ∷ ks))) h = absurd (h.1.1)
  over_both (Some empty) h = absurd h

-- ---- a branch that stands for the node

module _ (p : Program) (name : RowName) (c y z : Plain) (b : AreBranches p.vars name c y z) where
  first_stands : ((v : terms.Values) (f : Values) → term_over v kinds.If (c ∷ y ∷ z ∷ []) f ≡ Some (seen (plain_value f y))) → MakesBranch p p name c y z y
  first_stands is = record {
    grows = λ v. grows_where p p Ever (HasValue v kinds.If (c ∷ y ∷ z ∷ [])) (grows_not p) (λ f s h. tt);
    place = (over_both p.vars y z b.list b.elements).0;
    suits = λ x e f sy sz row h. subst (Suits p.vars y) (sym (if_is x e f h)) (first_suits p.vars y z e f sy sz (subst (λ (g : Known). IsSome g) (if_is x e f h) h));
    value = λ v f s. is v f;
    made = λ front n m. m;
  }

  second_stands : ((v : terms.Values) (f : Values) → term_over v kinds.If (c ∷ y ∷ z ∷ []) f ≡ Some (seen (plain_value f z))) → MakesBranch p p name c y z z
  second_stands is = record {
    grows = λ v. grows_where p p Ever (HasValue v kinds.If (c ∷ y ∷ z ∷ [])) (grows_not p) (λ f s h. tt);
    place = (over_both p.vars y z b.list b.elements).1;
    suits = λ x e f sy sz row h. subst (Suits p.vars z) (sym (if_is x e f h)) (second_suits p.vars y z e f sy sz (subst (λ (g : Known). IsSome g) (if_is x e f h) h));
    value = λ v f s. is v f;
    made = λ front n m. m;
  }

  true_value : c ≡ bool true → (v : terms.Values) (f : Values) → term_over v kinds.If (c ∷ y ∷ z ∷ []) f ≡ Some (seen (plain_value f y))
  unfolding if_term
  true_value h v f = ap (λ (q : Plain). term_over v kinds.If (q ∷ y ∷ z ∷ []) f) h

  false_value : c ≡ bool false → (v : terms.Values) (f : Values) → term_over v kinds.If (c ∷ y ∷ z ∷ []) f ≡ Some (seen (plain_value f z))
  unfolding if_term
  false_value h v f = ap (λ (q : Plain). term_over v kinds.If (q ∷ y ∷ z ∷ []) f) h

  one_value : y ≡ z → (v : terms.Values) (f : Values) → term_over v kinds.If (c ∷ y ∷ z ∷ []) f ≡ Some (seen (plain_value f y))
  unfolding if_term
  one_value h v f = by (is_true (Some (seen (plain_value f c))))
    where
      by : (t : Bool) → (if t then Some (seen (plain_value f y)) else Some (seen (plain_value f z))) ≡ Some (seen (plain_value f y))
      by true = refl
      by false = ap (λ (q : Plain). Some (seen (plain_value f q))) (sym h)

  pub same_branches : y ≡ z → MakesBranch p p name c y z y
  same_branches h = first_stands (one_value h)

  pub constant_branch : (t : Bool) (out : Plain) → c ≡ bool t → out ≡ (if t then y else z) → MakesBranch p p name c y z out
  constant_branch true out h is = subst (MakesBranch p p name c y z) (sym is) (first_stands (true_value h))
  constant_branch false out h is = subst (MakesBranch p p name c y z) (sym is) (second_stands (false_value h))
