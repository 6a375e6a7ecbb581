-- The rows that give a set of two sets, which lies in the node's greatest set.
use Rattle.std.proofs.Common.{◌≡◌, List, [], ◌∷◌, map, Some, IsSome, true, false, refl, sym, ap, ap₂, subst, ◌∙◌}
use Rattle.mz_value.specs.Ranges.{Range}
use Rattle.mz_operations.specs.Bounds.{combined_upper}
use Rattle.mz_operations.specs.Laws.{IsSet, IsPart}
use Rattle.mz_operations.specs.declared.row.SetOp.{SetOp}
use Rattle.mz_operations.specs.declared.row.SetOp.TheVariants.{Union, Intersect, Diff, Symdiff}
use Rattle.mz_operations.specs.Views.{◌>>=◌}
use Rattle.mz_operations.proofs.Sets.{set_is_monotone}
use Rattle.mz_arena.specs.declared.node.NodeKind.{NodeKind}
use Rattle.mz_arena.specs.declared.node.NodeKind.TheVariants as kinds
use Rattle.mz_arena.specs.Values as terms
use Rattle.mz_arena.specs.Values.{set_term}
use Rattle.mz_arena.specs.Terms.{kind_term}
use Rattle.mz_arena.specs.Extents.{Known, subset, as_subset, set_extent}
use Rattle.mz_arena.proofs.Sets.{upper_set}
use Rattle.fz_program.specs.declared.program.Domain.{Domain}
use Rattle.fz_program.specs.declared.program.Domain.TheVariants.{SetOf}
use Rattle.fz_program.specs.declared.row_name.RowName.{RowName}
use Rattle.fz_program.specs.declared.row_name.RowName.TheVariants as rows
use Rattle.fz_program.specs.declared.row_name.Kind.TheVariants.{Set}
use Rattle.fz_program.specs.Arguments.{Plain, Argument, one}
use Rattle.fz_program.specs.Values as values
use Rattle.fz_program.specs.Values.{Value, Values}
use Rattle.fz_program.specs.Table.{line}
use Rattle.fz_program.specs.Flat.{Variable, Program, AreInDomains, argument_value, same_kind, kind_of_domain, is_plain, is_argument}
use Rattle.fz_build.specs.Inputs.{is_sum}
use Rattle.fz_build.specs.Results.{result_given}
use Rattle.fz_build.specs.Bounds.{AreInputs, result_domain, form_of, domain_by, upper_of, domain_upper}
use Rattle.fz_build.specs.Asked.{is_linear_row}
use Rattle.fz_build.specs.Growth.{HasDomain}
use Rattle.flat_reif_rows.specs.Standing.{seen, seen_maybe, IsPartOf, Suits, AllSuit, of_kind, extent_over, term_over}
use Rattle.flat_reif_rows.specs.Making.{MayGive}
use Rattle.flat_reif_rows.proofs.Sorts.{of_set, OfSubset, subset_of, both_there, suit_sort, sort_value}
use Rattle.flat_reif_rows.proofs.Given.{RowFits, Always}
use Rattle.flat_reif_rows.proofs.TruthRows.{domain_kind, upper_out, same_some, not_linear, two_inputs}
use Rattle.flat_reif_rows.proofs.NumberRows.{on_two}

-- the children of such a node
pub sets_of : (op : SetOp) (x y : Known) → IsSome (set_extent op x y) → OfSubset x × OfSubset y
unfolding set_extent
sets_of op x y h = let b = both_there (as_subset x) (as_subset y) (λ u w. Some (subset (combined_upper op u w))) h in (subset_of x b.0, subset_of y b.1)

pub set_extent_is : (op : SetOp) (x y : Known) (u w : List Range) → x ≡ Some (subset u) → y ≡ Some (subset w) → set_extent op x y ≡ Some (subset (combined_upper op u w))
unfolding set_extent
set_extent_is op x y u w h l = ap₂ (λ i j. as_subset i >>= λ s. as_subset j >>= λ t. Some (subset (combined_upper op s t))) h l

pub record SetRow (k : NodeKind) (name : RowName) (op : SetOp) : Type 0 where
  pub extent : (x y : Known) → extent_over k (x ∷ y ∷ []) ≡ set_extent op x y
  pub are : (vs : List Variable) (a b : Plain) → is_plain vs Set a ≡ true → is_plain vs Set b ≡ true → AreInputs vs name (one a ∷ one b ∷ [])
  pub domain : (vs : List Variable) (a b : Plain) → result_domain vs name (one a ∷ one b ∷ []) ≡ Some (SetOf (combined_upper op (upper_of vs a) (upper_of vs b)))
  pub other : is_linear_row name ≡ false
  pub core : (v : terms.Values) (m n : List Range) → kind_term v (of_kind k) k (Some (terms.set m) ∷ Some (terms.set n) ∷ []) ≡ seen_maybe (result_given name (values.one (values.set m) ∷ values.one (values.set n) ∷ []))

module _ (k : NodeKind) (name : RowName) (op : SetOp) (r : SetRow k name op) (a b : Plain) where
  abbrev Given : List Argument
  Given = one a ∷ one b ∷ []

  opened : (x y : Known) → IsSome (extent_over k (x ∷ y ∷ [])) → OfSubset x × OfSubset y
  opened x y h = sets_of op x y (subst (λ (z : Known). IsSome z) (r.extent x y) h)

  set_may : (p : Program) (xs : List Known) → AllSuit p.vars (a ∷ b ∷ []) xs → IsSome (extent_over k xs) → MayGive p name Given
  set_may p xs u = on_two p.vars a b (λ xs. IsSome (extent_over k xs) → MayGive p name Given) (λ x y s t h.
      let o = opened x y h in
      record {
        are = r.are p.vars a b (suit_sort of_set p.vars a x o.0 s) (suit_sort of_set p.vars b y o.1 t);
        domain = SetOf (combined_upper op (upper_of p.vars a) (upper_of p.vars b));
        is = r.domain p.vars a b;
        within = not_linear name r.other;
      }) xs u

  set_out : (vs ws : List Variable) (u w : List Range) (d : Domain) (out : Plain) → IsPartOf vs a u → IsPartOf vs b w → result_domain vs name Given ≡ Some d → HasDomain ws out d → IsPartOf ws out (combined_upper op u w)
  unfolding same_kind kind_of_domain
  set_out vs ws u w d out l m is typed =
      let g = combined_upper op (upper_of vs a) (upper_of vs b) in
      let domain : d ≡ SetOf g = same_some d (SetOf g) (sym is ∙ r.domain vs a b) in
      let same : g ≡ upper_of ws out = sym (upper_out ws out d typed ∙ ap domain_upper domain) in
      record {
        sort = domain_kind ws out (SetOf g) Set refl (subst (HasDomain ws out) domain typed);
        own = subst IsSet same (upper_set op (upper_of vs a) (upper_of vs b) l.own m.own);
        upper = upper_set op u w l.upper m.upper;
        part = subst (λ z. IsPart z (combined_upper op u w)) same (set_is_monotone op (upper_of vs a) (upper_of vs b) u w l.own m.own l.upper m.upper l.part m.part);
      }

  set_suits : (vs ws : List Variable) (xs : List Known) (d : Domain) (out : Plain) → AllSuit vs (a ∷ b ∷ []) xs → IsSome (extent_over k xs) → result_domain vs name Given ≡ Some d → HasDomain ws out d → Suits ws out (extent_over k xs)
  set_suits vs ws xs d out u h is typed = on_two vs a b (λ xs. IsSome (extent_over k xs) → Suits ws out (extent_over k xs)) (λ x y s t h.
      let o = opened x y h in
      subst (Suits ws out) (sym (r.extent x y ∙ set_extent_is op x y o.0.upper o.1.upper o.0.is o.1.is))
      (set_out vs ws o.0.upper o.1.upper d out (subst (Suits vs a) o.0.is s) (subst (Suits vs b) o.1.is t) is typed)) xs u h

  set_same : (vs : List Variable) (xs : List Known) → AllSuit vs (a ∷ b ∷ []) xs → IsSome (extent_over k xs) → (v : terms.Values) (f : Values) → AreInDomains vs f → term_over v k (a ∷ b ∷ []) f ≡ seen_maybe (result_given name (map (argument_value f) Given))
  set_same vs xs u h v f d = on_two vs a b (λ xs. IsSome (extent_over k xs) → term_over v k (a ∷ b ∷ []) f ≡ seen_maybe (result_given name (map (argument_value f) Given))) (λ x y s t h.
      let o = opened x y h in
      let m = sort_value of_set vs f a d (suit_sort of_set vs a x o.0 s) in
      let n = sort_value of_set vs f b d (suit_sort of_set vs b y o.1 t) in
      ap₂ (λ i j. kind_term v (of_kind k) k (Some (seen i) ∷ Some (seen j) ∷ [])) m.is n.is
      ∙ r.core v m.raw n.raw
      ∙ ap₂ (λ i j. seen_maybe (result_given name (values.one i ∷ values.one j ∷ []))) (sym m.is) (sym n.is)) xs u h

  pub set_row : RowFits k name (a ∷ b ∷ []) Given Always
  set_row = record { may = λ p c. set_may p; suits = λ vs ws c xs d out u h is some. set_suits vs ws xs d out u h is; same = set_same }

pub row_Union : SetRow kinds.Union rows.SetUnion Union
unfolding line is_sum form_of domain_by is_argument set_term
row_Union = record {
  extent = λ x y. refl;
  are = λ vs a b h l. two_inputs vs Set Set a b h l;
  domain = λ vs a b. refl;
  other = refl;
  core = λ v m n. refl;
}

pub row_Intersect : SetRow kinds.Intersect rows.SetIntersect Intersect
unfolding line is_sum form_of domain_by is_argument set_term
row_Intersect = record {
  extent = λ x y. refl;
  are = λ vs a b h l. two_inputs vs Set Set a b h l;
  domain = λ vs a b. refl;
  other = refl;
  core = λ v m n. refl;
}

pub row_Diff : SetRow kinds.Diff rows.SetDiff Diff
unfolding line is_sum form_of domain_by is_argument set_term
row_Diff = record {
  extent = λ x y. refl;
  are = λ vs a b h l. two_inputs vs Set Set a b h l;
  domain = λ vs a b. refl;
  other = refl;
  core = λ v m n. refl;
}

pub row_Symdiff : SetRow kinds.Symdiff rows.SetSymdiff Symdiff
unfolding line is_sum form_of domain_by is_argument set_term
row_Symdiff = record {
  extent = λ x y. refl;
  are = λ vs a b h l. two_inputs vs Set Set a b h l;
  domain = λ vs a b. refl;
  other = refl;
  core = λ v m n. refl;
}
