-- The rows of accesses: to a list of integers, of truth values, of sets.
use Rattle.std.proofs.Common.{◌≡◌, ℕ, zero, suc, ◌-◌, pos, ◌+ℤ◌, ◌≤ℤ◌, int_le, true, List, [], ◌∷◌, length, map, slice_get, Option, Some, None, IsSome, unwrap_or, ◌&&◌, ⊎_elim, refl, sym, ap, subst, ◌∙◌, arith}
use Rattle.std.specs.List.{list_all}
use Rattle.std.proofs.lemmas.Bool.{and_parts, and_from}
use Rattle.std.proofs.lemmas.Int.{ints, clamps}
use Rattle.mz_value.specs.Ranges.{Range, range_of}
use Rattle.mz_interval.specs.Ends.{Ends, hull_of, limit as every_number, if_in_limit, least_number, greatest_number}
use Rattle.mz_interval.proofs.Limits.{if_interval-ordered}
use Rattle.mz_operations.specs.Sets.{union, is_within}
use Rattle.mz_operations.specs.Bounds.{nothing, hull_of_all, union_from, union_of_all}
use Rattle.mz_operations.specs.Laws.{IsSet, IsPart, AreSets}
use Rattle.mz_operations.proofs.Arithmetic.{hull_encloses}
use Rattle.mz_operations.proofs.SetMembers.{union_set, union_members}
use Rattle.mz_operations.proofs.SetBounds.{union_encloses, part_part}
use Rattle.mz_operations.specs.Monotone.{IsWithin}
use Rattle.mz_operations.proofs.Numbers.{hull_within, ends_within as within_ends, low_end, high_end}
use Rattle.mz_arena.specs.declared.node.NodeKind.TheVariants as kinds
use Rattle.mz_arena.specs.Values as terms
use Rattle.mz_arena.specs.Extents.{Known, whole, wholes, truth, truths, subset, subsets, empty, reached, skipped, access_extent}
use Rattle.mz_arena.proofs.BoundsOfLists.{reached_at}
use Rattle.mz_arena.proofs.Sets.{reached_sets}
use Rattle.fz_program.specs.declared.program.Domain.{Domain}
use Rattle.fz_program.specs.declared.program.Domain.TheVariants.{Bool as Truths, Ints as Integers, SetOf}
use Rattle.fz_program.specs.declared.row_name.RowName.{RowName}
use Rattle.fz_program.specs.declared.row_name.RowName.TheVariants as rows
use Rattle.fz_program.specs.declared.row_name.Kind.{Kind}
use Rattle.fz_program.specs.declared.row_name.Kind.TheVariants.{Int, Bool as Truth, Set, Ints, Bools, Sets}
use Rattle.fz_program.specs.Arguments.{Plain, Argument, one, array}
use Rattle.fz_program.specs.Values as values
use Rattle.fz_program.specs.Values.{Value, Values, number_in, set_in}
use Rattle.fz_program.specs.Table.{line}
use Rattle.fz_program.specs.Flat.{Variable, Program, AreInDomains, IsSome as HasSome, plain_value, argument_value, same_kind, kind_of_domain, is_plain, is_argument, are_arguments}
use Rattle.fz_build.specs.Inputs.{is_sum}
use Rattle.fz_build.specs.Results.{result_given}
use Rattle.fz_build.specs.Bounds.{AreInputs, result_domain, form_of, domain_by, ends_of, upper_of, domain_upper, hull_reached, union_reached}
use Rattle.fz_build.specs.Bounds as domains
use Rattle.fz_build.specs.Growth.{HasDomain, AreKept}
use Rattle.flat_reif_rows.specs.Standing.{seen_maybe, LiesWithin, IsPartOf, Suits, extent_over}
use Rattle.flat_reif_rows.specs.Elements.{AllWhole, AllTruth, AllSubset, AreElements, element_row, element_inputs, Reaches, access_over}
use Rattle.flat_reif_rows.specs.Making.{MayGive}
use Rattle.flat_reif_rows.proofs.Sorts.{of_integer, of_truth, of_set, sort_value}
use Rattle.flat_reif_rows.proofs.Keeping.{plain_kept}
use Rattle.flat_reif_rows.proofs.TruthRows.{domain_kind, upper_out, truth_out, same_some, not_linear}
use Rattle.flat_reif_rows.proofs.NumberRows.{ordered, limit_inside, ends_within, IsNarrow, number_out}
use Rattle.flat_reif_rows.proofs.SumRows.{interval_limit, are_numbers, above}
use Rattle.flat_reif_rows.proofs.Reached.{hull_holds, reaches_some, reached_inside, union_holds}
use Rattle.flat_reif_rows.proofs.ElementValues.{AreNumbers, AreSetValues, integer_same, truth_same, set_same}

-- what a row of an access gives of these arguments is the access
pub record AccessFits (p : Program) (name : RowName) (i : Plain) (ps : List Plain) : Type 0 where
  pub may : MayGive p name (element_inputs (one i) ps)
  pub suits : (ws : List Variable) (e : Ends) (list : Known) → LiesWithin Int p.vars i e → AreElements p.vars ps list → element_row list ≡ Some name → (d : Domain) (out : Plain) → result_domain p.vars name (element_inputs (one i) ps) ≡ Some d → HasSome d → HasDomain ws out d → Suits ws out (extent_over kinds.Access (Some (whole e) ∷ list ∷ []))
  pub same : (ws : List Variable) → AreKept p.vars ws → (v : terms.Values) (f : Values) → AreInDomains ws f → access_over v i ps f ≡ seen_maybe (result_given name (map (argument_value f) (element_inputs (one i) ps)))

-- ---- the elements' sorts

abbrev AllPlain : List Variable → Kind → List Plain → Type 0
AllPlain vs k ps = list_all (is_plain vs k) ps ≡ true

pub whole_plain : (vs : List Variable) (ps : List Plain) (es : List Ends) → AllWhole vs ps es → AllPlain vs Int ps
whole_plain vs [] [] h = refl
whole_plain vs [] (e ∷ es) h = absurd h
whole_plain vs (p ∷ ps) [] h = absurd h
whole_plain vs (p ∷ ps) (e ∷ es) h = and_from (is_plain vs Int p) (list_all (is_plain vs Int) ps) h.0.sort (whole_plain vs ps es h.1)

pub truth_plain : (vs : List Variable) (ps : List Plain) → AllTruth vs ps → AllPlain vs Truth ps
truth_plain vs [] h = refl
truth_plain vs (p ∷ ps) h = and_from (is_plain vs Truth p) (list_all (is_plain vs Truth) ps) h.0 (truth_plain vs ps h.1)

pub subset_plain : (vs : List Variable) (ps : List Plain) (us : List (List Range)) → AllSubset vs ps us → AllPlain vs Set ps
subset_plain vs [] [] h = refl
subset_plain vs [] (u ∷ us) h = absurd h
subset_plain vs (p ∷ ps) [] h = absurd h
subset_plain vs (p ∷ ps) (u ∷ us) h = and_from (is_plain vs Set p) (list_all (is_plain vs Set) ps) h.0.sort (subset_plain vs ps us h.1)

pub access_inputs : (vs : List Variable) (k : Kind) (i : Plain) (ps : List Plain) → is_argument vs Int (one i) ≡ true → is_argument vs k (array ps) ≡ true → are_arguments vs (Int ∷ k ∷ []) (element_inputs (one i) ps) ≡ true
unfolding are_arguments
access_inputs vs k i ps h l = and_from (is_argument vs Int (one i)) (is_argument vs k (array ps) && true) h (and_from (is_argument vs k (array ps)) true l refl)

-- ---- the elements' values

module _ (vs ws : List Variable) (kept : AreKept vs ws) (f : Values) (d : AreInDomains ws f) where
  integer_is : (p : Plain) → is_plain vs Int p ≡ true → plain_value f p ≡ values.number (number_in (plain_value f p))
  integer_is p h = let m = sort_value of_integer ws f p d (plain_kept vs ws kept Int p h) in m.is ∙ ap (λ x. values.number (number_in x)) (sym m.is)

  truth_is : (p : Plain) → is_plain vs Truth p ≡ true → plain_value f p ≡ values.number (number_in (plain_value f p))
  truth_is p h = let m = sort_value of_truth ws f p d (plain_kept vs ws kept Truth p h) in m.is ∙ ap (λ x. values.number (number_in x)) (sym m.is)

  set_is : (p : Plain) → is_plain vs Set p ≡ true → plain_value f p ≡ values.set (set_in (plain_value f p))
  set_is p h = let m = sort_value of_set ws f p d (plain_kept vs ws kept Set p h) in m.is ∙ ap (λ x. values.set (set_in x)) (sym m.is)

  pub whole_values : (ps : List Plain) (es : List Ends) → AllWhole vs ps es → AreNumbers f ps
  whole_values [] [] h = tt
  whole_values [] (e ∷ es) h = absurd h
  whole_values (p ∷ ps) [] h = absurd h
  whole_values (p ∷ ps) (e ∷ es) h = (integer_is p h.0.sort, whole_values ps es h.1)

  pub truth_values : (ps : List Plain) → AllTruth vs ps → AreNumbers f ps
  truth_values [] h = tt
  truth_values (p ∷ ps) h = (truth_is p h.0, truth_values ps h.1)

  pub subset_values : (ps : List Plain) (us : List (List Range)) → AllSubset vs ps us → AreSetValues f ps
  subset_values [] [] h = tt
  subset_values [] (u ∷ us) h = absurd h
  subset_values (p ∷ ps) [] h = absurd h
  subset_values (p ∷ ps) (u ∷ us) h = (set_is p h.0.sort, subset_values ps us h.1)

-- ---- integers

record IsWholeAt (vs : List Variable) (p : Plain) (es : List Ends) (k : ℕ) : Type 0 where
  ends : Ends
  there : slice_get es k ≡ Some ends
  inside : LiesWithin Int vs p ends

same_name : (r name : RowName) → Some r ≡ Some name → r ≡ name
same_name r name h = cc

same_plain : (p q : Plain) → Some p ≡ Some q → p ≡ q
same_plain p q h = cc

whole_at : (vs : List Variable) (ps : List Plain) (es : List Ends) (k : ℕ) (p : Plain) → AllWhole vs ps es → slice_get ps k ≡ Some p → IsWholeAt vs p es k
whole_at vs [] es k p h is = absurd (cc)
whole_at vs (q ∷ ps) [] k p h is = absurd h
whole_at vs (q ∷ ps) (e ∷ es) zero p h is = record { ends = e; there = refl; inside = subst (λ z. LiesWithin Int vs z e) (same_plain q p is) h.0 }
whole_at vs (q ∷ ps) (e ∷ es) (suc k) p h is = let rest = whole_at vs ps es k p h.1 is in record { ends = rest.ends; there = rest.there; inside = rest.inside }

-- within bounds, and with a number
record IsIn (g e : Ends) : Type 0 where
  within : IsWithin e g
  rises : e.0 ≤ℤ e.1

hulls_in : (g a b : Ends) → IsIn g a → IsIn g b → IsIn g (hull_of a b)
hulls_in g a b p q = let r = p.rises in let s = q.rises in record { within = hull_within a b g p.within q.within; rises = omega (arith, ints, clamps, r, s) }

pub limited : (e : Ends) → if_in_limit e ≡ Some e → IsWithin e every_number
limited e h =
    let n = are_numbers e h in
    record {
      from = above least_number e.0 (and_parts (int_le least_number e.0) (int_le e.0 greatest_number) n.0).0;
      to = above e.1 greatest_number (and_parts (int_le least_number e.1) (int_le e.1 greatest_number) n.1).1;
    }

record HasHull (o : Option Ends) (g : Ends) : Type 0 where
  ends : Ends
  is : unwrap_or o nothing ≡ ends
  inside : IsIn g ends

module _ (vs : List Variable) (i : Plain) (ps : List Plain) where
  abbrev Hull : Option Ends
  Hull = hull_reached vs (ends_of vs i) (pos 1) None ps

  abbrev Holds : (Ends → Type 0) → Option Ends → Type 0
  Holds P None = Unit {0}
  Holds P (Some e) = P e

  hull_in : (g : Ends) (o : Option Ends) → IsSome o → Holds (IsIn g) o → HasHull o g
  hull_in g None h p = absurd (cc)
  hull_in g (Some e) h p = record { ends = e; is = refl; inside = p }

  integer_narrow : (e : Ends) (es : List Ends) → LiesWithin Int vs i e → AllWhole vs ps es → Reaches (ends_of vs i) (length ps) → IsNarrow vs rows.ArrayVarIntElement (element_inputs (one i) ps) (hull_of_all (reached e es))
  unfolding form_of domain_by
  integer_narrow e es l all r =
      let index = ends_of vs i in
      let some = reaches_some vs index ps (ordered index l.interval) r in
      let goal = hull_of_all (reached e es) in
      let in_goal : (k : ℕ) (p : Plain) → slice_get ps k ≡ Some p → is_within index (pos 1 +ℤ pos k) ≡ true → IsIn goal (ends_of vs p) = λ k p is w.
      let at = whole_at vs ps es k p all is in
      let f = ends_of vs p in
      let o = ordered f at.inside.interval in
      let there = reached_at e k es (reached_inside index e k (ends_within vs i e l) w) ∙ at.there in
      record {
        within = within_ends f goal
            (hull_encloses (reached e es) (k - skipped e) at.ends f.0 there (low_end f at.ends o (ends_within vs p at.ends at.inside)))
            (hull_encloses (reached e es) (k - skipped e) at.ends f.1 there (high_end f at.ends o (ends_within vs p at.ends at.inside)));
        rises = o;
      } in
      let in_limit : (k : ℕ) (p : Plain) → slice_get ps k ≡ Some p → is_within index (pos 1 +ℤ pos k) ≡ true → IsIn every_number (ends_of vs p) = λ k p is w.
      let at = whole_at vs ps es k p all is in
      record { within = limited (ends_of vs p) (interval_limit (ends_of vs p) at.inside.interval); rises = ordered (ends_of vs p) at.inside.interval } in
      let a = hull_in goal Hull some (hull_holds vs index (IsIn goal) (hulls_in goal) ps (pos 1) None tt in_goal) in
      let b = hull_in every_number Hull some (hull_holds vs index (IsIn every_number) (hulls_in every_number) ps (pos 1) None tt in_limit) in
      let h = unwrap_or Hull nothing in
      let within : IsWithin h goal = subst (λ (z : Ends). IsWithin z goal) (sym a.is) a.inside.within in
      let bounded : IsWithin h every_number = subst (λ (z : Ends). IsWithin z every_number) (sym b.is) b.inside.within in
      let rises : h.0 ≤ℤ h.1 = subst (λ (z : Ends). z.0 ≤ℤ z.1) (sym a.is) a.inside.rises in
      let limit_is = limit_inside h every_number refl bounded rises in
      record {
        ends = h;
        is = ap domains.whole (if_interval-ordered h rises ∙ limit_is);
        limit = limit_is;
        within = within;
      }

-- ---- sets

record IsSubsetAt (vs : List Variable) (p : Plain) (us : List (List Range)) (k : ℕ) : Type 0 where
  upper : List Range
  there : slice_get us k ≡ Some upper
  inside : IsPartOf vs p upper

subset_at : (vs : List Variable) (ps : List Plain) (us : List (List Range)) (k : ℕ) (p : Plain) → AllSubset vs ps us → slice_get ps k ≡ Some p → IsSubsetAt vs p us k
subset_at vs [] us k p h is = absurd (cc)
subset_at vs (q ∷ ps) [] k p h is = absurd h
subset_at vs (q ∷ ps) (u ∷ us) zero p h is = record { upper = u; there = refl; inside = subst (λ z. IsPartOf vs z u) (same_plain q p is) h.0 }
subset_at vs (q ∷ ps) (u ∷ us) (suc k) p h is = let rest = subset_at vs ps us k p h.1 is in record { upper = rest.upper; there = rest.there; inside = rest.inside }

subset_sets : (vs : List Variable) (ps : List Plain) (us : List (List Range)) → AllSubset vs ps us → AreSets us
subset_sets vs [] [] h = tt
subset_sets vs [] (u ∷ us) h = absurd h
subset_sets vs (p ∷ ps) [] h = absurd h
subset_sets vs (p ∷ ps) (u ∷ us) h = (h.0.upper, subset_sets vs ps us h.1)

union_from_set : (acc : List Range) (us : List (List Range)) → IsSet acc → AreSets us → IsSet (union_from acc us)
unfolding union_from
union_from_set acc [] h all = h
union_from_set acc (u ∷ us) h all = union_from_set (union acc u) us (union_set acc u h all.0) all.1

-- a set that is part of another
record IsPartSet (g u : List Range) : Type 0 where
  set : IsSet u
  part : IsPart u g

unions_in : (g a b : List Range) → IsPartSet g a → IsPartSet g b → IsPartSet g (union a b)
unions_in g a b p q = record {
  set = union_set a b p.set q.set;
  part = record { inside = λ x m. ⊎_elim (λ l. p.part.inside x l) (λ l. q.part.inside x l) ((union_members a b p.set q.set x).0 m) };
}

no_set_in : (g : List Range) → IsPartSet g []
no_set_in g = record { set = (tt, tt); part = record { inside = λ x m. absurd m } }

union_in : (vs : List Variable) (i : Plain) (ps : List Plain) (e : Ends) (us : List (List Range)) → LiesWithin Int vs i e → AllSubset vs ps us → IsPartSet (union_of_all (reached e us)) (union_reached vs (ends_of vs i) (pos 1) [] ps)
union_in vs i ps e us l all =
    let index = ends_of vs i in
    let goal = union_of_all (reached e us) in
    let sets = reached_sets e us (subset_sets vs ps us all) in
    let one_in : (k : ℕ) (p : Plain) → slice_get ps k ≡ Some p → is_within index (pos 1 +ℤ pos k) ≡ true → IsPartSet goal (upper_of vs p) = λ k p is w.
    let at = subset_at vs ps us k p all is in
    let there = reached_at e k us (reached_inside index e k (ends_within vs i e l) w) ∙ at.there in
    record { set = at.inside.own; part = part_part (upper_of vs p) at.upper goal at.inside.part (union_encloses (reached e us) (k - skipped e) at.upper sets there) } in
    union_holds vs index (IsPartSet goal) (unions_in goal) ps (pos 1) [] (no_set_in goal) one_in

-- ---- each row

module _ (p : Program) (i : Plain) (ps : List Plain) (r : Reaches (ends_of p.vars i) (length ps)) where
  abbrev Given : List Argument
  Given = element_inputs (one i) ps

  abbrev SuitsBy : RowName → List Variable → Ends → Known → Type 0
  SuitsBy name ws e list = (d : Domain) (out : Plain) → result_domain p.vars name Given ≡ Some d → HasSome d → HasDomain ws out d → Suits ws out (extent_over kinds.Access (Some (whole e) ∷ list ∷ []))

  integer_suits : (ws : List Variable) (e : Ends) (list : Known) → LiesWithin Int p.vars i e → AreElements p.vars ps list → element_row list ≡ Some rows.ArrayVarIntElement → SuitsBy rows.ArrayVarIntElement ws e list
  unfolding access_extent
  integer_suits ws e (Some (wholes es)) l all row = λ d out is some typed. number_out p.vars ws rows.ArrayVarIntElement Given (hull_of_all (reached e es)) (integer_narrow p.vars i ps e es l all r) d out is some typed
  integer_suits ws e None l all row = absurd all
  integer_suits ws e (Some (whole g)) l all row = absurd all
  integer_suits ws e (Some (truth g)) l all row = absurd all
  integer_suits ws e (Some (subset u)) l all row = absurd all
  integer_suits ws e (Some truths) l all row = absurd (cc)
  integer_suits ws e (Some (subsets us)) l all row = absurd (cc)
  integer_suits ws e (Some empty) l all row = absurd all

  truth_suits : (ws : List Variable) (e : Ends) (list : Known) → LiesWithin Int p.vars i e → AreElements p.vars ps list → element_row list ≡ Some rows.ArrayVarBoolElement → SuitsBy rows.ArrayVarBoolElement ws e list
  unfolding access_extent form_of domain_by
  truth_suits ws e (Some truths) l all row = λ d out is some typed. truth_out ws out (subst (HasDomain ws out) (same_some d Truths (sym is)) typed)
  truth_suits ws e None l all row = absurd all
  truth_suits ws e (Some (whole g)) l all row = absurd all
  truth_suits ws e (Some (truth g)) l all row = absurd all
  truth_suits ws e (Some (subset u)) l all row = absurd all
  truth_suits ws e (Some (wholes es)) l all row = absurd (cc)
  truth_suits ws e (Some (subsets us)) l all row = absurd (cc)
  truth_suits ws e (Some empty) l all row = absurd all

  set_out : (ws : List Variable) (e : Ends) (us : List (List Range)) → LiesWithin Int p.vars i e → AllSubset p.vars ps us → (d : Domain) (out : Plain) → result_domain p.vars rows.ArrayVarSetElement Given ≡ Some d → HasDomain ws out d → IsPartOf ws out (union_of_all (reached e us))
  unfolding form_of domain_by same_kind kind_of_domain
  set_out ws e us l all d out is typed =
      let g = union_reached p.vars (ends_of p.vars i) (pos 1) [] ps in
      let domain : d ≡ SetOf g = same_some d (SetOf g) (sym is) in
      let same : g ≡ upper_of ws out = sym (upper_out ws out d typed ∙ ap domain_upper domain) in
      let part = union_in p.vars i ps e us l all in
      record {
        sort = domain_kind ws out (SetOf g) Set refl (subst (HasDomain ws out) domain typed);
        own = subst IsSet same part.set;
        upper = union_from_set [] (reached e us) (tt, tt) (reached_sets e us (subset_sets p.vars ps us all));
        part = subst (λ z. IsPart z (union_of_all (reached e us))) same part.part;
      }

  set_suits : (ws : List Variable) (e : Ends) (list : Known) → LiesWithin Int p.vars i e → AreElements p.vars ps list → element_row list ≡ Some rows.ArrayVarSetElement → SuitsBy rows.ArrayVarSetElement ws e list
  unfolding access_extent
  set_suits ws e (Some (subsets us)) l all row = λ d out is some typed. set_out ws e us l all d out is typed
  set_suits ws e None l all row = absurd all
  set_suits ws e (Some (whole g)) l all row = absurd all
  set_suits ws e (Some (truth g)) l all row = absurd all
  set_suits ws e (Some (subset u)) l all row = absurd all
  set_suits ws e (Some (wholes es)) l all row = absurd (cc)
  set_suits ws e (Some truths) l all row = absurd (cc)
  set_suits ws e (Some empty) l all row = absurd all

  module _ (e : Ends) (l : LiesWithin Int p.vars i e) where
    integer_may : (es : List Ends) → AllWhole p.vars ps es → MayGive p rows.ArrayVarIntElement Given
    unfolding line is_sum is_argument
    integer_may es all =
        let n = integer_narrow p.vars i ps e es l all r in
        record {
          are = access_inputs p.vars Ints i ps l.sort (whole_plain p.vars ps es all);
          domain = Integers (range_of n.ends.0 n.ends.1);
          is = n.is;
          within = not_linear rows.ArrayVarIntElement refl;
        }

    truth_may : AllTruth p.vars ps → MayGive p rows.ArrayVarBoolElement Given
    unfolding line is_sum is_argument form_of domain_by
    truth_may all = record {
      are = access_inputs p.vars Bools i ps l.sort (truth_plain p.vars ps all);
      domain = Truths;
      is = refl;
      within = not_linear rows.ArrayVarBoolElement refl;
    }

    set_may : (us : List (List Range)) → AllSubset p.vars ps us → MayGive p rows.ArrayVarSetElement Given
    unfolding line is_sum is_argument form_of domain_by
    set_may us all = record {
      are = access_inputs p.vars Sets i ps l.sort (subset_plain p.vars ps us all);
      domain = SetOf (union_reached p.vars (ends_of p.vars i) (pos 1) [] ps);
      is = refl;
      within = not_linear rows.ArrayVarSetElement refl;
    }

    integer_fits : (es : List Ends) → AllWhole p.vars ps es → AccessFits p rows.ArrayVarIntElement i ps
    integer_fits es all = record {
      may = integer_may es all;
      suits = integer_suits;
      same = λ ws kept v f d.
          let m = sort_value of_integer ws f i d (plain_kept p.vars ws kept Int i l.sort) in
          integer_same v f i ps m.raw m.is (whole_values p.vars ws kept f d ps es all);
    }

    truth_fits : AllTruth p.vars ps → AccessFits p rows.ArrayVarBoolElement i ps
    truth_fits all = record {
      may = truth_may all;
      suits = truth_suits;
      same = λ ws kept v f d.
          let m = sort_value of_integer ws f i d (plain_kept p.vars ws kept Int i l.sort) in
          truth_same v f i ps m.raw m.is (truth_values p.vars ws kept f d ps all);
    }

    set_fits : (us : List (List Range)) → AllSubset p.vars ps us → AccessFits p rows.ArrayVarSetElement i ps
    set_fits us all = record {
      may = set_may us all;
      suits = set_suits;
      same = λ ws kept v f d.
          let m = sort_value of_integer ws f i d (plain_kept p.vars ws kept Int i l.sort) in
          set_same v f i ps m.raw m.is (subset_values p.vars ws kept f d ps us all);
    }

    pub access_fits : (name : RowName) (list : Known) → AreElements p.vars ps list → element_row list ≡ Some name → AccessFits p name i ps
    access_fits name (Some (wholes es)) all row = subst (λ n. AccessFits p n i ps) (same_name rows.ArrayVarIntElement name row) (integer_fits es all)
    access_fits name (Some truths) all row = subst (λ n. AccessFits p n i ps) (same_name rows.ArrayVarBoolElement name row) (truth_fits all)
    access_fits name (Some (subsets us)) all row = subst (λ n. AccessFits p n i ps) (same_name rows.ArrayVarSetElement name row) (set_fits us all)
    access_fits name None all row = absurd all
    access_fits name (Some (whole g)) all row = absurd all
    access_fits name (Some (truth g)) all row = absurd all
    access_fits name (Some (subset u)) all row = absurd all
    access_fits name (Some empty) all row = absurd all
