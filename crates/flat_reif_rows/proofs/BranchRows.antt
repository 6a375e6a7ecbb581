-- The branch of a condition is the access to the list of both at the condition's place: 1 where it is false, and 2 where it is true.
use Rattle.std.proofs.Common.{◌≡◌, ℤ, pos, ◌≤◌, Bool, true, false, List, [], ◌∷◌, length, take, Some, None, IsSome, cond, ◌⊎◌, inl, inr, refl, sym, ap, ap₂, subst, ◌∙◌, ⊎_elim, arith}
use Rattle.std.proofs.lemmas.Int.{ints, clamps}
use Rattle.mz_value.specs.Ranges.{Range}
use Rattle.mz_interval.specs.Ends.{Ends, hull_of}
use Rattle.mz_operations.specs.declared.row.Arith.TheVariants as arith_op
use Rattle.mz_operations.specs.Bounds as bounds
use Rattle.mz_operations.specs.Bounds.{arith_ends, union_from, hull_of_all, union_of_all}
use Rattle.mz_operations.specs.Laws.{IsSet, IsPart}
use Rattle.mz_operations.specs.Numbers.{computed}
use Rattle.mz_operations.specs.Sets.{union}
use Rattle.mz_operations.specs.Views.{number_of_bool}
use Rattle.mz_operations.proofs.SetMembers.{union_set, union_members}
use Rattle.mz_arena.specs.declared.node.NodeKind.TheVariants as kinds
use Rattle.mz_arena.specs.Values as terms
use Rattle.mz_arena.specs.Values.{Term, bit, is_true, arith_term, to_int_term, if_term, access_term, cons_term}
use Rattle.mz_arena.specs.Terms.{kind_term}
use Rattle.mz_arena.specs.Extents.{Known, whole, truth, subset, wholes, truths, subsets, empty, open_truth, to_int_extent, access_extent, if_extent}
use Rattle.fz_program.specs.declared.row_name.RowName.{RowName}
use Rattle.fz_program.specs.declared.row_name.Kind.TheVariants.{Int, Bool as Truth}
use Rattle.fz_program.specs.Arguments.{Plain, int}
use Rattle.fz_program.specs.Values as values
use Rattle.fz_program.specs.Values.{Value, Values, number_in, set_in}
use Rattle.fz_program.specs.Flat.{Variable, Program, FlatSolves, AreInDomains, plain_value, is_plain, is_constant, same_kind}
use Rattle.fz_build.specs.Growth.{AreKept, Grows}
use Rattle.fz_build.specs.Bounds.{ends_of}
use Rattle.flat_reif_rows.specs.Standing.{seen, LiesWithin, IsPartOf, Suits, of_kind, extent_over, term_over}
use Rattle.flat_reif_rows.specs.Making.{AreOperands, HasValue, Makes}
use Rattle.flat_reif_rows.specs.Elements.{AllWhole, AllTruth, AllSubset, AreElements, Reaches, AreAccessed, list_term, access_over, HasElement, MakesAccess}
use Rattle.flat_reif_rows.specs.Branches.{branch_row, AreBranches, MakesBranch}
use Rattle.flat_reif_rows.proofs.Keeping.{plain_kept, suits_kept}
use Rattle.flat_reif_rows.proofs.NumberRows.{ordered}
use Rattle.flat_reif_rows.proofs.ElementValues.{AreNumbers, AreSetValues}
use Rattle.flat_reif_rows.proofs.AccessRows.{whole_values, truth_values, subset_values}
use Rattle.flat_reif_rows.proofs.Chains.{kept_twice, made_twice, grows_twice, plain_taken, plain_over, over_more}

-- ---- values

abbrev place_of : Bool → ℤ
place_of true = pos 2
place_of false = pos 1

pub is_number : (x : Value) (n : ℤ) → Some (seen x) ≡ Some (terms.number n) → x ≡ values.number n
is_number (values.number m) n h = let e : m ≡ n = cc in ap values.number e
is_number (values.set s) n h = absurd (cc)

flag_place : (b : Bool) → arith_term arith_op.Add (bit b) (Some (terms.number (pos 1))) ≡ Some (terms.number (place_of b))
unfolding arith_term computed
flag_place true = refl
flag_place false = refl

number_picked : (b : Bool) (m n : ℤ) → access_term (Some (terms.number (place_of b))) (cons_term (Some (terms.number m)) (cons_term (Some (terms.number n)) (Some terms.empty))) ≡ cond b (Some (terms.number n)) (Some (terms.number m))
unfolding access_term cons_term
number_picked true m n = refl
number_picked false m n = refl

set_picked : (b : Bool) (s t : List Range) → access_term (Some (terms.number (place_of b))) (cons_term (Some (terms.set s)) (cons_term (Some (terms.set t)) (Some terms.empty))) ≡ cond b (Some (terms.set t)) (Some (terms.set s))
unfolding access_term cons_term
set_picked true s t = refl
set_picked false s t = refl

-- both branches are numbers, or both are sets
abbrev OfOneSort : Values → Plain → Plain → Type 0
OfOneSort f z y = AreNumbers f (z ∷ y ∷ []) ⊎ AreSetValues f (z ∷ y ∷ [])

picked : (b : Bool) (f : Values) (y z : Plain) → OfOneSort f z y → access_term (Some (terms.number (place_of b))) (list_term f (z ∷ y ∷ [])) ≡ cond b (Some (seen (plain_value f y))) (Some (seen (plain_value f z)))
picked b f y z (inl h) =
    ap₂ (λ i j. access_term (Some (terms.number (place_of b))) (cons_term (Some (seen i)) (cons_term (Some (seen j)) (Some terms.empty)))) h.0 h.1.0
    ∙ number_picked b (number_in (plain_value f z)) (number_in (plain_value f y))
    ∙ ap₂ (λ i j. cond b (Some (seen j)) (Some (seen i))) (sym h.0) (sym h.1.0)
picked b f y z (inr h) =
    ap₂ (λ i j. access_term (Some (terms.number (place_of b))) (cons_term (Some (seen i)) (cons_term (Some (seen j)) (Some terms.empty)))) h.0 h.1.0
    ∙ set_picked b (set_in (plain_value f z)) (set_in (plain_value f y))
    ∙ ap₂ (λ i j. cond b (Some (seen j)) (Some (seen i))) (sym h.0) (sym h.1.0)

module _ (v : terms.Values) (f : Values) (c y z t i : Plain) (flag : term_over v kinds.ToInt (c ∷ []) f ≡ Some (seen (plain_value f t))) (place : term_over v kinds.Add (t ∷ int (pos 1) ∷ []) f ≡ Some (seen (plain_value f i))) where
  abbrev Holds : Bool
  Holds = is_true (Some (seen (plain_value f c)))

  index_is : plain_value f i ≡ values.number (place_of Holds)
  unfolding to_int_term
  index_is = is_number (plain_value f i) (place_of Holds) (sym place ∙ ap (λ x. arith_term arith_op.Add x (Some (terms.number (pos 1)))) (sym flag) ∙ flag_place Holds)

  branch_is : OfOneSort f z y → access_over v i (z ∷ y ∷ []) f ≡ term_over v kinds.If (c ∷ y ∷ z ∷ []) f
  unfolding if_term
  branch_is s = ap (λ x. access_term (Some (seen x)) (list_term f (z ∷ y ∷ []))) index_is ∙ picked Holds f y z s

  some_branch : (b : Bool) → access_over v i (z ∷ y ∷ []) f ≡ cond b (Some (seen (plain_value f y))) (Some (seen (plain_value f z))) → HasElement v i (z ∷ y ∷ []) f
  some_branch true e = record { result = seen (plain_value f y); is = e }
  some_branch false e = record { result = seen (plain_value f z); is = e }

  has_branch : OfOneSort f z y → HasElement v i (z ∷ y ∷ []) f
  unfolding if_term
  has_branch s = some_branch Holds (branch_is s)

-- a truth value as an integer is a number
flag_value : (v : terms.Values) (c : Plain) (f : Values) → HasValue v kinds.ToInt (c ∷ []) f
unfolding to_int_term
flag_value v c f = record { result = terms.number (number_of_bool (is_true (Some (seen (plain_value f c))))); is = refl }

place_value : (v : terms.Values) (c t : Plain) (f : Values) → term_over v kinds.ToInt (c ∷ []) f ≡ Some (seen (plain_value f t)) → HasValue v kinds.Add (t ∷ int (pos 1) ∷ []) f
unfolding to_int_term
place_value v c t f flag = let b = is_true (Some (seen (plain_value f c))) in record { result = terms.number (place_of b); is = ap (λ x. arith_term arith_op.Add x (Some (terms.number (pos 1)))) (sym flag) ∙ flag_place b }

sort_of_branches : (vs ws : List Variable) (f : Values) (y z : Plain) (list : Known) → AreKept vs ws → AreInDomains ws f → AreElements vs (z ∷ y ∷ []) list → OfOneSort f z y
sort_of_branches vs ws f y z None kept d h = absurd h
sort_of_branches vs ws f y z (Some (whole e)) kept d h = absurd h
sort_of_branches vs ws f y z (Some (truth e)) kept d h = absurd h
sort_of_branches vs ws f y z (Some (subset u)) kept d h = absurd h
sort_of_branches vs ws f y z (Some (wholes es)) kept d h = inl (whole_values vs ws kept f d (z ∷ y ∷ []) es h)
sort_of_branches vs ws f y z (Some truths) kept d h = inl (truth_values vs ws kept f d (z ∷ y ∷ []) h)
sort_of_branches vs ws f y z (Some (subsets us)) kept d h = inr (subset_values vs ws kept f d (z ∷ y ∷ []) us h)
sort_of_branches vs ws f y z (Some empty) kept d h = absurd h

-- ---- elements stay what they are

module _ (vs ws : List Variable) (kept : AreKept vs ws) where
  pub whole_kept : (ps : List Plain) (es : List Ends) → AllWhole vs ps es → AllWhole ws ps es
  whole_kept [] [] h = tt
  whole_kept [] (e ∷ es) h = h
  whole_kept (p ∷ ps) [] h = h
  whole_kept (p ∷ ps) (e ∷ es) h = (suits_kept vs ws kept p (Some (whole e)) h.0, whole_kept ps es h.1)

  truth_kept : (ps : List Plain) → AllTruth vs ps → AllTruth ws ps
  truth_kept [] h = tt
  truth_kept (p ∷ ps) h = (plain_kept vs ws kept Truth p h.0, truth_kept ps h.1)

  subset_kept : (ps : List Plain) (us : List (List Range)) → AllSubset vs ps us → AllSubset ws ps us
  subset_kept [] [] h = tt
  subset_kept [] (u ∷ us) h = h
  subset_kept (p ∷ ps) [] h = h
  subset_kept (p ∷ ps) (u ∷ us) h = (suits_kept vs ws kept p (Some (subset u)) h.0, subset_kept ps us h.1)

  elements_kept : (ps : List Plain) (list : Known) → AreElements vs ps list → AreElements ws ps list
  elements_kept ps None h = h
  elements_kept ps (Some (whole e)) h = h
  elements_kept ps (Some (truth e)) h = h
  elements_kept ps (Some (subset u)) h = h
  elements_kept ps (Some (wholes es)) h = whole_kept ps es h
  elements_kept ps (Some truths) h = truth_kept ps h
  elements_kept ps (Some (subsets us)) h = subset_kept ps us h
  elements_kept ps (Some empty) h = h

-- ---- bounds

abbrev places : Ends
places = (pos 1, pos 2)

one_suits : (vs : List Variable) → LiesWithin Int vs (int (pos 1)) (pos 1, pos 1)
unfolding is_plain is_constant same_kind
one_suits vs = record { sort = refl; interval = refl; from = omega (arith, ints); to = omega (arith, ints) }

turned_hull : (e f : Ends) → hull_of f e ≡ hull_of e f
turned_hull e f =
    let lo : (hull_of f e).0 ≡ (hull_of e f).0 = omega (arith, ints, clamps) in
    let hi : (hull_of f e).1 ≡ (hull_of e f).1 = omega (arith, ints, clamps) in
    λ k. (lo k, hi k)

nothing_first : (u w : List Range) → IsSet u → IsSet w → IsPart (union (union [] w) u) (union u w)
nothing_first u w p q =
    let none : IsSet [] = (tt, tt) in
    let first = union_set [] w none q in
    record { inside = λ x m. (union_members u w p q x).1 (⊎_elim (λ l. inr (⊎_elim (λ n. absurd n) (λ n. n) ((union_members [] w none q x).0 l))) (λ r. inl r) ((union_members (union [] w) u first p x).0 m)) }

pub part_of_more : (vs : List Variable) (p : Plain) (u w : List Range) → IsPart u w → IsSet w → IsPartOf vs p u → IsPartOf vs p w
part_of_more vs p u w h s l = record { sort = l.sort; own = l.own; upper = s; part = record { inside = λ x m. h.inside x (l.part.inside x m) } }

-- ---- three steps

module _ (p q r : Program) (c y z t i : Plain) (name : RowName) (b : AreBranches p.vars name c y z) where
  pub condition_operands : AreOperands p.vars kinds.ToInt (c ∷ [])
  unfolding to_int_extent
  condition_operands = record { bounds = open_truth ∷ []; suit = (b.condition, tt); known = refl }

  module _ (m : Makes p q kinds.ToInt (c ∷ []) t) where
    flag_suits : LiesWithin Int q.vars t bounds.truth
    unfolding to_int_extent
    flag_suits = m.suits (open_truth ∷ []) (b.condition, tt) refl

    pub place_operands : AreOperands q.vars kinds.Add (t ∷ int (pos 1) ∷ [])
    unfolding arith_ends
    place_operands = record { bounds = Some (whole bounds.truth) ∷ Some (whole (pos 1, pos 1)) ∷ []; suit = (flag_suits, (one_suits q.vars, tt)); known = refl }

    module _ (n : Makes q r kinds.Add (t ∷ int (pos 1) ∷ []) i) (v0 : terms.Values) where
      index_suits : LiesWithin Int r.vars i places
      unfolding arith_ends
      index_suits = n.suits (Some (whole bounds.truth) ∷ Some (whole (pos 1, pos 1)) ∷ []) (flag_suits, (one_suits q.vars, tt)) refl

      kept : AreKept p.vars r.vars
      kept = kept_twice p.vars q.vars r.vars (m.grows v0).kept (n.grows v0).kept

      index_reaches : Reaches (ends_of r.vars i) 2
      index_reaches =
          let o = ordered (ends_of r.vars i) index_suits.interval in
          let low = index_suits.from in
          let high = index_suits.to in
          record { from = omega (arith, ints, o, low, high); to = omega (arith, ints, o, low, high); some = omega arith }

      pub accessed : AreAccessed r.vars name i (z ∷ y ∷ [])
      accessed = record { index = places; inside = index_suits; list = b.list; elements = elements_kept p.vars r.vars kept (z ∷ y ∷ []) b.list b.elements; row = b.row; reaches = index_reaches }

      -- in each solution of a program that goes on from r
      flag_at : (f : Values) (v : terms.Values) → FlatSolves r f → term_over v kinds.ToInt (c ∷ []) f ≡ Some (seen (plain_value f t))
      flag_at f v s =
          let k = length q.vars in
          let over_c = over_more (length p.vars) k c (m.grows v).longer (plain_over p.vars Truth c b.condition.sort) in
          ap (λ x. kind_term v (of_kind kinds.ToInt) kinds.ToInt (Some (seen x) ∷ [])) (sym (plain_taken k f c over_c))
          ∙ m.value v (take k f) ((n.grows v).down f s)
          ∙ ap (λ x. Some (seen x)) (plain_taken k f t m.place)

      branch_at : (f : Values) (v : terms.Values) → FlatSolves r f → HasElement v i (z ∷ y ∷ []) f
      branch_at f v s = has_branch v f c y z t i (flag_at f v s) (n.value v f s) (sort_of_branches p.vars r.vars f y z b.list kept s.domains b.elements)

      module _ (new : Program) (out : Plain) (a : MakesAccess r new name i (z ∷ y ∷ []) out) where
        grown : (v : terms.Values) → Grows p new (HasValue v kinds.If (c ∷ y ∷ z ∷ []))
        grown v =
            let first = grows_twice p q r (HasValue v kinds.ToInt (c ∷ [])) (HasValue v kinds.Add (t ∷ int (pos 1) ∷ [])) (HasValue v kinds.If (c ∷ y ∷ z ∷ [])) (m.grows v) (n.grows v)
            (λ f s h. flag_value v c f) (λ f s. place_value v c t f (m.value v f s)) in
            grows_twice p r new (HasValue v kinds.If (c ∷ y ∷ z ∷ [])) (HasElement v i (z ∷ y ∷ [])) (HasValue v kinds.If (c ∷ y ∷ z ∷ [])) first (a.grows v) (λ f s h. h) (λ f s. branch_at f v s)

        value_at : (v : terms.Values) (f : Values) → FlatSolves new f → term_over v kinds.If (c ∷ y ∷ z ∷ []) f ≡ Some (seen (plain_value f out))
        value_at v f s =
            let k = length r.vars in
            let g = take k f in
            let down = (a.grows v).down f s in
            let all = kept_twice p.vars r.vars new.vars kept (a.grows v).kept in
            let over_t = over_more (length q.vars) k t (n.grows v).longer m.place in
            let over_c = over_more (length p.vars) k c (grown_longer v) (plain_over p.vars Truth c b.condition.sort) in
            let flag : term_over v kinds.ToInt (c ∷ []) f ≡ Some (seen (plain_value f t)) =
            ap (λ x. kind_term v (of_kind kinds.ToInt) kinds.ToInt (Some (seen x) ∷ [])) (sym (plain_taken k f c over_c)) ∙ flag_at g v down ∙ ap (λ x. Some (seen x)) (plain_taken k f t over_t) in
            let place : term_over v kinds.Add (t ∷ int (pos 1) ∷ []) f ≡ Some (seen (plain_value f i)) =
            ap (λ x. kind_term v (of_kind kinds.Add) kinds.Add (Some (seen x) ∷ Some (terms.number (pos 1)) ∷ [])) (sym (plain_taken k f t over_t)) ∙ n.value v g down ∙ ap (λ x. Some (seen x)) (plain_taken k f i n.place) in
            sym (branch_is v f c y z t i flag place (sort_of_branches p.vars new.vars f y z b.list all s.domains b.elements)) ∙ a.value v f s
          where
            grown_longer : (w : terms.Values) → length p.vars ≤ length r.vars
            grown_longer w = let x = (m.grows w).longer in let l = (n.grows w).longer in omega (arith, x, l)

        branch_suits : (x e f : Known) → Suits p.vars y e → Suits p.vars z f → branch_row e ≡ Some name → IsSome (extent_over kinds.If (x ∷ e ∷ f ∷ [])) → Suits new.vars out (extent_over kinds.If (x ∷ e ∷ f ∷ []))
        unfolding if_extent access_extent union_from
        branch_suits (Some (truth d)) (Some (whole e)) (Some (whole f)) h l row some =
            subst (λ (g : Ends). LiesWithin Int new.vars out g) (turned_hull e f) (a.suits places (Some (wholes (f ∷ e ∷ []))) index_suits (whole_kept p.vars r.vars kept (z ∷ y ∷ []) (f ∷ e ∷ []) (l, (h, tt))) row)
        branch_suits (Some (truth d)) (Some (truth e)) (Some (truth f)) h l row some =
            a.suits places (Some truths) index_suits (truth_kept p.vars r.vars kept (z ∷ y ∷ []) (l.sort, (h.sort, tt))) row
        branch_suits (Some (truth d)) (Some (subset u)) (Some (subset w)) h l row some =
            part_of_more new.vars out (union (union [] w) u) (union u w) (nothing_first u w h.upper l.upper) (union_set u w h.upper l.upper)
            (a.suits places (Some (subsets (w ∷ u ∷ []))) index_suits (subset_kept p.vars r.vars kept (z ∷ y ∷ []) (w ∷ u ∷ []) (l, (h, tt))) row)
        branch_suits _ None f h l row some = absurd h
        branch_suits _ (Some (wholes es)) f h l row some = absurd h
        branch_suits _ (Some truths) f h l row some = absurd h
        branch_suits _ (Some (subsets us)) f h l row some = absurd h
        branch_suits _ (Some empty) f h l row some = absurd h
        branch_suits x e f h l row some = absurd (cc)

        pub branch_made : MakesBranch p new name c y z out
        branch_made = record { grows = grown; place = a.place; suits = branch_suits; value = value_at; made = made_twice p r new (made_twice p q r m.made n.made) a.made }
