-- The least and the greatest of lists.
use Rattle.std.proofs.Common.{◌≡◌, ◌≢◌, ℕ, Bool, true, false, List, [], ◌∷◌, length, map, take, Option, Some, None, IsSome, option_map, slice_get, if◌then◌else◌, inl, inr, refl, sym, ap, ap₂, subst, ◌∙◌, pos, nat_eq, arith}
use Rattle.std.proofs.lemmas.Bool.Decides.{nat_tests}
use Rattle.std.specs.List.{AllByRecursion}
use Rattle.mz_value.specs.Ranges.{Range}
use Rattle.mz_interval.specs.Ends.{Ends}
use Rattle.mz_operations.specs.Views.{◌>>=◌}
use Rattle.mz_operations.specs.declared.row.Side.{Side}
use Rattle.mz_operations.specs.declared.row.Side.TheVariants.{Least, Greatest}
use Rattle.mz_operations.specs.Bounds.{extreme_ends}
use Rattle.mz_arena.specs.declared.node.Node.{Node}
use Rattle.mz_arena.specs.declared.node.NodeKind.{NodeKind}
use Rattle.mz_arena.specs.declared.node.NodeKind.TheVariants as kinds
use Rattle.mz_arena.specs.Entries.{Entry, at, arity, children, is_free}
use Rattle.mz_arena.specs.Values as terms
use Rattle.mz_arena.specs.Values.{Term, extreme_term}
use Rattle.mz_arena.specs.Terms.{term, kind_term}
use Rattle.mz_arena.specs.Extents.{Known, whole, truth, subset, wholes, truths, subsets, empty, as_single, as_wholes, is_truths, as_subsets, before_extent, cons_extent, extreme_extent, extent, kind_extent}
use Rattle.mz_partial.specs.Totals.{IsTotal}
use Rattle.fz_program.specs.declared.program.Arg.{Arg}
use Rattle.fz_program.specs.Arguments.{Plain, int, plains}
use Rattle.fz_program.specs.Flat.{Variable, Program}
use Rattle.flat_reif_rows.specs.Standing.{Suits}
use Rattle.flat_reif_rows.specs.Elements.{AllWhole}
use Rattle.flat_reif_rows.specs.Extremes.{Ever, IsExtreme, AreCompared}
use Rattle.flat_reif.specs.States.{State, IsState, put_at}
use Rattle.flat_reif.specs.Lists.{IsNode, ListArgs, nil, cons, IsListed, IsGiven, IsReady, Gives}
use Rattle.flat_reif.specs.NodeKinds.{extreme_kind}
use Rattle.flat_reif.proofs.Steps.{Stands}
use Rattle.flat_reif.proofs.Nodes.{term_here, extent_here}
use Rattle.flat_reif.proofs.Given.{gives_at}
use Rattle.flat_reif.proofs.Nodes.{same_stands, total_value}
use Rattle.mz_arena.proofs.Terms as laws
use Rattle.flat_reif.proofs.Fixed.{int_suits}
use Rattle.flat_reif.proofs.Gathering.{list_value, list_taken}

-- ---- the bounds of a list of integers

record ConsWholes (x y : Known) (es : List Ends) : Type 0 where
  first : Ends
  rest : List Ends
  is_first : x ≡ Some (whole first)
  is_rest : as_wholes y ≡ Some rest
  is : es ≡ first ∷ rest

same_ends : (xs ys : List Ends) → Some xs ≡ Some ys → ys ≡ xs
same_ends xs ys h = cc

before_wholes : (x y : Known) (es : List Ends) → as_wholes (as_single x >>= λ b. before_extent b y) ≡ Some es → ConsWholes x y es
before_wholes None y es h = absurd (cc)
before_wholes (Some (whole e)) y es h = by (as_wholes y) refl h
  where
    by : (o : Option (List Ends)) → as_wholes y ≡ o → as_wholes (o >>= λ fs. Some (wholes (e ∷ fs))) ≡ Some es → ConsWholes (Some (whole e)) y es
    by None k h = absurd (cc)
    by (Some fs) k h = record { first = e; rest = fs; is_first = refl; is_rest = k; is = same_ends (e ∷ fs) es h }
before_wholes (Some (truth e)) y es h = by (is_truths y) h
  where
    by : (b : Bool) → as_wholes (if b then Some truths else None) ≡ Some es → ConsWholes (Some (truth e)) y es
    by true h = absurd (cc)
    by false h = absurd (cc)
before_wholes (Some (subset u)) y es h = by (as_subsets y) h
  where
    by : (o : Option (List (List Range))) → as_wholes (o >>= λ us. Some (subsets (u ∷ us))) ≡ Some es → ConsWholes (Some (subset u)) y es
    by None h = absurd (cc)
    by (Some us) h = absurd (cc)
before_wholes (Some (wholes fs)) y es h = absurd (cc)
before_wholes (Some truths) y es h = absurd (cc)
before_wholes (Some (subsets us)) y es h = absurd (cc)
before_wholes (Some empty) y es h = absurd (cc)

cons_wholes : (x y : Known) (es : List Ends) → as_wholes (cons_extent x y) ≡ Some es → ConsWholes x y es
unfolding cons_extent
cons_wholes x y es h = before_wholes x y es h

-- a list's bounds, as those of integers
record OfWholes (x : Known) : Type 0 where
  ends : List Ends
  is : as_wholes x ≡ Some ends

of_wholes : (x : Known) → IsSome (option_map (λ (es : List Ends). es) (as_wholes x)) → OfWholes x
of_wholes x h = by (as_wholes x) refl h
  where
    by : (o : Option (List Ends)) → as_wholes x ≡ o → IsSome (option_map (λ (es : List Ends). es) o) → OfWholes x
    by None k h = absurd (cc)
    by (Some es) k h = record { ends = es; is = k }

extreme_some : (side : Side) (x : Known) → IsSome (extreme_extent side x) → OfWholes x
extreme_some side x h = by (as_wholes x) refl h
  where
    by : (o : Option (List Ends)) → as_wholes x ≡ o → IsSome (option_map (λ es. whole (extreme_ends side es)) o) → OfWholes x
    by None k h = absurd (cc)
    by (Some es) k h = record { ends = es; is = k }

module _ (s : State) (g : IsState s) where
  kind_is : (id : ℕ) (e : Entry) (k : NodeKind) → slice_get s.es id ≡ Some e → e.node.kind ≡ k → extent s.es id ≡ kind_extent e k (map (extent s.es) (take (arity k) (e.node.a ∷ e.node.b ∷ e.node.c ∷ [])))
  kind_is id e k is kind = extent_here s id e g is ∙ ap (λ j. kind_extent e j (map (extent s.es) (take (arity j) (e.node.a ∷ e.node.b ∷ e.node.c ∷ [])))) kind

  list_wholes : (id : ℕ) (ps : List Plain) (es : List Ends) → ListArgs s.es s.args id ps → as_wholes (extent s.es id) ≡ Some es → AllWhole s.prog.vars ps es
  list_wholes id [] es (nil e is kind) h = subst (AllWhole s.prog.vars []) (sym (same_ends [] es (sym (ap as_wholes (kind_is id e kinds.Nil is kind)) ∙ h))) tt
  list_wholes id (p ∷ ps) es (cons e is kind here rest) h =
      let c = cons_wholes (extent s.es e.node.a) (extent s.es e.node.b) es (sym (ap as_wholes (kind_is id e kinds.Cons is kind)) ∙ h) in
      subst (AllWhole s.prog.vars (p ∷ ps)) (sym c.is) (subst (Suits s.prog.vars p) c.is_first (g.suits e.node.a p here), list_wholes e.node.b ps c.rest rest c.is_rest)

side_free : (side : Side) → is_free (extreme_kind side) ≡ false
side_free Least = refl
side_free Greatest = refl

side_term : (v : terms.Values) (e : Entry) (side : Side) (t : Term) → kind_term v e (extreme_kind side) (t ∷ []) ≡ extreme_term side t
side_term v e Least t = refl
side_term v e Greatest t = refl

side_extent : (e : Entry) (side : Side) (x : Known) → kind_extent e (extreme_kind side) (x ∷ []) ≡ extreme_extent side x
side_extent e Least x = refl
side_extent e Greatest x = refl

side_arity : (side : Side) → arity (extreme_kind side) ≡ 1
side_arity Least = refl
side_arity Greatest = refl

module _ (s : State) (id : ℕ) (e : Entry) (g : IsState s) (is : slice_get s.es id ≡ Some e) (side : Side) (kind : e.node.kind ≡ extreme_kind side) where
  only_child : children e.node ≡ e.node.a ∷ []
  only_child = ap (λ k. take (arity k) (e.node.a ∷ e.node.b ∷ e.node.c ∷ [])) kind ∙ ap (λ n. take n (e.node.a ∷ e.node.b ∷ e.node.c ∷ [])) (side_arity side)

  bounds_are : extent s.es id ≡ extreme_extent side (extent s.es e.node.a)
  bounds_are = extent_here s id e g is ∙ ap₂ (λ k is. kind_extent e k (map (extent s.es) is)) kind only_child ∙ side_extent e side (extent s.es e.node.a)

  term_is : (v : terms.Values) → term v s.es id ≡ extreme_term side (term v s.es e.node.a)
  term_is v = term_here s id e v g is ∙ ap₂ (λ k is. kind_term v e k (map (term v s.es) is)) kind only_child ∙ side_term v e side (term v s.es e.node.a)

  ends : OfWholes (extent s.es e.node.a)
  ends = extreme_some side (extent s.es e.node.a) (subst (λ (x : Known). IsSome x) bounds_are (g.arena.bounded id e is))

  compared : (ps : List Plain) → ListArgs s.es s.args e.node.a ps → ps ≢ [] → AreCompared s.prog ps
  compared ps l some = record { bounds = ends.ends; elements = list_wholes s g e.node.a ps ends.ends l ends.is; some = some }

  extreme_stands : (q : Program) (ps : List Plain) (out : Plain) → at s.args id ≡ None → ListArgs s.es s.args e.node.a ps → IsExtreme s.prog q side ps out → Stands s q id out
  extreme_stands q ps out none l x = record {
    entry = e;
    is = is;
    bound = ap is_free kind ∙ side_free side;
    none = none;
    Can = λ v. Ever;
    grows = λ v. x.grows;
    can = λ v f d m. tt;
    place = x.place;
    suits = subst (Suits q.vars out) (sym (bounds_are ∙ ap (option_map (λ es. whole (extreme_ends side es))) ends.is)) (x.suits ends.ends (list_wholes s g e.node.a ps ends.ends l ends.is));
    value = λ v f d m t. term_is v ∙ ap (extreme_term side) (list_value s g v (take (length s.prog.vars) f) d m e.node.a ps l ∙ list_taken s g f e.node.a ps l) ∙ x.value f t;
    made = x.made;
  }

pub compared_at : (s : State) (id : ℕ) (n : Node) → IsState s → IsNode s.es id n → (side : Side) → n.kind ≡ extreme_kind side → (ps : List Plain) → ListArgs s.es s.args n.a ps → ps ≢ [] → AreCompared s.prog ps
compared_at s id n g h side kind ps l some = compared s id h.entry g h.is side (ap (λ (m : Node). m.kind) h.node ∙ kind) ps (subst (λ (m : Node). ListArgs s.es s.args m.a ps) (sym h.node) l) some

pub extreme_given : (s : State) (id : ℕ) (n : Node) → IsState s → IsReady s id n → (side : Side) → n.kind ≡ extreme_kind side → (q : Program) (ps : List Plain) (out : Plain) (args : List (Option Plain)) → ListArgs s.es s.args n.a ps → IsExtreme s.prog q side ps out → args ≡ put_at s.args id out → Gives s (record { es = s.es; prog = q; args = args }) id
extreme_given s id n g r side kind q ps out args l x put =
    let h = r.at_id in
    gives_at s q id out args g (extreme_stands s id h.entry g h.is side (ap (λ (m : Node). m.kind) h.node ∙ kind) q ps out r.none (subst (λ (m : Node). ListArgs s.es s.args m.a ps) (sym h.node) l) x) put

-- the child is a list
pub extreme_listed : (s : State) (id : ℕ) (n : Node) → IsState s → IsReady s id n → (side : Side) → n.kind ≡ extreme_kind side → IsListed s n.a
extreme_listed s id n g r side kind =
    let h = r.at_id in
    let only : children n ≡ n.a ∷ [] = ap (λ k. take (arity k) (n.a ∷ n.b ∷ n.c ∷ [])) kind ∙ ap (λ m. take m (n.a ∷ n.b ∷ n.c ∷ [])) (side_arity side) in
    let o = ends s id h.entry g h.is side (ap (λ (m : Node). m.kind) h.node ∙ kind) in
    elim (subst (AllByRecursion (IsGiven s)) only r.given).0 [
      | inl has ↦ no_single (extent s.es n.a) o.ends (at s.args n.a) (g.suits n.a) (subst (λ (m : Node). as_wholes (extent s.es m.a) ≡ Some o.ends) h.node o.is) has
      | inr l ↦ l
    ]
  where
    suits_no : (p : Plain) (x : Known) (es : List Ends) → as_wholes x ≡ Some es → Suits s.prog.vars p x → IsListed s n.a
    suits_no p None es h u = absurd u
    suits_no p (Some (whole e)) es h u = absurd (cc)
    suits_no p (Some (truth e)) es h u = absurd (cc)
    suits_no p (Some (subset w)) es h u = absurd (cc)
    suits_no p (Some (wholes fs)) es h u = absurd u
    suits_no p (Some truths) es h u = absurd u
    suits_no p (Some (subsets us)) es h u = absurd u
    suits_no p (Some empty) es h u = absurd u

    no_single : (x : Known) (es : List Ends) (o : Option Plain) → ((p : Plain) → o ≡ Some p → Suits s.prog.vars p x) → as_wholes x ≡ Some es → IsSome o → IsListed s n.a
    no_single x es None u h k = absurd (cc)
    no_single x es (Some p) u h k = suits_no p x es h (u p refl)

-- ---- a list that has no element: its extreme has no value

no_extreme : (side : Side) (x : terms.Val) → extreme_term side (Some terms.empty) ≡ Some x → ⊥
unfolding extreme_term
no_extreme side x h = cc

no_ends : (vs : List Variable) (es : List Ends) → AllWhole vs [] es → es ≡ []
no_ends vs [] h = refl
no_ends vs (e ∷ es) h = absurd h

module _ (s : State) (id : ℕ) (e : Entry) (g : IsState s) (is : slice_get s.es id ≡ Some e) (side : Side) (kind : e.node.kind ≡ extreme_kind side) where
  empty_stands : at s.args id ≡ None → IsTotal s.es id → ListArgs s.es s.args e.node.a [] → Stands s s.prog id (int (pos 0))
  empty_stands none total l =
      let o = ends s id e g is side kind in
      let no_end : o.ends ≡ [] = no_ends s.prog.vars o.ends (list_wholes s g e.node.a [] o.ends l o.is) in
      let bounds : extent s.es id ≡ Some (whole (extreme_ends side [])) = bounds_are s id e g is side kind ∙ ap (option_map (λ es. whole (extreme_ends side es))) (o.is ∙ ap Some no_end) in
      same_stands s id e (int (pos 0)) g is (ap is_free kind ∙ side_free side) none tt (subst (Suits s.prog.vars (int (pos 0))) (sym bounds) (int_suits s.prog.vars (pos 0) refl))
      (λ v f d m.
      let x = total_value s.es id v total (laws.domains_lie s.es g.arena v d) in
      absurd (no_extreme side x.value (sym (term_is s id e g is side kind v ∙ ap (extreme_term side) (list_value s g v f d m e.node.a [] l)) ∙ x.is)))

pub empty_given : (s : State) (id : ℕ) (n : Node) → IsState s → IsReady s id n → (side : Side) → n.kind ≡ extreme_kind side → (ps : List Plain) (args : List (Option Plain)) → ListArgs s.es s.args n.a ps → ps ≡ [] → args ≡ put_at s.args id (int (pos 0)) → Gives s (record { es = s.es; prog = s.prog; args = args }) id
empty_given s id n g r side kind ps args l none put =
    let h = r.at_id in
    gives_at s s.prog id (int (pos 0)) args g (empty_stands s id h.entry g h.is side (ap (λ (m : Node). m.kind) h.node ∙ kind) r.none r.total (subst (λ (m : Node). ListArgs s.es s.args m.a []) (sym h.node) (subst (ListArgs s.es s.args n.a) none l))) put

pub no_plains : (items : List Arg) → items ≡ [] → plains items ≡ []
no_plains items h = ap plains h

pub some_plains : (items : List Arg) → length items ≢ 0 → plains items ≢ []
some_plains [] h = λ e. h refl
some_plains (a ∷ items) h = λ e. no_cons e
  where
    no_cons : plains (a ∷ items) ≡ [] → ⊥
    no_cons e = cc

pub no_length : (n : ℕ) → nat_eq n 0 ≡ true → n ≡ 0
no_length n h = grind (arith, nat_tests)
