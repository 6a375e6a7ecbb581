-- The objective, step by step.
use Rattle.std.proofs.Common.{◌≡◌, ℕ, Bool, true, false, [], ◌∷◌, Some, IsSome, refl, sym, ap, subst, ◌∙◌}
use Rattle.std.specs.Prelude.{Result, Ok, Err, IfOk}
use Rattle.mz_arena.specs.Values as terms
use Rattle.mz_arena.specs.Values.{Term, Val, bit, is_true}
use Rattle.mz_arena.specs.Terms.{term}
use Rattle.mz_arena.specs.Extents.{Known, as_whole, extent}
use Rattle.mz_arena.specs.InBounds.{AreInDomains}
use Rattle.mz_arena.proofs.Terms as laws
use Rattle.mz_partial.specs.declared.memo.Pair.{Pair}
use Rattle.mz_partial.specs.Totals.{only}
use Rattle.mz_partial.proofs.Standing.{total_later}
use Rattle.flat_reif.specs.States.{State, Always}
use Rattle.flat_reif.specs.Lists.{HasArg}
use Rattle.flat_reif.specs.Roots.{IsWholeNode, GrownTo, IsVariableFor}
use Rattle.flat_reif.proofs.Kids.{whole_single}
use Rattle.flat_reif.proofs.Given.{has_arg}
use Rattle.flat_root.specs.Keeps.{IsReadyState, Leads, AllTrue, FlattenedFor}
use Rattle.flat_root.specs.Marks.{AreTotalIds}
use Rattle.flat_root.specs.Totals.{AreRoots}
use Rattle.flat_root.specs.Objectives.{IsWholeRoot, HasValueAt, HasObjective}
use Rattle.flat_root.proofs.Keeping.{keeps_spread, keeps_twice, keeps_where, keeps_grown, ready_grown, fewer_domains}
use Rattle.flat_root.proofs.Totaling.{root_of, truth_node}
use Rattle.flat_root.proofs.Rooting.{flat_ready, total_place, choices_flat}

-- ---- where it has a value

some_where : (d o : Term) (b : Bool) (w : Val) → d ≡ bit b → o ≡ only b w → is_true d ≡ true → IsSome o
some_where d o true w hd ho y = subst (λ (x : Term). IsSome x) (sym ho) refl
some_where d o false w hd ho y = let no : is_true (bit false) ≡ true = sym (ap is_true hd) ∙ y in absurd (cc)

where_some : (d o : Term) (b : Bool) (w : Val) → d ≡ bit b → o ≡ only b w → IsSome o → is_true d ≡ true
where_some d o true w hd ho y = ap is_true hd
where_some d o false w hd ho y = let no : IsSome (only false w) = subst (λ (x : Term). IsSome x) ho y in absurd (cc)

same_where : (d t o : Term) (b : Bool) (w : Val) → d ≡ bit b → t ≡ Some w → o ≡ only b w → is_true d ≡ true → o ≡ t
same_where d t o true w hd ht ho y = ho ∙ sym ht
same_where d t o false w hd ht ho y = let no : is_true (bit false) ≡ true = sym (ap is_true hd) ∙ y in absurd (cc)

module _ (s t : State) (id : ℕ) (p : Pair) (r : IsReadyState s) (root : IsWholeRoot s.es id) (g : GrownTo s t id p) where
  later : (v : terms.Values) → term v t.es id ≡ term v s.es id
  later v = g.grown.extends.grew.terms v id root.place

  pub total_ready : IsReadyState t
  total_ready = ready_grown s t g.grown r.front

  pub defined_root : AreRoots t.es (p.defined ∷ [])
  defined_root = (root_of t.es p.defined (truth_node t.es p.defined g.pair.truth), tt)

  to_value : (v : terms.Values) → AreInDomains t.es v → AllTrue t.es (p.defined ∷ []) v → HasValueAt s.es id v
  to_value v d y =
      let z = g.pair.splits v (laws.domains_lie t.es g.grown.state.arena v d) in
      subst (λ (x : Term). IsSome x) (later v) (some_where (term v t.es p.defined) (term v t.es id) z.holds z.value z.is_defined z.is_old y.0)

  from_value : (v : terms.Values) → AreInDomains t.es v → HasValueAt s.es id v → AllTrue t.es (p.defined ∷ []) v
  from_value v d y =
      let z = g.pair.splits v (laws.domains_lie t.es g.grown.state.arena v d) in
      (where_some (term v t.es p.defined) (term v t.es id) z.holds z.value z.is_defined z.is_old (subst (λ (x : Term). IsSome x) (sym (later v)) y), tt)

  same_value : (v : terms.Values) → AreInDomains t.es v → AllTrue t.es (p.defined ∷ []) v → term v s.es id ≡ term v t.es p.term
  same_value v d y =
      let z = g.pair.splits v (laws.domains_lie t.es g.grown.state.arena v d) in
      sym (later v) ∙ same_where (term v t.es p.defined) (term v t.es p.term) (term v t.es id) z.holds z.value z.is_defined z.has_value z.is_old y.0

  whole_term : IsWholeNode t.es p.term
  whole_term = subst (λ (x : Known). IsSome (as_whole x)) (sym (g.pair.bounds ∙ g.grown.extends.grew.extents id root.place)) root.is_whole

  module _ (u : State) (l : Leads t u (AllTrue t.es (p.defined ∷ []))) where
    pub term_total : AreTotalIds u.es (p.term ∷ [])
    term_total = (total_later t.es u.es p.term l.keeps.extends.grew g.pair.total, tt)

    whole_later : IsWholeNode u.es p.term
    whole_later = subst (λ (x : Known). IsSome (as_whole x)) (sym (l.keeps.extends.grew.extents p.term (total_place t.es p.term g.pair.total))) whole_term

    module _ (w : State) (f : FlattenedFor u w (p.term ∷ [])) where
      pub term_whole : IsWholeNode w.es p.term
      term_whole = subst (λ es. IsWholeNode es p.term) (sym f.flattened.spreads.same) whole_later

      pub term_has : HasArg w p.term
      term_has = has_arg w f.flattened.state p.term f.given.0 (whole_single (extent w.es p.term) term_whole)

      pub objective_posted : (x : State) (k : ℕ) → IsVariableFor w x p.term k → HasObjective s x id k
      objective_posted x k o =
          let first = keeps_twice s t u Always (AllTrue t.es (p.defined ∷ [])) (keeps_grown s t g.grown) l.keeps in
          let second = keeps_twice s u w (λ v. Always v × AllTrue t.es (p.defined ∷ []) v) Always first (keeps_spread u w Always f.flattened.spreads) in
          let third = keeps_twice s w x (λ v. (Always v × AllTrue t.es (p.defined ∷ []) v) × Always v) Always second (keeps_spread w x Always o.flattened.spreads) in
          let same : x.es ≡ u.es = o.flattened.spreads.same ∙ f.flattened.spreads.same in
          let back : (v : terms.Values) → AreInDomains x.es v → AreInDomains t.es v = λ v d. fewer_domains t.es u.es l.keeps.extends v (subst (λ es. AreInDomains es v) same d) in
          let term_same : (v : terms.Values) → term v t.es p.term ≡ term v x.es p.term = λ v. sym (l.keeps.extends.grew.terms v p.term (total_place t.es p.term g.pair.total)) ∙ ap (λ es. term v es p.term) (sym same) in
          record {
            keeps = keeps_where s x (λ v. ((Always v × AllTrue t.es (p.defined ∷ []) v) × Always v) × Always v) (HasValueAt s.es id) third (λ v d c. to_value v (back v d) c.0.0.1) (λ v d c. (((tt, from_value v (back v d) c), tt), tt));
            ready = flat_ready w x (flat_ready u w l.ready f.flattened) o.flattened;
            sort = o.sort;
            choices = choices_flat w x f.choices o.flattened;
            value = λ v f d m. same_value v (back v d) (third.holds v f d m).0.0.1 ∙ term_same v ∙ o.value v f d m;
          }

pub if_ok_each : {X E : Type 0} (r : Result X E) (Q P : X → Type 0) → ((x : X) → Q x → P x) → IfOk r Q → IfOk r P
if_ok_each (Ok x) Q P f h = f x h
if_ok_each (Err e) Q P f h = tt
