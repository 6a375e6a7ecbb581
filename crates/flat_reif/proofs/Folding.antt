-- Nodes that their bounds or their children's arguments tell: no row is needed.
use Rattle.std.proofs.Common.{◌≡◌, ℕ, Bool, true, false, not, List, [], ◌∷◌, length, map, Option, Some, None, IsSome, refl, sym, ap, subst, ◌∙◌, arith}
use Rattle.std.specs.Prelude.{IfSome}
use Rattle.std.proofs.lemmas.Int.{ints}
use Rattle.mz_interval.specs.Ends.{Ends, is_number}
use Rattle.mz_interval.specs.declared.interval.Interval.{Interval}
use Rattle.mz_interval.specs.Interval.{ends}
use Rattle.mz_operations.specs.Views.{◌>>=◌}
use Rattle.mz_arena.specs.declared.node.Node.{Node}
use Rattle.mz_arena.specs.declared.node.NodeKind.{NodeKind}
use Rattle.mz_arena.specs.declared.node.NodeKind.TheVariants as kinds
use Rattle.mz_arena.specs.declared.node.Sort.TheVariants as sorts
use Rattle.mz_arena.specs.Entries.{Entry, at, is_free, children}
use Rattle.mz_arena.specs.Values as terms
use Rattle.mz_arena.specs.Values.{Term, Val, not_term, to_int_term}
use Rattle.mz_arena.specs.Terms.{term, kind_term}
use Rattle.mz_arena.specs.Extents.{Known, whole, truth, subset, wholes, truths, subsets, empty, as_truth, open_truth, ends_in, sort_of, not_extent, to_int_extent, extent}
use Rattle.mz_arena.specs.InBounds.{Lies}
use Rattle.mz_arena.proofs.Terms as laws
use Rattle.fz_program.specs.declared.program.Arg.{Arg}
use Rattle.fz_program.specs.declared.row_name.RowName.{RowName}
use Rattle.fz_program.specs.declared.row_name.Kind.TheVariants.{Int, Bool as Truth}
use Rattle.fz_program.specs.Arguments.{Plain, plain, bool, int, set, var, nested}
use Rattle.fz_program.specs.Values.{Values}
use Rattle.fz_program.specs.Flat.{Variable, number_of_truth, plain_value}
use Rattle.fz_build.specs.Build.{IsOver}
use Rattle.flat_reif_rows.specs.Standing.{seen, LiesWithin, Suits, of_kind, extent_over, term_over}
use Rattle.flat_reif_rows.specs.NodeRows.{row_of_one, row_of_two}
use Rattle.flat_reif_rows.specs.Laws.{is_own}
use Rattle.flat_reif_rows.proofs.Truths.{truth_within}
use Rattle.flat_reif_rows.specs.Folds.{truth_in, IsSame, IsNegated, IsCounted, IsFoldOfOne}
use Rattle.flat_reif.specs.States.{State, IsState, put_at}
use Rattle.flat_reif.specs.Lists.{IsReady, Gives}
use Rattle.flat_reif.specs.Unmet.{IsFixed}
use Rattle.flat_reif.proofs.Nodes.{AllHave, extent_told, term_told, total_value, same_stands, own_or_free}
use Rattle.flat_reif.proofs.Given.{gives_at, children_one, children_two, one_arity, two_arity, all_one, all_two}
use Rattle.flat_reif.proofs.Fixed.{bool_sort}
use Rattle.flat_reif.proofs.Lacking.{number_suits, low_number, interval_of, same_ends}

-- ---- bounds of one number

fixed_suits : (vs : List Variable) (x : Known) (p : Plain) → IsFixed x p → Suits vs p x
fixed_suits vs None p h = absurd h
fixed_suits vs (Some (whole e)) p h = subst (λ q. LiesWithin Int vs q e) (sym h.0) (number_suits vs e.0 e (low_number e h.2) (omega (arith, ints)) (omega (arith, ints, h.1)))
fixed_suits vs (Some (truth e)) p h = absurd h
fixed_suits vs (Some (subset u)) p h = absurd h
fixed_suits vs (Some (wholes es)) p h = absurd h
fixed_suits vs (Some truths) p h = absurd h
fixed_suits vs (Some (subsets us)) p h = absurd h
fixed_suits vs (Some empty) p h = absurd h

fixed_over : (x : Known) (p : Plain) (n : ℕ) → IsFixed x p → IsOver n p
fixed_over None p n h = absurd h
fixed_over (Some (whole e)) p n h = subst (IsOver n) (sym h.0) tt
fixed_over (Some (truth e)) p n h = absurd h
fixed_over (Some (subset u)) p n h = absurd h
fixed_over (Some (wholes es)) p n h = absurd h
fixed_over (Some truths) p n h = absurd h
fixed_over (Some (subsets us)) p n h = absurd h
fixed_over (Some empty) p n h = absurd h

only_number : (e : Ends) (t : Term) (w : Val) → e.0 ≡ e.1 → t ≡ Some w → Lies (Some (whole e)) t → t ≡ Some (terms.number e.0)
only_number e None w same h l = absurd (cc)
only_number e (Some (terms.number n)) w same h l = let is : n ≡ e.0 = omega (arith, ints, same, l.from, l.to) in ap (λ m. Some (terms.number m)) is
only_number e (Some (terms.set u)) w same h l = absurd l
only_number e (Some (terms.numbers ns)) w same h l = absurd l
only_number e (Some (terms.sets us)) w same h l = absurd l
only_number e (Some terms.empty) w same h l = absurd l

fixed_value : (x : Known) (p : Plain) (t : Term) (w : Val) (f : Values) → IsFixed x p → t ≡ Some w → Lies x t → t ≡ Some (seen (plain_value f p))
fixed_value None p t w f h is l = absurd h
fixed_value (Some (whole e)) p t w f h is l = only_number e t w h.1 is l ∙ ap (λ q. Some (seen (plain_value f q))) (sym h.0)
fixed_value (Some (truth e)) p t w f h is l = absurd h
fixed_value (Some (subset u)) p t w f h is l = absurd h
fixed_value (Some (wholes es)) p t w f h is l = absurd h
fixed_value (Some truths) p t w f h is l = absurd h
fixed_value (Some (subsets us)) p t w f h is l = absurd h
fixed_value (Some empty) p t w f h is l = absurd h

pub fixed_given : (s : State) (id : ℕ) (n : Node) → IsState s → IsReady s id n → is_free n.kind ≡ false → (p : Plain) (args : List (Option Plain)) → IsFixed (extent s.es id) p → args ≡ put_at s.args id p → Gives s (record { es = s.es; prog = s.prog; args = args }) id
fixed_given s id n g r inner p args h put =
    let e : Entry = r.at_id.entry in
    let bound : is_free e.node.kind ≡ false = ap is_free (ap (λ (m : Node). m.kind) r.at_id.node) ∙ inner in
    gives_at s s.prog id p args g
    (same_stands s id e p g r.at_id.is bound r.none (fixed_over (extent s.es id) p _ h) (fixed_suits s.prog.vars (extent s.es id) p h)
    (λ v f d m. (let inside = laws.domains_lie s.es g.arena v d in let x = total_value s.es id v r.total inside in fixed_value (extent s.es id) p (term v s.es id) x.value f h x.is (laws.terms_lie s.es g.arena v inside id))))
    put

fixed_as : (x : Known) (r : Interval) (p : Plain) → sort_of x ≡ Some sorts.Integer → ends_in x ≡ Some (ends r) → (p ≡ int r.lo) × (r.lo ≡ r.hi) → IsFixed x p
fixed_as None r p h e is = absurd (cc)
fixed_as (Some (whole f)) r p h e is =
    let same = same_ends f (ends r) e in
    subst (λ (g : Ends). IsFixed (Some (whole g)) p) (sym same) (is.0, is.1, interval_of r)
fixed_as (Some (truth f)) r p h e is = absurd (cc)
fixed_as (Some (subset u)) r p h e is = absurd (cc)
fixed_as (Some (wholes es)) r p h e is = absurd (cc)
fixed_as (Some truths) r p h e is = absurd (cc)
fixed_as (Some (subsets us)) r p h e is = absurd (cc)
fixed_as (Some empty) r p h e is = absurd (cc)

pub if_fixed : (o : Option Arg) (x : Known) (r : Interval) → sort_of x ≡ Some sorts.Integer → ends_in x ≡ Some (ends r) → IfSome o (λ a. (plain a ≡ int r.lo) × (r.lo ≡ r.hi)) → IfSome o (λ a. IsFixed x (plain a))
if_fixed None x r h e is = tt
if_fixed (Some a) x r h e is = fixed_as x r (plain a) h e is

-- ---- two children

module _ (s : State) (id : ℕ) (n : Node) (g : IsState s) (r : IsReady s id n) (name : RowName) (row : row_of_two n.kind ≡ Some name) where
  abbrev e : Entry
  e = r.at_id.entry

  inner : is_own n.kind ≡ false
  inner = (two_arity n.kind name row).1

  own : is_own e.node.kind ≡ false
  own = ap is_own (ap (λ (m : Node). m.kind) r.at_id.node) ∙ inner

  bounds_two : extent s.es id ≡ extent_over n.kind (extent s.es n.a ∷ extent s.es n.b ∷ [])
  bounds_two =
      extent_told s id e g r.at_id.is own
      ∙ ap (λ (m : Node). extent_over m.kind (map (extent s.es) (children m))) r.at_id.node
      ∙ ap (λ is. extent_over n.kind (map (extent s.es) is)) (children_two n (two_arity n.kind name row).0)

  pub same_given : (p q out : Plain) (args : List (Option Plain)) → at s.args n.a ≡ Some p → at s.args n.b ≡ Some q → IsSame s.prog.vars n.kind p q out → IsOver (length s.prog.vars) out → args ≡ put_at s.args id out → Gives s (record { es = s.es; prog = s.prog; args = args }) id
  same_given p q out args hp hq same over put =
      let open_ : extent s.es id ≡ open_truth = bounds_two ∙ same.opens (extent s.es n.a) (extent s.es n.b) (subst (λ (x : Known). IsSome x) bounds_two (g.arena.bounded id e r.at_id.is)) in
      let have : AllHave s (children e.node) (p ∷ q ∷ []) = subst (λ (m : Node). AllHave s (children m) (p ∷ q ∷ [])) (sym r.at_id.node) (all_two s id n g r p q (two_arity n.kind name row).0 hp hq) in
      gives_at s s.prog id out args g
      (same_stands s id e out g r.at_id.is (own_or_free e.node.kind own) r.none over (subst (Suits s.prog.vars out) (sym open_) (truth_within s.prog.vars out same.sort))
      (λ v f d m. term_told s id e g r.at_id.is own (p ∷ q ∷ []) v f d m have ∙ ap (λ (z : Node). term_over v z.kind (p ∷ q ∷ []) f) r.at_id.node ∙ same.value v f m.solves.domains))
      put

  pub first_given : (p q : Plain) (args : List (Option Plain)) → at s.args n.a ≡ Some p → at s.args n.b ≡ Some q → IsSame s.prog.vars n.kind p q p → args ≡ put_at s.args id p → Gives s (record { es = s.es; prog = s.prog; args = args }) id
  first_given p q args hp hq same put = same_given p q p args hp hq same (g.places n.a p hp) put

  pub second_given : (p q : Plain) (args : List (Option Plain)) → at s.args n.a ≡ Some p → at s.args n.b ≡ Some q → IsSame s.prog.vars n.kind p q q → args ≡ put_at s.args id q → Gives s (record { es = s.es; prog = s.prog; args = args }) id
  second_given p q args hp hq same put = same_given p q q args hp hq same (g.places n.b q hq) put

  pub constant_given : (p q out : Plain) (b : Bool) (args : List (Option Plain)) → out ≡ bool b → at s.args n.a ≡ Some p → at s.args n.b ≡ Some q → IsSame s.prog.vars n.kind p q (bool b) → args ≡ put_at s.args id out → Gives s (record { es = s.es; prog = s.prog; args = args }) id
  constant_given p q out b args is hp hq same put = same_given p q (bool b) args hp hq same tt (put ∙ ap (put_at s.args id) is)

-- ---- one child

negated_term : (v : terms.Values) (b : Bool) → kind_term v (of_kind kinds.Not) kinds.Not (Some (terms.number (number_of_truth b)) ∷ []) ≡ Some (terms.number (number_of_truth (not b)))
unfolding not_term
negated_term v true = refl
negated_term v false = refl

counted_term : (v : terms.Values) (b : Bool) → kind_term v (of_kind kinds.ToInt) kinds.ToInt (Some (terms.number (number_of_truth b)) ∷ []) ≡ Some (terms.number (number_of_truth b))
unfolding to_int_term
counted_term v true = refl
counted_term v false = refl

truth_number : (b : Bool) → is_number (number_of_truth b) ≡ true
truth_number true = refl
truth_number false = refl

not_suits : (vs : List Variable) (b : Bool) (x : Known) → IsSome (not_extent x) → Suits vs (bool b) (not_extent x)
unfolding not_extent
not_suits vs b x h = by (as_truth x) h
  where
    by : (o : Option Ends) → IsSome (o >>= λ e. open_truth) → Suits vs (bool b) (o >>= λ e. open_truth)
    by None h = absurd (cc)
    by (Some e) h = truth_within vs (bool b) (bool_sort vs b)

to_int_suits : (vs : List Variable) (b : Bool) (x : Known) → Suits vs (bool b) x → IsSome (to_int_extent x) → Suits vs (int (number_of_truth b)) (to_int_extent x)
unfolding to_int_extent
to_int_suits vs b None s h = absurd (cc)
to_int_suits vs b (Some (whole e)) s h = absurd (cc)
to_int_suits vs b (Some (truth e)) s h = number_suits vs (number_of_truth b) e (truth_number b) s.from s.to
to_int_suits vs b (Some (subset u)) s h = absurd (cc)
to_int_suits vs b (Some (wholes es)) s h = absurd (cc)
to_int_suits vs b (Some truths) s h = absurd (cc)
to_int_suits vs b (Some (subsets us)) s h = absurd (cc)
to_int_suits vs b (Some empty) s h = absurd (cc)

-- the node over a constant, and what it is
record IsOfConstant (vs : List Variable) (k : NodeKind) (x : Known) (p out : Plain) : Type 0 where
  over : (n : ℕ) → IsOver n out
  suits : Suits vs p x → IsSome (extent_over k (x ∷ [])) → Suits vs out (extent_over k (x ∷ []))
  value : (v : terms.Values) (f : Values) → term_over v k (p ∷ []) f ≡ Some (seen (plain_value f out))

negated_constant : (vs : List Variable) (x : Known) (p out : Plain) → IsNegated (truth_in p) out → IsOfConstant vs kinds.Not x p out
negated_constant vs x (bool b) out h = record {
  over = λ n. subst (IsOver n) (sym h) tt;
  suits = λ s some. subst (λ q. Suits vs q (not_extent x)) (sym h) (not_suits vs (not b) x some);
  value = λ v f. negated_term v b ∙ ap (λ q. Some (seen (plain_value f q))) (sym h);
}
negated_constant vs x (int n) out h = absurd h
negated_constant vs x (set u) out h = absurd h
negated_constant vs x (var k) out h = absurd h
negated_constant vs x nested out h = absurd h

counted_constant : (vs : List Variable) (x : Known) (p out : Plain) → IsCounted (truth_in p) out → IsOfConstant vs kinds.ToInt x p out
counted_constant vs x (bool b) out h = record {
  over = λ n. subst (IsOver n) (sym h) tt;
  suits = λ s some. subst (λ q. Suits vs q (to_int_extent x)) (sym h) (to_int_suits vs b x s some);
  value = λ v f. counted_term v b ∙ ap (λ q. Some (seen (plain_value f q))) (sym h);
}
counted_constant vs x (int n) out h = absurd h
counted_constant vs x (set u) out h = absurd h
counted_constant vs x (var k) out h = absurd h
counted_constant vs x nested out h = absurd h

of_constant : (vs : List Variable) (k : NodeKind) (x : Known) (p out : Plain) → IsFoldOfOne k p out → IsOfConstant vs k x p out
of_constant vs kinds.Not x p out h = negated_constant vs x p out h
of_constant vs kinds.ToInt x p out h = counted_constant vs x p out h
of_constant vs _ x p out h = absurd h

pub fold_one_given : (s : State) (id : ℕ) (n : Node) → IsState s → IsReady s id n → (name : RowName) → row_of_one n.kind ≡ Some name → (p out : Plain) (args : List (Option Plain)) → at s.args n.a ≡ Some p → IsFoldOfOne n.kind p out → args ≡ put_at s.args id out → Gives s (record { es = s.es; prog = s.prog; args = args }) id
fold_one_given s id n g r name row p out args hp h put =
    let e : Entry = r.at_id.entry in
    let ar = one_arity n.kind name row in
    let c = of_constant s.prog.vars n.kind (extent s.es n.a) p out h in
    let own : is_own e.node.kind ≡ false = ap is_own (ap (λ (m : Node). m.kind) r.at_id.node) ∙ ar.1 in
    let here : extent s.es id ≡ extent_over n.kind (extent s.es n.a ∷ []) = extent_told s id e g r.at_id.is own ∙ ap (λ (m : Node). extent_over m.kind (map (extent s.es) (children m))) r.at_id.node ∙ ap (λ is. extent_over n.kind (map (extent s.es) is)) (children_one n ar.0) in
    let have : AllHave s (children e.node) (p ∷ []) = subst (λ (m : Node). AllHave s (children m) (p ∷ [])) (sym r.at_id.node) (all_one s id n g r p ar.0 hp) in
    gives_at s s.prog id out args g
    (same_stands s id e out g r.at_id.is (own_or_free e.node.kind own) r.none (c.over (length s.prog.vars)) (subst (Suits s.prog.vars out) (sym here) (c.suits (g.suits n.a p hp) (subst (λ (x : Known). IsSome x) here (g.arena.bounded id e r.at_id.is))))
    (λ v f d m. term_told s id e g r.at_id.is own (p ∷ []) v f d m have ∙ ap (λ (z : Node). term_over v z.kind (p ∷ []) f) r.at_id.node ∙ c.value v f))
    put
