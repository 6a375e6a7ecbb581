-- The domains of variables and choices, and their bounds.
use Rattle.std.proofs.Common.{◌≡◌, ℕ, zero, suc, ℤ, pos, ◌≤ℤ◌, Bool, true, false, ◌&&◌, List, [], ◌∷◌, map, take, Option, Some, None, IsSome, option_map, cond, slice_get, inl, inr, refl, sym, ap, ap₂, subst, ◌∙◌, arith}
use Rattle.std.specs.Ordering.{int_eq}
use Rattle.std.proofs.lemmas.Int.{ints}
use Rattle.mz_value.specs.Ranges.{Range, Has, AreCanonical}
use Rattle.mz_value.proofs.Comparisons.{int_le_true}
use Rattle.mz_interval.specs.Ends.{Ends, is_number, if_in_limit, if_interval}
use Rattle.mz_operations.specs.Laws.{IsSet, IsPart}
use Rattle.mz_operations.specs.Sets.{end_of}
use Rattle.mz_operations.specs.Bounds as bounds
use Rattle.mz_operations.specs.Bounds.{hull_of_set}
use Rattle.mz_operations.proofs.SetBounds.{hull_of_set-has}
use Rattle.mz_arena.specs.declared.node.Node.{Node}
use Rattle.mz_arena.specs.declared.node.NodeKind.{NodeKind}
use Rattle.mz_arena.specs.declared.node.NodeKind.TheVariants as kinds
use Rattle.mz_arena.specs.Entries.{Entry, at, arity, is_free, is_local}
use Rattle.mz_arena.specs.Values as terms
use Rattle.mz_arena.specs.Terms.{own_id}
use Rattle.mz_arena.specs.Extents.{Known, whole, truth, subset, extent, kind_extent, in_limit, both_truths, marked, variable_extent, set_variable_extent}
use Rattle.mz_arena.specs.Arenas.{IsSetConst, both_truth_values, has_mark}
use Rattle.mz_arena.specs.InBounds.{IsOfDomain}
use Rattle.mz_arena.proofs.Growing.{const_extent}
use Rattle.mz_arena.proofs.Kept.{variable_extent_of}
use Rattle.fz_program.specs.declared.program.Domain.{Domain}
use Rattle.fz_program.specs.declared.program.Domain.TheVariants.{Bool as Truths, Ints as Integers, SetOf}
use Rattle.fz_program.specs.declared.row_name.Kind.TheVariants.{Int, Bool as Truth, Set}
use Rattle.fz_program.specs.Arguments.{Plain, var, one, array, Argument, plain_of}
use Rattle.fz_program.specs.Values as values
use Rattle.fz_program.specs.Flat.{Variable, Program, IsInDomain, same_kind, kind_of_domain}
use Rattle.fz_build.specs.Bounds.{ends_of, upper_of}
use Rattle.fz_build.specs.Build.{with_variable, introduced_variable}
use Rattle.fz_build.specs.Growth.{HasDomain, Declares}
use Rattle.fz_build.specs.History.{Made, adds_choice}
use Rattle.flat_reif_rows.specs.Standing.{LiesWithin, Suits}
use Rattle.flat_reif_rows.proofs.TruthRows.{domain_kind, ends_out, upper_out}
use Rattle.flat_reif.specs.States.{State, IsState, put_at, given_choices, own_value, written, number_domain, free_domain}
use Rattle.flat_reif.specs.Lists.{IsNode, Gives}
use Rattle.flat_reif.proofs.Puts.{choice_put}
use Rattle.flat_reif.proofs.Nodes.{extent_here}
use Rattle.flat_reif.proofs.Given.{gives_flat}
use Rattle.flat_reif.proofs.Choices.{IsOwn, IsMade, own_step}

-- ---- bounds

hull_ordered : (u : List Range) → AreCanonical u → (hull_of_set u).0 ≤ℤ (hull_of_set u).1
unfolding end_of
hull_ordered [] c = omega (arith, ints)
hull_ordered (r ∷ rs) c =
    let first : Has (r ∷ rs) r.0 = inl (omega (arith, ints), c.0) in
    let h = hull_of_set-has (r ∷ rs) r.0 c first in
    omega (arith, ints, h.from, h.to)

written_hull : (u : List Range) → hull_of_set (written u) ≡ hull_of_set u
unfolding end_of
written_hull [] = refl
written_hull (r ∷ rs) = refl

pub limit_is : (e : Ends) → IsSome (in_limit e) → if_in_limit e ≡ Some e
limit_is e h = by (is_number e.0 && is_number e.1) h
  where
    by : (b : Bool) → IsSome (option_map whole (cond b (Some e) None)) → cond b (Some e) None ≡ Some e
    by true h = refl
    by false h = absurd (cc)

interval_is : (e : Ends) → e.0 ≤ℤ e.1 → if_in_limit e ≡ Some e → if_interval e ≡ Some e
interval_is e o l = ap (λ b. cond b (if_in_limit e) None) (int_le_true e.0 e.1 o) ∙ l

integer_kind : (s : List Range) → same_kind Int (kind_of_domain (Integers s)) ≡ true
unfolding same_kind kind_of_domain
integer_kind s = refl

truth_kind : same_kind Truth (kind_of_domain Truths) ≡ true
unfolding same_kind kind_of_domain
truth_kind = refl

set_kind : (s : List Range) → same_kind Set (kind_of_domain (SetOf s)) ≡ true
unfolding same_kind kind_of_domain
set_kind s = refl

-- what a test for both truth values tells
record AreBoth (e : Ends) : Type 0 where
  known : both_truths e ≡ Some (truth e)
  low : e.0 ≡ pos 0
  high : e.1 ≡ pos 1

both_of : (e : Ends) → IsSome (both_truths e) → AreBoth e
both_of e h = by (int_eq e.0 (pos 0)) (int_eq e.1 (pos 1)) refl refl h
  where
    by : (s t : Bool) → int_eq e.0 (pos 0) ≡ s → int_eq e.1 (pos 1) ≡ t → IsSome (cond (s && t) (Some (truth e)) None) → AreBoth e
    by true true p q h = record { known = ap₂ (λ x y. cond (x && y) (Some (truth e)) None) p q; low = grind (arith, ints); high = grind (arith, ints) }
    by true false p q h = absurd (cc)
    by false t p q h = absurd (cc)

module _ (vs : List Variable) (out : Plain) (u : List Range) (is_set : IsSet u) where
  whole_suits : HasDomain vs out (Integers (written u)) → IsSome (in_limit (hull_of_set u)) → Suits vs out (in_limit (hull_of_set u))
  whole_suits h some =
      let e : Ends = hull_of_set u in
      let limit : if_in_limit e ≡ Some e = limit_is e some in
      let ends : ends_of vs out ≡ e = ends_out vs out (Integers (written u)) h ∙ written_hull u in
      let lies : LiesWithin Int vs out e = record {
        sort = domain_kind vs out (Integers (written u)) Int (integer_kind (written u)) h;
        interval = subst (λ (g : Ends). if_interval g ≡ Some g) (sym ends) (interval_is e (hull_ordered u is_set.0) limit);
        from = subst (λ (g : Ends). e.0 ≤ℤ g.0) (sym ends) (omega (arith, ints));
        to = subst (λ (g : Ends). g.1 ≤ℤ e.1) (sym ends) (omega (arith, ints));
      } in
      subst (λ o. Suits vs out (option_map whole o)) (sym limit) lies

  truth_suits : HasDomain vs out Truths → IsSome (both_truths (hull_of_set u)) → Suits vs out (both_truths (hull_of_set u))
  truth_suits h some =
      let e : Ends = hull_of_set u in
      let both = both_of e some in
      let ends : ends_of vs out ≡ bounds.truth = ends_out vs out Truths h in
      let lies : LiesWithin Truth vs out e = record {
        sort = domain_kind vs out Truths Truth truth_kind h;
        interval = subst (λ (g : Ends). if_interval g ≡ Some g) (sym ends) refl;
        from = subst (λ (g : Ends). e.0 ≤ℤ g.0) (sym ends) (omega (arith, ints, both.low));
        to = subst (λ (g : Ends). g.1 ≤ℤ e.1) (sym ends) (omega (arith, ints, both.high));
      } in
      subst (λ (x : Known). Suits vs out x) (sym both.known) lies

  set_suits : HasDomain vs out (SetOf u) → Suits vs out (Some (subset u))
  set_suits h =
      let same : upper_of vs out ≡ u = upper_out vs out (SetOf u) h in
      record {
        sort = domain_kind vs out (SetOf u) Set (set_kind u) h;
        own = subst IsSet (sym same) is_set;
        upper = is_set;
        part = subst (λ g. IsPart g u) (sym same) (record { inside = λ x i. i });
      }

  number_suits : (mark : ℕ) → HasDomain vs out (number_domain mark u) → IsSome (marked mark (hull_of_set u)) → Suits vs out (marked mark (hull_of_set u))
  number_suits zero h some = whole_suits h some
  number_suits (suc zero) h some = truth_suits h some
  number_suits (suc (suc mark)) h some = absurd (cc)

-- the bounds of a variable or a choice
abbrev own_extent : NodeKind → ℕ → List Range → Known
own_extent kinds.SetVar mark u = Some (subset u)
own_extent kinds.SetLocal mark u = Some (subset u)
own_extent _ mark u = marked mark (hull_of_set u)

set_extent_of : (x : Known) (u : List Range) → x ≡ Some (subset u) → set_variable_extent x ≡ Some (subset u)
unfolding set_variable_extent
set_extent_of x u h = ap set_variable_extent h

own_bounds : (e : Entry) (k : NodeKind) (f : ℕ → Known) (u : List Range) → is_free k ≡ true → f e.node.a ≡ Some (subset u) → kind_extent e k (map f (take (arity k) (e.node.a ∷ e.node.b ∷ e.node.c ∷ []))) ≡ own_extent k e.node.c u
own_bounds e kinds.Var f u h d = ap (variable_extent e.node.c) d ∙ variable_extent_of e.node.c (Some (subset u)) u refl
own_bounds e kinds.Local f u h d = ap (variable_extent e.node.c) d ∙ variable_extent_of e.node.c (Some (subset u)) u refl
own_bounds e kinds.SetVar f u h d = set_extent_of (f e.node.a) u d
own_bounds e kinds.SetLocal f u h d = set_extent_of (f e.node.a) u d
own_bounds e _ f u h d = absurd (cc)

own_suits : (vs : List Variable) (out : Plain) (u : List Range) (k : NodeKind) (mark : ℕ) → IsSet u → is_free k ≡ true → HasDomain vs out (free_domain k mark u) → IsSome (own_extent k mark u) → Suits vs out (own_extent k mark u)
own_suits vs out u kinds.Var mark s h d some = number_suits vs out u s mark d some
own_suits vs out u kinds.Local mark s h d some = number_suits vs out u s mark d some
own_suits vs out u kinds.SetVar mark s h d some = set_suits vs out u s d
own_suits vs out u kinds.SetLocal mark s h d some = set_suits vs out u s d
own_suits vs out u _ mark s h d some = absurd (cc)

-- ---- values

written_has : (u : List Range) (x : ℤ) → Has u x → Has (written u) x
written_has [] x h = absurd h
written_has (r ∷ rs) x h = h

both_has : (x : ℤ) → Has both_truth_values x → (pos 0 ≤ℤ x) × (x ≤ℤ pos 1)
both_has x (inl h) = h
both_has x (inr h) = absurd h

number_may : (mark : ℕ) (u : List Range) (x : ℤ) → IsSome (marked mark (hull_of_set u)) → (mark ≡ 1 → u ≡ both_truth_values) → Has u x → IsInDomain (number_domain mark u) (values.number x)
number_may zero u x some both h = written_has u x h
number_may (suc zero) u x some both h = both_has x (subst (λ w. Has w x) (both refl) h)
number_may (suc (suc mark)) u x some both h = absurd (cc)

own_may : (v : terms.Values) (n : Node) (k : NodeKind) (u : List Range) → is_free k ≡ true → IsSome (own_extent k n.c u) → (has_mark k ≡ true → n.c ≡ 1 → u ≡ both_truth_values) → IsOfDomain v n k u → IsInDomain (free_domain k n.c u) (own_value v n k)
own_may v n kinds.Var u h some both i = number_may n.c u (v.number (own_id n)) some (both refl) i
own_may v n kinds.Local u h some both i = number_may n.c u (v.number (own_id n)) some (both refl) i
own_may v n kinds.SetVar u h some both i = (i.set.0, i.part.inside)
own_may v n kinds.SetLocal u h some both i = (i.set.0, i.part.inside)
own_may v n _ u h some both i = absurd (cc)

-- ---- a choice

local_free : (k : NodeKind) → is_local k ≡ true → is_free k ≡ true
local_free kinds.Local h = refl
local_free kinds.SetLocal h = refl
local_free _ h = absurd (cc)

module _ (s : State) (id : ℕ) (e : Entry) (g : IsState s) (is : slice_get s.es id ≡ Some e) (none : at s.args id ≡ None) (free : is_free e.node.kind ≡ true) where
  pub const : IsSetConst s.es e.node.a
  const = (g.arena.domains id e is free).const

  upper : IsSet const.there.set
  upper = g.arena.canonical e.node.a const.there const.stands const.is

  bounds_are : extent s.es id ≡ own_extent e.node.kind e.node.c const.there.set
  bounds_are = extent_here s id e g is ∙ own_bounds e e.node.kind (extent s.es) const.there.set free (const_extent s.es e.node.a g.arena const)

  some : IsSome (own_extent e.node.kind e.node.c const.there.set)
  some = subst (λ (x : Known). IsSome x) bounds_are (g.arena.bounded id e is)

  abbrev pub domain : Domain
  domain = free_domain e.node.kind e.node.c const.there.set

  pub declared_own : (q : Program) (out : Plain) → Declares s.prog q domain (one out) → IsOwn s q id out
  unfolding const
  declared_own q out d = record {
    entry = e;
    is = is;
    free = free;
    const = const.there;
    stands = const.stands;
    none = none;
    declares = d;
    suits = subst (Suits q.vars out) (sym bounds_are) (own_suits q.vars out const.there.set e.node.kind e.node.c upper free d.typed some);
    may = λ v i. own_may v e.node e.node.kind const.there.set free some (g.arena.domains id e is free).both (i id e const.there is const.stands);
  }

  choice_made : is_local e.node.kind ≡ true → (q : Program) (out : Plain) → q ≡ with_variable s.prog (introduced_variable s.prog domain) → IsMade s q id out
  choice_made local q out added front made =
      subst (λ p. Made front p (given_choices s.es (put_at s.args id out))) (sym added)
      (subst (Made front (with_variable s.prog (introduced_variable s.prog domain))) (sym (choice_put s.es s.args id e out is local none)) (adds_choice s.prog (given_choices s.es s.args) domain made))

  pub same_upper : (u : List Range) → option_map (λ (x : Entry). x.set) (slice_get s.es e.node.a) ≡ Some u → const.there.set ≡ u
  same_upper u h = by (ap (option_map (λ (x : Entry). x.set)) const.stands) h
    where
      by : option_map (λ (x : Entry). x.set) (slice_get s.es e.node.a) ≡ Some const.there.set → option_map (λ (x : Entry). x.set) (slice_get s.es e.node.a) ≡ Some u → const.there.set ≡ u
      by p q = cc

  pub alone : (a : Argument) (k : ℕ) → plain_of a ≡ var k → a ≡ one (plain_of a)
  alone (one p) k h = refl
  alone (array ps) k h = absurd (cc)

  choice_gives : is_local e.node.kind ≡ true → (u : List Range) (d : Domain) (q : Program) (out : Argument) (args : List (Option Plain)) → option_map (λ (x : Entry). x.set) (slice_get s.es e.node.a) ≡ Some u → d ≡ free_domain e.node.kind e.node.c u → q ≡ with_variable s.prog (introduced_variable s.prog d) → Declares s.prog q d out → args ≡ put_at s.args id (plain_of out) → Gives s (record { es = s.es; prog = q; args = args }) id
  choice_gives local u d q out args set is_domain added declares put =
      let same : d ≡ domain = is_domain ∙ ap (free_domain e.node.kind e.node.c) (sym (same_upper u set)) in
      let declared : Declares s.prog q domain (one (plain_of out)) = subst (Declares s.prog q domain) (alone out declares.typed.place declares.typed.is) (subst (λ g. Declares s.prog q g out) same declares) in
      gives_flat s q id (plain_of out) args (own_step s q id (plain_of out) g (declared_own q (plain_of out) declared) (choice_made local q (plain_of out) (added ∙ ap (λ g. with_variable s.prog (introduced_variable s.prog g)) same))) put

pub const_at : (s : State) (id : ℕ) (n : Node) → IsState s → IsNode s.es id n → at s.args id ≡ None → is_local n.kind ≡ true → IsSetConst s.es n.a
const_at s id n g h none local = subst (λ (m : Node). is_local m.kind ≡ true → IsSetConst s.es m.a) h.node (λ l. const s id h.entry g h.is none (local_free h.entry.node.kind l)) local

pub choice_given : (s : State) (id : ℕ) (n : Node) → IsState s → IsNode s.es id n → at s.args id ≡ None → is_local n.kind ≡ true → (u : List Range) (d : Domain) (q : Program) (out : Argument) (args : List (Option Plain)) → option_map (λ (x : Entry). x.set) (slice_get s.es n.a) ≡ Some u → d ≡ free_domain n.kind n.c u → q ≡ with_variable s.prog (introduced_variable s.prog d) → Declares s.prog q d out → args ≡ put_at s.args id (plain_of out) → Gives s (record { es = s.es; prog = q; args = args }) id
choice_given s id n g h none local u d q out args set is_domain added declares put =
    subst (λ (m : Node). is_local m.kind ≡ true → option_map (λ (x : Entry). x.set) (slice_get s.es m.a) ≡ Some u → d ≡ free_domain m.kind m.c u → Gives s (record { es = s.es; prog = q; args = args }) id) h.node
    (λ l k w. choice_gives s id h.entry g h.is none (local_free h.entry.node.kind l) l u d q out args k w added declares put) local set is_domain
