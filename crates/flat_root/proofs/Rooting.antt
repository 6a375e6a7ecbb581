-- Posting roots, one after the other.
use Rattle.std.proofs.Common.{◌≡◌, ℕ, zero, suc, ◌+◌, ◌<◌, pos, Bool, true, false, List, [], ◌∷◌, ◌++◌, length, map, take, Option, Some, None, IsSome, slice_get, refl, sym, ap, subst, ◌∙◌, arith}
use Rattle.std.specs.Prelude.{Result, Ok, Err, IfOk, OnOk}
use Rattle.std.specs.Ordering.{int_eq}
use Rattle.std.specs.List.{AllByRecursion}
use Rattle.mz_arena.specs.declared.node.Node.{Node}
use Rattle.mz_arena.specs.declared.node.NodeKind.{NodeKind}
use Rattle.mz_arena.specs.declared.node.NodeKind.TheVariants as kinds
use Rattle.mz_arena.specs.Entries.{Entry, at, arity, is_free, is_local}
use Rattle.mz_arena.specs.Values as terms
use Rattle.mz_arena.specs.Values.{is_true}
use Rattle.mz_arena.specs.Terms.{term, kind_term}
use Rattle.mz_arena.specs.Arenas.{Extends}
use Rattle.mz_arena.specs.InBounds.{AreInDomains}
use Rattle.mz_arena.proofs.Folds.{get-below}
use Rattle.mz_partial.specs.declared.part.Part.{Part}
use Rattle.mz_partial.specs.Totals.{IsTotal, is_total, AreParts}
use Rattle.mz_partial.proofs.Filling.{parts_later}
use Rattle.fz_program.specs.declared.row_name.RowName.{RowName}
use Rattle.fz_program.specs.Arguments.{Plain, bool}
use Rattle.flat_reif_rows.specs.RootRows.{test_of}
use Rattle.flat_reif.specs.States.{State, Spreads, Always, Flattened}
use Rattle.flat_reif.specs.Lists.{IsNode, HasArg, IsGiven, HasFront}
use Rattle.flat_reif.specs.Below.{FlattenedBelow}
use Rattle.flat_reif.specs.Roots.{Posted, IsTrueAt, Never, HasTest}
use Rattle.flat_reif.proofs.Steps.{spreads_same}
use Rattle.flat_reif.proofs.Nodes.{term_here}
use Rattle.flat_root.specs.Keeps.{Keeps, IsReadyState, Leads, AllTrue, HasChoices, FlattenedFor}
use Rattle.flat_root.specs.Marks.{AreMarked, AreTotalIds}
use Rattle.flat_root.specs.Totals.{AreRoots, IsRootPart, AreRootParts, Totals}
use Rattle.flat_root.specs.Parts.{AddsParts, AreSplit, AreSplitEach, of_none, of_more, AreRootsSplit}
use Rattle.flat_root.specs.Posts.{is_constant, seeds_by, seeds_of, seeds_at, all_seeds, IsPostable, ArePostable}
use Rattle.flat_root.proofs.Marking.{all_both, take_next}
use Rattle.flat_root.proofs.Keeping.{keeps_spread, keeps_twice, keeps_where, fewer_domains}
use Rattle.flat_root.proofs.Totaling.{true_later, root_later, true_both, true_first, true_second}
use Rattle.flat_root.proofs.Seeding.{seeds_are, roots_of, postable, marked_given}

-- ---- arguments are kept

some_kept : (o p : Option Plain) → ((q : Plain) → o ≡ Some q → p ≡ Some q) → IsSome o → IsSome p
some_kept None p keeps h = absurd (cc)
some_kept (Some q) p keeps h = subst (λ (z : Option Plain). IsSome z) (sym (keeps q refl)) refl

has_later : (s t : State) → ((id : ℕ) (p : Plain) → at s.args id ≡ Some p → at t.args id ≡ Some p) → (id : ℕ) → HasArg s id → HasArg t id
has_later s t keeps id h = some_kept (at s.args id) (at t.args id) (keeps id) h

front_spread : (s t : State) (C : terms.Values → Type 0) → Spreads s t C → HasFront s → HasFront t
front_spread s t C g h id e is front = has_later s t g.keeps id (h id e (ap (λ es. slice_get es id) (sym g.same) ∙ is) front)

pub posted_leads : (s t : State) (C : terms.Values → Type 0) → IsReadyState s → Posted s t C → Leads s t C
posted_leads s t C r p = record { keeps = keeps_spread s t C p.spreads; ready = record { state = p.state; front = front_spread s t C p.spreads r.front } }

-- ---- constants

constant_kind : (k : NodeKind) → is_constant k ≡ true → k ≡ kinds.Bool
constant_kind kinds.Bool h = refl
constant_kind _ h = absurd (cc)

module _ (s : State) (id : ℕ) (n : Node) (r : IsReadyState s) (h : IsNode s.es id n) (kind : is_constant n.kind ≡ true) where
  constant_term : (v : terms.Values) → term v s.es id ≡ Some (terms.number n.number)
  constant_term v =
      term_here s id h.entry v r.state h.is
      ∙ ap (λ k. kind_term v h.entry k (map (term v s.es) (take (arity k) (h.entry.node.a ∷ h.entry.node.b ∷ h.entry.node.c ∷ [])))) (ap (λ (m : Node). m.kind) h.node ∙ constant_kind n.kind kind)
      ∙ ap (λ (m : Node). Some (terms.number m.number)) h.node

  pub true_constant : int_eq n.number (pos 1) ≡ true → Leads s s (IsTrueAt s.es id)
  true_constant one = record {
    keeps = keeps_where s s Always (IsTrueAt s.es id) (keeps_spread s s Always (spreads_same s)) (λ v d c. ap is_true (constant_term v) ∙ one) (λ v d c. tt);
    ready = r;
  }

  pub false_constant : (t : State) → int_eq n.number (pos 1) ≡ false → Posted s t Never → Leads s t (IsTrueAt s.es id)
  false_constant t none p =
      let l = posted_leads s t Never r p in
      record {
        keeps = keeps_where s t Never (IsTrueAt s.es id) l.keeps (λ v d c. absurd c) (λ v d c. clash (is_true (term v s.es id)) c (ap is_true (constant_term v) ∙ none));
        ready = l.ready;
      }
    where
      clash : {A : Type 0} (b : Bool) → b ≡ true → b ≡ false → A
      clash b x y = absurd (cc)

-- an argument that is the constant
pub true_argument : (s : State) (id : ℕ) → IsReadyState s → at s.args id ≡ Some (bool true) → Leads s s (IsTrueAt s.es id)
true_argument s id r has =
    let k = keeps_spread s s Always (spreads_same s) in
    record {
      keeps = record {
        extends = k.extends;
        longer = k.longer;
        keeps = k.keeps;
        down = k.down;
        holds = λ v f d m. ap is_true (r.state.right v f d m id (bool true) has);
        up = λ v f d c m. k.up v f d tt m;
        one = k.one;
        made = k.made;
      };
      ready = r;
    }

-- ---- one node

module _ (s : State) (id : ℕ) (n : Node) (p : IsPostable s id) (h : IsNode s.es id n) (kind : is_constant n.kind ≡ false) where
  have_here : AllByRecursion (HasArg s) (seeds_by false (test_of n.kind) n.a n.b id)
  have_here = subst (λ c. AllByRecursion (HasArg s) (seeds_by c (test_of n.kind) n.a n.b id)) kind (subst (AllByRecursion (HasArg s)) (seeds_are s.es id n h) p.have)

  pub has_test : (name : RowName) → test_of n.kind ≡ Some name → HasTest s id name
  has_test name row =
      let both = subst (λ o. AllByRecursion (HasArg s) (seeds_by false o n.a n.b id)) row have_here in
      record { node = n; at_id = h; row = row; first = both.0; second = both.1.0 }

  pub has_self : test_of n.kind ≡ None → HasArg s id
  has_self row = (subst (λ o. AllByRecursion (HasArg s) (seeds_by false o n.a n.b id)) row have_here).0

pub if_ok_weaker : {X E : Type 0} (r : Result X E) (Q P : Type 0) → (Q → P) → IfOk r (λ x. Q) → IfOk r (λ x. P)
if_ok_weaker (Ok x) Q P f h = f h
if_ok_weaker (Err e) Q P f h = tt

-- ---- several

same_seeds : (s t : State) (id : ℕ) → Extends s.es t.es → id < length s.es → seeds_at t.es id ≡ seeds_at s.es id
same_seeds s t id x l = ap (λ o. seeds_of o id) (x.grew.same id l)

all_have : (s t : State) → ((id : ℕ) → HasArg s id → HasArg t id) → (is : List ℕ) → AllByRecursion (HasArg s) is → AllByRecursion (HasArg t) is
all_have s t f [] h = tt
all_have s t f (i ∷ is) h = (f i h.0, all_have s t f is h.1)

postable_later : (s t : State) (C : terms.Values → Type 0) (ids : List ℕ) → Keeps s t C → ArePostable s ids → ArePostable t ids
postable_later s t C [] k h = tt
postable_later s t C (id ∷ ids) k h = (
  record {
    root = root_later s.es t.es id k.extends h.0.root;
    have = subst (AllByRecursion (HasArg t)) (sym (same_seeds s t id k.extends h.0.root.place)) (all_have s t (has_later s t k.keeps) (seeds_at s.es id) h.0.have);
  },
  postable_later s t C ids k h.1,
)

all_at : (P : ℕ → Type 0) (is : List ℕ) (k i : ℕ) → slice_get is k ≡ Some i → AllByRecursion P is → P i
all_at P [] k i h a = absurd (cc)
all_at P (j ∷ is) zero i h a = let same : j ≡ i = cc in subst P same a.0
all_at P (j ∷ is) (suc k) i h a = all_at P is k i h a.1

pub record PostedSoFar (s t : State) (parts : List ℕ) (k : ℕ) : Type 0 where
  pub leads : Leads s t (AllTrue s.es (take k parts))
  pub rest : ArePostable t parts

pub posted_none : (s : State) (parts : List ℕ) → IsReadyState s → ArePostable s parts → PostedSoFar s s parts 0
posted_none s parts r p = record { leads = record { keeps = keeps_where s s Always (AllTrue s.es []) (keeps_spread s s Always (spreads_same s)) (λ v d c. tt) (λ v d c. tt); ready = r }; rest = p }

pub posted_here : (s t : State) (parts : List ℕ) (k i : ℕ) → slice_get parts k ≡ Some i → PostedSoFar s t parts k → IsPostable t i
posted_here s t parts k i h f = all_at (IsPostable t) parts k i h f.rest

pub posted_next : (s t u : State) (parts : List ℕ) (k i : ℕ) → ArePostable s parts → slice_get parts k ≡ Some i → PostedSoFar s t parts k → Leads t u (IsTrueAt t.es i) → PostedSoFar s u parts (k + 1)
posted_next s t u parts k i all h f l =
    let place : i < length s.es = (all_at (IsPostable s) parts k i h all).root.place in
    let next : k + 1 ≡ suc k = omega arith in
    let taken : take (k + 1) parts ≡ take k parts ++ i ∷ [] = ap (λ m. take m parts) next ∙ take_next parts k i h in
    let same : (v : terms.Values) → term v t.es i ≡ term v s.es i = λ v. true_later s.es t.es i v f.leads.keeps.extends place in
    record {
      leads = record {
        keeps = keeps_where s u (λ v. AllTrue s.es (take k parts) v × IsTrueAt t.es i v) (AllTrue s.es (take (k + 1) parts)) (keeps_twice s t u (AllTrue s.es (take k parts)) (IsTrueAt t.es i) f.leads.keeps l.keeps)
            (λ v d c. subst (λ is. AllTrue s.es is v) (sym taken) (true_both s.es (take k parts) (i ∷ []) v c.0 (sym (ap is_true (same v)) ∙ c.1, tt)))
            (λ v d c. (let a = subst (λ is. AllTrue s.es is v) taken c in (true_first s.es (take k parts) (i ∷ []) v a, ap is_true (same v) ∙ (true_second s.es (take k parts) (i ∷ []) v a).0)));
        ready = l.ready;
      };
      rest = postable_later t u (IsTrueAt t.es i) parts l.keeps f.rest;
    }

pub posted_all : (s t : State) (parts : List ℕ) (k : ℕ) → take k parts ≡ parts → PostedSoFar s t parts k → Leads s t (AllTrue s.es parts)
posted_all s t parts k whole f = subst (λ is. Leads s t (AllTrue s.es is)) whole f.leads

-- ---- all of it

pub total_place : (es : List Entry) (id : ℕ) → IsTotal es id → id < length es
total_place es id (is_total _ e is some kids) = get-below es id e is

pub total_places : (es : List Entry) (is : List ℕ) → AreTotalIds es is → AllByRecursion (λ i. i < length es) is
total_places es [] h = tt
total_places es (i ∷ is) h = (total_place es i h.0, total_places es is h.1)

pub flat_ready : (t u : State) → IsReadyState t → Flattened t u → IsReadyState u
flat_ready t u r f = record { state = f.state; front = front_spread t u Always f.spreads r.front }

pub flattened_for : (t u : State) (need : List Bool) (upto : ℕ) (ids : List ℕ) → AreTotalIds t.es ids → AreMarked need ids → upto ≡ length t.es → FlattenedBelow t u need upto → FlattenedFor t u ids
flattened_for t u need upto ids total marked count f =
    let same = f.flattened.spreads.same in
    record {
      flattened = f.flattened;
      given = marked_given t u need upto ids f (subst (λ m. AllByRecursion (λ i. i < m) ids) (sym count) (total_places t.es ids total)) marked;
      choices = λ id e is local.
          let was : slice_get t.es id ≡ Some e = ap (λ es. slice_get es id) (sym same) ∙ is in
          f.choices id e (subst (λ m. id < m) (sym count) (get-below t.es id e was)) was local;
    }

pub parts_postable : (t u : State) (parts seeds : List ℕ) → AreRootParts t.es parts → seeds ≡ all_seeds t.es parts → FlattenedFor t u seeds → ArePostable u parts
parts_postable t u parts seeds each are f =
    let same = f.flattened.spreads.same in
    postable u f.flattened.state parts (subst (λ es. AreRoots es parts) (sym same) (roots_of t.es parts each)) (subst (λ es. AllByRecursion (IsGiven u) (all_seeds es parts)) (sym same) (subst (AllByRecursion (IsGiven u)) are f.given))

pub roots_posted : (s t u w : State) (roots parts : List ℕ) → Totals s t roots parts → Flattened t u → Leads u w (AllTrue u.es parts) → Leads s w (AllTrue s.es roots)
roots_posted s t u w roots parts f g h =
    let first = keeps_twice s t u Always Always f.keeps (keeps_spread t u Always g.spreads) in
    let both = keeps_twice s u w (λ v. Always v × Always v) (AllTrue u.es parts) first h.keeps in
    let back : (v : terms.Values) → AreInDomains w.es v → AreInDomains t.es v = λ v d. subst (λ es. AreInDomains es v) g.spreads.same (fewer_domains u.es w.es h.keeps.extends v d) in
    record {
      keeps = keeps_where s w (λ v. (Always v × Always v) × AllTrue u.es parts v) (AllTrue s.es roots) both
          (λ v d c. f.from v (back v d) (subst (λ es. AllTrue es parts v) g.spreads.same c.1))
          (λ v d c. ((tt, tt), subst (λ es. AllTrue es parts v) (sym g.spreads.same) (f.to v (back v d) c)));
      ready = h.ready;
    }

-- the parts of the ids stay parts
pub memo_later : (t u w : State) (C : terms.Values → Type 0) (memo : List Part) → IsReadyState t → Flattened t u → Leads u w C → AreParts t.es memo → AreParts w.es memo
memo_later t u w C memo r f l m = parts_later u.es w.es memo l.keeps.extends.grew f.state.arena (subst (λ es. AreParts es memo) (sym f.spreads.same) m)

pub if_on_ok : {X E : Type 0} (r : Result X E) (Q P : Type 0) → (Q → P) → IfOk r (λ x. Q) → OnOk r P
if_on_ok (Ok x) Q P f h = f h
if_on_ok (Err e) Q P f h = tt

-- ---- with conjunctions taken apart

pub parts_in : (xs ys : List Entry) (is js : List ℕ) → ys ≡ xs → js ≡ is → AreRootParts xs is → AreRootParts ys js
parts_in xs ys is js h k r = subst (λ es. AreRootParts es js) (sym h) (subst (AreRootParts xs) (sym k) r)

-- the parts of roots are true exactly where these nodes are
pub record AreSame (es : List Entry) (ids parts : List ℕ) : Type 0 where
  pub each : AreRootParts es parts
  pub to : (v : terms.Values) → AllTrue es ids v → AllTrue es parts v
  pub from : (v : terms.Values) → AllTrue es parts v → AllTrue es ids v

pub each_begin : (es : List Entry) (parts : List ℕ) → parts ≡ [] → AreSplitEach es [] parts
each_begin es parts e = subst (AreSplitEach es []) (sym e) of_none

pub each_next : (es : List Entry) (ids : List ℕ) (k i : ℕ) (before after : List ℕ) → slice_get ids k ≡ Some i → AreSplitEach es (take k ids) before → AddsParts es i before after → AreSplitEach es (take (k + 1) ids) after
each_next es ids k i before after h s a =
    let one : k + 1 ≡ suc k = omega arith in
    subst (λ is. AreSplitEach es is after) (sym (ap (λ m. take m ids) one ∙ take_next ids k i h)) (of_more s a)

pub part_at : (es : List Entry) (ids : List ℕ) (k i : ℕ) → slice_get ids k ≡ Some i → AreRootParts es ids → IsRootPart es i
part_at es ids k i h r = all_at (IsRootPart es) ids k i h r

same_split : (es : List Entry) (ids parts : List ℕ) → AreSplit es ids parts → AreSame es ids parts
same_split es ids parts s = record { each = s.each; to = s.to; from = s.from }

same_both : (es : List Entry) (is js ps qs : List ℕ) → AreSame es is ps → AreSame es js qs → AreSame es (is ++ js) (ps ++ qs)
same_both es is js ps qs a b = record {
  each = all_both (IsRootPart es) ps qs a.each b.each;
  to = λ v h. true_both es ps qs v (a.to v (true_first es is js v h)) (b.to v (true_second es is js v h));
  from = λ v h. true_both es is js v (a.from v (true_first es ps qs v h)) (b.from v (true_second es ps qs v h));
}

same_each : (es : List Entry) (ids parts : List ℕ) → AreSplitEach es ids parts → AreSame es ids parts
same_each es _ _ of_none = record { each = tt; to = λ v h. h; from = λ v h. h }
same_each es _ _ (of_more {ids = ids} {parts = parts} {id = id} e a) = subst (AreSame es (ids ++ id ∷ [])) (sym a.items) (same_both es ids (id ∷ []) parts a.more (same_each es ids parts e) (same_split es (id ∷ []) a.more a.split))

same_roots : (es : List Entry) (defined terms parts : List ℕ) → AreRootsSplit es defined terms parts → AreSame es (defined ++ terms) parts
same_roots es defined terms parts r = subst (AreSame es (defined ++ terms)) (sym r.items) (same_both es defined terms r.first r.more (same_split es defined r.first r.values) (same_each es terms r.more r.roots))

pub totals_split : (s t : State) (roots defined terms parts : List ℕ) → Totals s t roots (defined ++ terms) → AreRootsSplit t.es defined terms parts → Totals s t roots parts
totals_split s t roots defined terms parts f r =
    let p = same_roots t.es defined terms parts r in
    record {
      keeps = f.keeps;
      ready = f.ready;
      each = p.each;
      to = λ v d y. p.to v (f.to v d y);
      from = λ v d y. f.from v d (p.from v y);
    }

-- ---- choices

choice_free : (k : NodeKind) → is_local k ≡ true → is_free k ≡ true
choice_free kinds.Local h = refl
choice_free kinds.SetLocal h = refl
choice_free _ h = absurd (cc)

pub choices_later : (u w : State) (C : terms.Values → Type 0) → HasChoices u → Leads u w C → HasChoices w
choices_later u w C h l id e is local =
    let x = l.keeps.extends in
    let below : id < length u.es = x.frees id e is (choice_free e.node.kind local) in
    has_later u w l.keeps.keeps id (h id e (sym (x.grew.same id below) ∙ is) local)

pub choices_flat : (u w : State) → HasChoices u → Flattened u w → HasChoices w
choices_flat u w h f id e is local = has_later u w f.spreads.keeps id (h id e (ap (λ es. slice_get es id) (sym f.spreads.same) ∙ is) local)
