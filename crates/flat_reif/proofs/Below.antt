-- One id after the other.
use Rattle.std.proofs.Common.{◌≡◌, ◌⊎◌, ℕ, zero, suc, ◌<◌, ◌≤◌, Bool, true, false, List, [], ◌∷◌, length, map, take, Option, Some, None, IsSome, slice_get, if◌then◌else◌, inl, inr, refl, sym, ap, subst, ◌∙◌, arith}
use Rattle.std.specs.Prelude.{Result, Ok, Err, IfOk}
use Rattle.std.specs.List.{AllByRecursion}
use Rattle.mz_operations.specs.Views.{◌>>=◌}
use Rattle.mz_arena.specs.declared.node.Node.{Node}
use Rattle.mz_arena.specs.declared.node.NodeKind.{NodeKind}
use Rattle.mz_arena.specs.declared.node.NodeKind.TheVariants as kinds
use Rattle.mz_arena.specs.declared.node.Sort.{Sort}
use Rattle.mz_arena.specs.declared.node.Sort.TheVariants as sorts
use Rattle.mz_arena.specs.Entries.{AllBelow, Entry, at, arity, children, is_free, is_local}
use Rattle.mz_arena.specs.Extents.{Known, whole, truth, subset, wholes, truths, subsets, empty, as_single, as_list, as_wholes, as_subsets, is_truths, before_extent, cons_extent, sort_of, extent, kind_extent}
use Rattle.mz_arena.proofs.Folds.{get-below}
use Rattle.mz_partial.specs.Totals.{IsTotal}
use Rattle.fz_program.specs.Arguments.{Plain}
use Rattle.flat_reif_rows.specs.Branches.{branch_row}
use Rattle.flat_reif.specs.States.{State, IsState, Flattened}
use Rattle.flat_reif.specs.Lists.{IsNode, ListArgs, nil, cons, HasArg, IsGiven, is_front, HasFront, IsReady, Gives}
use Rattle.flat_reif.specs.Needs.{is_needed}
use Rattle.flat_reif.specs.Below.{AreNeeded, IsDue, IsSettled, FlattenedBelow}
use Rattle.flat_reif.specs.NodeKinds.{row_of_element}
use Rattle.flat_reif.proofs.Steps.{same_entry, flattened_same, flattened_twice}
use Rattle.flat_reif.proofs.Nodes.{extent_here}
use Rattle.flat_reif.proofs.Kids.{Single, if_kids}
use Rattle.flat_reif.proofs.Given.{has_arg}
use Rattle.flat_reif.proofs.Branching.{known}
use Rattle.flat_reif.proofs.Lacking.{list_given}

-- ---- what later states keep

some_kept : (o p : Option Plain) → ((q : Plain) → o ≡ Some q → p ≡ Some q) → IsSome o → IsSome p
some_kept None p keeps h = absurd (cc)
some_kept (Some q) p keeps h = subst IsSome (sym (keeps q refl)) refl

module _ (s t : State) (f : Flattened s t) where
  pub has_kept : (id : ℕ) → HasArg s id → HasArg t id
  has_kept id h = some_kept (at s.args id) (at t.args id) (f.spreads.keeps id) h

  listed_kept : (id : ℕ) (ps : List Plain) → ListArgs s.es s.args id ps → ListArgs t.es t.args id ps
  listed_kept id [] (nil e is kind) = nil e (ap (λ es. slice_get es id) f.spreads.same ∙ is) kind
  listed_kept id (p ∷ ps) (cons e is kind here rest) = cons e (ap (λ es. slice_get es id) f.spreads.same ∙ is) kind (f.spreads.keeps e.node.a p here) (listed_kept e.node.b ps rest)

  pub given_kept : (id : ℕ) → IsGiven s id → IsGiven t id
  given_kept id (inl h) = inl (has_kept id h)
  given_kept id (inr l) = inr (record { items = l.items; args = listed_kept id l.items l.args })

  pub front_kept : HasFront s → HasFront t
  front_kept h id e is front = has_kept id (h id e (ap (λ es. slice_get es id) (sym f.spreads.same) ∙ is) front)

-- ---- branches

branch_sort : (y : Known) (o : Sort) → Single y → sort_of y ≡ Some o → branch_row y ≡ Some (row_of_element o)
branch_sort None o s h = absurd (cc)
branch_sort (Some (whole e)) o s h = let same : sorts.Integer ≡ o = cc in ap (λ j. Some (row_of_element j)) same
branch_sort (Some (truth e)) o s h = let same : sorts.Boolean ≡ o = cc in ap (λ j. Some (row_of_element j)) same
branch_sort (Some (subset u)) o s h = let same : sorts.Set ≡ o = cc in ap (λ j. Some (row_of_element j)) same
branch_sort (Some (wholes es)) o s h = absurd (cc)
branch_sort (Some truths) o s h = absurd (cc)
branch_sort (Some (subsets us)) o s h = absurd (cc)
branch_sort (Some empty) o s h = absurd (cc)

-- a child stands before its node
second_below : (s : State) (id : ℕ) (n : Node) → IsState s → IsNode s.es id n → (k : NodeKind) → n.kind ≡ k → AllBelow id (take (arity k) (n.a ∷ n.b ∷ n.c ∷ []))
second_below s id n g h k kind = subst (λ j. AllBelow id (take (arity j) (n.a ∷ n.b ∷ n.c ∷ []))) kind (subst (λ (m : Node). AllBelow id (children m)) h.node (g.arena.ordered id h.entry h.is))

module _ (s : State) (id : ℕ) (n : Node) (g : IsState s) (r : IsReady s id n) (kind : n.kind ≡ kinds.If) where
  pub branch_place : n.b < length s.es
  branch_place = let below = second_below s id n g r.at_id kinds.If kind in omega (arith, below.1.0, get-below s.es id r.at_id.entry r.at_id.is)

  pub branch_is : (o : Sort) → sort_of (extent s.es n.b) ≡ Some o → branch_row (extent s.es n.b) ≡ Some (row_of_element o)
  branch_is o h = branch_sort (extent s.es n.b) o (if_kids (extent s.es n.a) (extent s.es n.b) (extent s.es n.c) (known s id n g r kind)).yes h

-- ---- lists

abbrev AreConsKids : Known → Known → Type 0
AreConsKids x y = Single x × IsSome (as_list y)

wholes_list : (y : Known) (F : List _ → Known) → IsSome (as_wholes y >>= F) → IsSome (as_list y)
wholes_list None F h = absurd (cc)
wholes_list (Some (whole e)) F h = absurd (cc)
wholes_list (Some (truth e)) F h = absurd (cc)
wholes_list (Some (subset u)) F h = absurd (cc)
wholes_list (Some (wholes es)) F h = refl
wholes_list (Some truths) F h = absurd (cc)
wholes_list (Some (subsets us)) F h = absurd (cc)
wholes_list (Some empty) F h = refl

subsets_list : (y : Known) (F : List _ → Known) → IsSome (as_subsets y >>= F) → IsSome (as_list y)
subsets_list None F h = absurd (cc)
subsets_list (Some (whole e)) F h = absurd (cc)
subsets_list (Some (truth e)) F h = absurd (cc)
subsets_list (Some (subset u)) F h = absurd (cc)
subsets_list (Some (wholes es)) F h = absurd (cc)
subsets_list (Some truths) F h = absurd (cc)
subsets_list (Some (subsets us)) F h = refl
subsets_list (Some empty) F h = refl

truths_list : (y : Known) → IsSome (if is_truths y then Some truths else None) → IsSome (as_list y)
truths_list None h = absurd (cc)
truths_list (Some (whole e)) h = absurd (cc)
truths_list (Some (truth e)) h = absurd (cc)
truths_list (Some (subset u)) h = absurd (cc)
truths_list (Some (wholes es)) h = absurd (cc)
truths_list (Some truths) h = refl
truths_list (Some (subsets us)) h = absurd (cc)
truths_list (Some empty) h = refl

before_kids : (x y : Known) → IsSome (as_single x >>= λ b. before_extent b y) → AreConsKids x y
before_kids None y h = absurd (cc)
before_kids (Some (whole e)) y h = (refl, wholes_list y _ h)
before_kids (Some (truth e)) y h = (refl, truths_list y h)
before_kids (Some (subset u)) y h = (refl, subsets_list y _ h)
before_kids (Some (wholes es)) y h = absurd (cc)
before_kids (Some truths) y h = absurd (cc)
before_kids (Some (subsets us)) y h = absurd (cc)
before_kids (Some empty) y h = absurd (cc)

cons_kids : (x y : Known) → IsSome (cons_extent x y) → AreConsKids x y
unfolding cons_extent
cons_kids x y h = before_kids x y h

record IsArg (s : State) (id : ℕ) : Type 0 where
  arg : Plain
  is : at s.args id ≡ Some arg

arg_of : (s : State) (id : ℕ) → HasArg s id → IsArg s id
arg_of s id h = by (at s.args id) refl h
  where
    by : (o : Option Plain) → at s.args id ≡ o → IsSome o → IsArg s id
    by None is k = absurd (cc)
    by (Some p) is k = record { arg = p; is = is }

module _ (s : State) (id : ℕ) (n : Node) (g : IsState s) (r : IsReady s id n) where
  abbrev e : Entry
  e = r.at_id.entry

  entry_kind : (k : NodeKind) → n.kind ≡ k → e.node.kind ≡ k
  entry_kind k h = ap (λ (m : Node). m.kind) r.at_id.node ∙ h

  pub nil_given : n.kind ≡ kinds.Nil → Gives s s id
  nil_given kind = record { flattened = flattened_same s g; given = inr (record { items = []; args = nil e r.at_id.is (entry_kind kinds.Nil kind) }) }

  pub cons_given : n.kind ≡ kinds.Cons → Gives s s id
  cons_given kind =
      let same : e.node ≡ n = r.at_id.node in
      let given : AllByRecursion (IsGiven s) (e.node.a ∷ e.node.b ∷ []) = subst (λ k. AllByRecursion (IsGiven s) (take (arity k) (e.node.a ∷ e.node.b ∷ e.node.c ∷ []))) (entry_kind kinds.Cons kind) (subst (λ (m : Node). AllByRecursion (IsGiven s) (children m)) (sym same) r.given) in
      let bounds : extent s.es id ≡ cons_extent (extent s.es e.node.a) (extent s.es e.node.b) = extent_here s id e g r.at_id.is ∙ ap (λ k. kind_extent e k (map (extent s.es) (take (arity k) (e.node.a ∷ e.node.b ∷ e.node.c ∷ [])))) (entry_kind kinds.Cons kind) in
      let kids = cons_kids (extent s.es e.node.a) (extent s.es e.node.b) (subst (λ (x : Known). IsSome x) bounds (g.arena.bounded id e r.at_id.is)) in
      let first = arg_of s e.node.a (has_arg s g e.node.a given.0 kids.0) in
      let rest = list_given s g e.node.b given.1.0 kids.1 in
      record { flattened = flattened_same s g; given = inr (record { items = first.arg ∷ rest.items; args = cons e r.at_id.is (entry_kind kinds.Cons kind) first.is rest.args }) }

-- ---- one id

free_parts : (k : NodeKind) → is_local k ≡ false → (is_front k ≡ true → ⊥) → is_free k ≡ false
free_parts kinds.Var l f = absurd (f refl)
free_parts kinds.SetVar l f = absurd (f refl)
free_parts kinds.Local l f = absurd (cc)
free_parts kinds.SetLocal l f = absurd (cc)
free_parts _ l f = refl

none_some : (o : Option Plain) → o ≡ None → IsSome o → ⊥
none_some None h k = cc
none_some (Some p) h k = cc

module _ (s : State) (id : ℕ) (n : Node) (g : IsState s) (front : HasFront s) (h : IsNode s.es id n) (none : at s.args id ≡ None) where
  pub inner_here : is_local n.kind ≡ false → is_free n.kind ≡ false
  inner_here l =
      free_parts n.kind l (λ f. none_some (at s.args id) none (front id h.entry h.is (ap is_front (ap (λ (m : Node). m.kind) h.node) ∙ f)))

  pub ready_here : is_local n.kind ≡ false → IsDue s id → IsReady s id n
  ready_here l due = record {
    at_id = h;
    none = none;
    total = due.total;
    given = subst (λ (m : Node). AllByRecursion (IsGiven s) (children m)) h.node (due.given h.entry h.is (ap is_free (ap (λ (m : Node). m.kind) h.node) ∙ inner_here l));
  }

-- it has an argument already
pub settled_had : (s : State) (id : ℕ) (needed : Bool) → IsState s → HasArg s id → IsSettled s s id needed
settled_had s id needed g h = record { flattened = flattened_same s g; given = λ n. inl h; choice = λ e is l. h }

node_kind : (s : State) (id : ℕ) (n : Node) (e : Entry) → IsNode s.es id n → slice_get s.es id ≡ Some e → e.node ≡ n
node_kind s id n e h is = ap (λ (z : Entry). z.node) (same_entry s.es id id e h.entry refl h.is is) ∙ h.node

-- it is no choice and isn't needed
pub settled_left : (s : State) (id : ℕ) (n : Node) (needed : Bool) → IsState s → IsNode s.es id n → is_local n.kind ≡ false → needed ≡ false → IsSettled s s id needed
settled_left s id n needed g h l un = record {
  flattened = flattened_same s g;
  given = λ y. absurd (both needed y un);
  choice = λ e is local. absurd (both (is_local n.kind) (sym (ap (λ (m : Node). is_local m.kind) (node_kind s id n e h is)) ∙ local) l);
}
  where
    both : (b : Bool) → b ≡ true → b ≡ false → ⊥
    both b x y = cc

-- it is given now
pub settled_inner : (s t : State) (id : ℕ) (n : Node) (needed : Bool) → IsNode s.es id n → is_local n.kind ≡ false → Gives s t id → IsSettled s t id needed
settled_inner s t id n needed h l gives = record {
  flattened = gives.flattened;
  given = λ y. gives.given;
  choice = λ e is local. absurd (both (is_local n.kind) (sym (ap (λ (m : Node). is_local m.kind) (node_kind s id n e h is)) ∙ local) l);
}
  where
    both : (b : Bool) → b ≡ true → b ≡ false → ⊥
    both b x y = cc

no_list_kind : {A : Type 0} (k : NodeKind) → is_local k ≡ true → k ≡ kinds.Nil → A
no_list_kind k l h = let no : is_local kinds.Nil ≡ true = ap is_local (sym h) ∙ l in absurd (cc)

no_cons_kind : {A : Type 0} (k : NodeKind) → is_local k ≡ true → k ≡ kinds.Cons → A
no_cons_kind k l h = let no : is_local kinds.Cons ≡ true = ap is_local (sym h) ∙ l in absurd (cc)

-- a choice is no list
no_listed : {A : Type 0} (es : List Entry) (args : List (Option Plain)) (id : ℕ) (e : Entry) (ps : List Plain) → slice_get es id ≡ Some e → is_local e.node.kind ≡ true → ListArgs es args id ps → A
no_listed es args id e [] is l (nil d at_id kind) = no_list_kind e.node.kind l (ap (λ (z : Entry). z.node.kind) (same_entry es id id e d refl at_id is) ∙ kind)
no_listed es args id e (p ∷ ps) is l (cons d at_id kind here rest) = no_cons_kind e.node.kind l (ap (λ (z : Entry). z.node.kind) (same_entry es id id e d refl at_id is) ∙ kind)

choice_has : (s : State) (id : ℕ) (e : Entry) → slice_get s.es id ≡ Some e → is_local e.node.kind ≡ true → IsGiven s id → HasArg s id
choice_has s id e is l (inl h) = h
choice_has s id e is l (inr h) = no_listed s.es s.args id e h.items is l h.args

-- it is a choice
pub settled_choice : (s t : State) (id : ℕ) (needed : Bool) → Gives s t id → IsSettled s t id needed
settled_choice s t id needed gives = record {
  flattened = gives.flattened;
  given = λ y. gives.given;
  choice = λ e is local. choice_has t id e (ap (λ es. slice_get es id) gives.flattened.spreads.same ∙ is) local gives.given;
}

-- ---- the loop

split : (i n : ℕ) → i < suc n → (i < n) ⊎ (i ≡ n)
split zero zero h = inr refl
split zero (suc n) h = inl (omega arith)
split (suc i) zero h = absurd (omega (arith, h))
split (suc i) (suc n) h = elim (split i n (omega (arith, h))) [ inl l ↦ inl (omega (arith, l)) | inr e ↦ inr (ap suc e) ]

pub below_none : (s : State) (need : List Bool) → IsState s → FlattenedBelow s s need 0
below_none s need g = record { flattened = flattened_same s g; given = λ id l n. absurd (omega (arith, l)); choices = λ id e l is k. absurd (omega (arith, l)) }

pub below_next : (s t u : State) (need : List Bool) (here : ℕ) (b : Bool) → FlattenedBelow s t need here → b ≡ is_needed need here → IsSettled t u here b → FlattenedBelow s u need (suc here)
below_next s t u need here b f same h = record {
  flattened = flattened_twice s t u f.flattened h.flattened;
  given = λ id l n. elim (split id here l) [
    | inl before ↦ given_kept t u h.flattened id (f.given id before n)
    | inr now ↦ subst (IsGiven u) (sym now) (h.given (same ∙ ap (is_needed need) (sym now) ∙ n))
  ];
  choices = λ id e l is k. elim (split id here l) [
    | inl before ↦ has_kept t u h.flattened id (f.choices id e before is k)
    | inr now ↦ subst (HasArg u) (sym now) (h.choice e (ap (λ es. slice_get es here) f.flattened.spreads.same ∙ ap (slice_get s.es) (sym now) ∙ is) k)
  ];
}

record IsThere (es : List Entry) (id : ℕ) : Type 0 where
  entry : Entry
  is : slice_get es id ≡ Some entry

entry_there : (es : List Entry) (id : ℕ) → id < length es → IsThere es id
entry_there [] id h = absurd (omega (arith, h))
entry_there (e ∷ es) zero h = record { entry = e; is = refl }
entry_there (e ∷ es) (suc id) h = let t = entry_there es id (omega (arith, h)) in record { entry = t.entry; is = t.is }

module _ (s t : State) (need : List Bool) (here : ℕ) (f : FlattenedBelow s t need here) (wanted : AreNeeded s.es need) where
  all_given : (is : List ℕ) → AllBelow here is → AllByRecursion (λ i. is_needed need i ≡ true) is → AllByRecursion (IsGiven t) is
  all_given [] below all = tt
  all_given (i ∷ is) below all = (f.given i below.0 all.0, all_given is below.1 all.1)

  before : (e : Entry) → slice_get t.es here ≡ Some e → slice_get s.es here ≡ Some e
  before e is = ap (λ es. slice_get es here) (sym f.flattened.spreads.same) ∙ is

  pub due_here : (b : Bool) → here < length s.es → b ≡ is_needed need here → b ≡ true → IsDue t here
  due_here b place same want =
      let there = entry_there s.es here place in
      record {
        total = subst (λ es. IsTotal es here) (sym f.flattened.spreads.same) (wanted here there.entry there.is (sym same ∙ want)).total;
        given = λ e is inner. all_given (children e.node) (f.flattened.state.arena.ordered here e is) ((wanted here e (before e is) (sym same ∙ want)).children inner);
      }

pub below_place : (s t : State) (need : List Bool) (here upto : ℕ) → FlattenedBelow s t need here → here < upto → upto ≤ length s.es → here < length t.es
below_place s t need here upto f l u = subst (λ es. here < length es) (sym f.flattened.spreads.same) (omega (arith, l, u))

-- ---- what a call's result tells

pub if_settled : {E : Type 0} {X : Type 0} (r : Result X E) (Q P : Type 0) → (Q → P) → IfOk r (λ x. Q) → IfOk r (λ x. P)
if_settled (Ok x) Q P f h = f h
if_settled (Err e) Q P f h = tt
