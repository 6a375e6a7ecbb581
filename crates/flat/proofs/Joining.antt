-- The program that is left by a flattening is faithful to its instance.
use Rattle.std.proofs.Common.{◌≡◌, ◌≢◌, ◌⊎◌, ℕ, zero, suc, ◌+◌, ◌<◌, ◌≤◌, ℤ, pos, ◌≤ℤ◌, List, [], ◌∷◌, ◌++◌, length, map, take, drop, slice_get, slice_index_or, is_none, Bool, true, false, Option, Some, None, IsSome, inl, inr, refl, sym, ap, ap₂, subst, ◌∙◌, arith}
use Rattle.std.specs.List.{AllByRecursion}
use Rattle.std.proofs.lemmas.List.{append_cancel_left, length-map}
use Rattle.mz_base.specs.Names.{text_of}
use Rattle.mz_value.specs.Ranges.{Range, Has, AreCanonical}
use Rattle.mz_operations.specs.Bounds.{hull_of_set}
use Rattle.mz_arena.specs.declared.node.Node.{Node}
use Rattle.mz_arena.specs.declared.node.NodeKind.{NodeKind}
use Rattle.mz_arena.specs.declared.node.NodeKind.TheVariants as kinds
use Rattle.mz_arena.specs.declared.instance.InstanceGoal.{InstanceGoal}
use Rattle.mz_arena.specs.declared.instance.InstanceGoal.TheVariants as instance_goal
use Rattle.mz_arena.specs.Entries.{Entry, at, arity, children, is_free, is_local}
use Rattle.mz_arena.specs.Extents.{Known, as_truth, as_whole, subset, extent, extents, kind_extent, node_extent, marked, variable_extent}
use Rattle.mz_arena.specs.Arenas.{IsArena, Extends, both_truth_values, has_mark}
use Rattle.mz_arena.specs.FreeNodes.{is_set_kind}
use Rattle.mz_arena.specs.InBounds.{AreInDomains}
use Rattle.mz_arena.specs.Instances.{VarCell, ModelVar, Instance}
use Rattle.mz_arena.specs.Numbering.{local_ids, local_ids_from}
use Rattle.mz_arena.specs.Terms.{own_id, term}
use Rattle.mz_arena.specs.Values as terms
use Rattle.mz_arena.specs.Values.{Term, is_true}
use Rattle.mz_arena.proofs.Folds.{at-past, get-below, unroll}
use Rattle.mz_arena.proofs.Growing.{const_extent}
use Rattle.mz_arena.proofs.Kept.{variable_extent_of}
use Rattle.mz_partial.proofs.Standing.{extends_both}
use Rattle.mz_instance.specs.Parts.{Sort, Subset, Part, value_part, is_subset_sort, AreNodes, IsNode, ids, parts, FitsSort}
use Rattle.mz_instance.specs.Instance.{IsInstance, AreTruths, IsObjective, CanTake}
use Rattle.mz_instance.specs.Solved.{subset_or_whole, FitsNode, FitsArena, AreTrue, IsNumber, GoalAt, Holds, Defaults}
use Rattle.fz_program.specs.declared.program.FzGoal.{FzGoal}
use Rattle.fz_program.specs.declared.program.FzGoal.TheVariants.{Satisfy, Minimize, Maximize}
use Rattle.fz_program.specs.declared.row_name.Kind.TheVariants.{Int}
use Rattle.fz_program.specs.Names.{Name}
use Rattle.fz_program.specs.Arguments.{Plain, var}
use Rattle.fz_program.specs.Values as values
use Rattle.fz_program.specs.Values.{Value, Values, number_in, set_in}
use Rattle.fz_program.specs.Flat as flat
use Rattle.fz_program.specs.Flat.{Variable, Program, FlatSolves, WellFormed, IsInDomain, is_plain, plain_value}
use Rattle.fz_build.specs.Build.{with_goal}
use Rattle.fz_build.specs.History.{IsFront, IsOfModel, Made, begins, IsMadeOf}
use Rattle.fz_build.proofs.Histories.{made_of}
use Rattle.fz_build.proofs.Values.{domains_length}
use Rattle.flat_meaning.specs.Front.{domain_by, cell_variables, variables_from, front_variables}
use Rattle.flat_meaning.specs.Defined.{DefinedOnce}
use Rattle.flat_meaning.specs.Goals.{objective_of, IsGoalOf}
use Rattle.flat_meaning.specs.Faithful.{Faithful, IsReading, IsMet, value_by, front_values, front_of}
use Rattle.flat_reif_rows.specs.Standing.{seen}
use Rattle.flat_reif_rows.proofs.Sorts.{of_integer, sort_value}
use Rattle.flat_reif.specs.States.{State, IsState, Meets, own_value, written, number_domain, free_domain, one_choice, given_choices}
use Rattle.flat_reif.specs.Lists.{HasArg, HasFront, is_front}
use Rattle.flat_root.specs.Keeps.{Keeps, IsReadyState, AllTrue, HasChoices}
use Rattle.flat.proofs.Labels.{all_append}
use Rattle.flat.specs.Fronts.{IsFronted, IsOfPart, front_program}
use Rattle.flat.specs.Absent.{AreDefaultRoots}
use Rattle.flat.specs.Cleared.{HasSome, HaveSome}
use Rattle.flat.specs.Flattening.{HasGoal, IsGoalAt, GoalStands, IsHeld, IsFlattened}
use Rattle.flat.proofs.Reading.{read_values, meets_read, own_by, at_place, StandFrom, front_stands, prefix_is, stands_own}
use Rattle.flat.proofs.Fitting.{fits_domains, front_domains, front_inside, front_length, part_at, HasPart}
use Rattle.flat.proofs.Defining.{introduced_are, defined_once, choices_counted}

-- ---- the front

all_get : {X : Type 0} (P : X → Type 0) (xs : List X) (k : ℕ) (x : X) → AllByRecursion P xs → slice_get xs k ≡ Some x → P x
all_get P [] k x a h = absurd (cc)
all_get P (y ∷ xs) zero x a h = let e : y ≡ x = cc in subst P e a.0
all_get P (y ∷ xs) (suc k) x a h = all_get P xs k x a.1 h

cell_model : (scalar opt : Bool) (k : ℕ) (x : Name) (p : Part) → AllByRecursion IsOfModel (cell_variables scalar opt k x p)
cell_model scalar true k x p = (record { introduced = refl; defined = refl }, (record { introduced = refl; defined = refl }, tt))
cell_model scalar false k x p = (record { introduced = refl; defined = refl }, tt)

cells_model : (m : ModelVar) (k : ℕ) (x : Name) (cs : List VarCell) → AllByRecursion IsOfModel (variables_from m k x cs)
cells_model m k x [] = tt
cells_model m k x (c ∷ cs) = all_append IsOfModel (cell_variables (is_none m.index) m.opt k x (value_part m c)) (variables_from m (suc k) x cs) (cell_model (is_none m.index) m.opt k x (value_part m c)) (cells_model m (suc k) x cs)

front_model : (table : List Name) (ms : List ModelVar) → AllByRecursion IsOfModel (front_variables table ms)
front_model table [] = tt
front_model table (m ∷ ms) = all_append IsOfModel (variables_from m 1 (text_of table m.name) m.cells) (front_variables table ms) (cells_model m 1 (text_of table m.name) m.cells) (front_model table ms)

front_kinds : (k : NodeKind) → is_free k ≡ true → is_local k ≡ false → is_front k ≡ true
front_kinds kinds.Var f l = refl
front_kinds kinds.SetVar f l = refl
front_kinds kinds.Local f l = absurd (cc)
front_kinds kinds.SetLocal f l = absurd (cc)
front_kinds _ f l = absurd (cc)

length_taken : {A : Type 0} (xs ys : List A) → take (length xs) (xs ++ ys) ≡ xs
length_taken [] ys = refl
length_taken (x ∷ xs) ys = ap (λ zs. x ∷ zs) (length_taken xs ys)

-- ---- truth values and terms of the first arena

extent_place : (es : List Entry) (id : ℕ) → (extent es id ≡ None → ⊥) → id < length es
unfolding extents
extent_place es id some = by (lt_or id (length es))
  where
    lt_or : (a b : ℕ) → (a < b) ⊎ (b ≤ a)
    lt_or a zero = inr (omega arith)
    lt_or zero (suc b) = inl (omega arith)
    lt_or (suc a) (suc b) = elim (lt_or a b) [ inl l ↦ inl (omega (arith, l)) | inr l ↦ inr (omega (arith, l)) ]

    by : (id < length es) ⊎ (length es ≤ id) → id < length es
    by (inl l) = l
    by (inr l) = absurd (some (at-past _ es id l))

pub truth_place : (es : List Entry) (id : ℕ) → IsSome (as_truth (extent es id)) → id < length es
truth_place es id h = extent_place es id (λ e. nothing (extent es id) e h)
  where
    nothing : (x : Known) → x ≡ None → IsSome (as_truth x) → ⊥
    nothing None e h = cc
    nothing (Some y) e h = cc

pub whole_place : (es : List Entry) (id : ℕ) → IsSome (as_whole (extent es id)) → id < length es
whole_place es id h = extent_place es id (λ e. nothing (extent es id) e h)
  where
    nothing : (x : Known) → x ≡ None → IsSome (as_whole x) → ⊥
    nothing None e h = cc
    nothing (Some y) e h = cc

roots_back : (es fs : List Entry) (x : Extends es fs) (v : terms.Values) (is : List ℕ) → AreTruths es is → AllTrue fs is v → AreTrue es is v
roots_back es fs x v [] t h = tt
roots_back es fs x v (i ∷ is) t h = (ap is_true (sym (x.grew.terms v i (truth_place es i t.0))) ∙ h.0, roots_back es fs x v is t.1 h.1)

roots_on : (es fs : List Entry) (x : Extends es fs) (v : terms.Values) (is : List ℕ) → AreTruths es is → AreTrue es is v → AllTrue fs is v
roots_on es fs x v [] t h = tt
roots_on es fs x v (i ∷ is) t h = (ap is_true (x.grew.terms v i (truth_place es i t.0)) ∙ h.0, roots_on es fs x v is t.1 h.1)

-- ---- the objective

goal_of : (es : List Entry) (t : State) (g : InstanceGoal) (q : FzGoal) → GoalStands es t g q → IsGoalOf g q
goal_of es t instance_goal.Satisfy Satisfy h = refl
goal_of es t instance_goal.Satisfy (Minimize k) h = absurd h
goal_of es t instance_goal.Satisfy (Maximize k) h = absurd h
goal_of es t (instance_goal.Minimize id) Satisfy h = absurd h
goal_of es t (instance_goal.Minimize id) (Minimize k) h = (k, refl)
goal_of es t (instance_goal.Minimize id) (Maximize k) h = absurd h
goal_of es t (instance_goal.Maximize id) Satisfy h = absurd h
goal_of es t (instance_goal.Maximize id) (Minimize k) h = absurd h
goal_of es t (instance_goal.Maximize id) (Maximize k) h = (k, refl)

-- the variable is the integer
variable_number : (es fs : List Entry) (x : Extends es fs) (t : State) (id k : ℕ) (v : terms.Values) (f : Values) → IsSome (as_whole (extent es id)) → IsGoalAt fs t id k → AreInDomains t.es v → Meets t v f → term v es id ≡ Some (terms.number (number_in (at_place f k)))
variable_number es fs x t id k v f w g d m =
    let is = sort_value of_integer t.prog.vars f (var k) m.solves.domains g.sort in
    sym (x.grew.terms v id (whole_place es id w)) ∙ g.value v f d m ∙ ap (λ y. Some (seen y)) is.is ∙ ap (λ n. Some (terms.number n)) (sym (ap number_in is.is))

goal_read : (es fs : List Entry) (x : Extends es fs) (t : State) (g : InstanceGoal) (q : FzGoal) (v : terms.Values) (f : Values) → IsObjective es g → GoalStands fs t g q → AreInDomains t.es v → Meets t v f → GoalAt es g v (objective_of q f)
goal_read es fs x t instance_goal.Satisfy Satisfy v f o h d m = refl
goal_read es fs x t instance_goal.Satisfy (Minimize k) v f o h d m = absurd h
goal_read es fs x t instance_goal.Satisfy (Maximize k) v f o h d m = absurd h
goal_read es fs x t (instance_goal.Minimize id) Satisfy v f o h d m = absurd h
goal_read es fs x t (instance_goal.Minimize id) (Minimize k) v f o h d m = variable_number es fs x t id k v f o h d m
goal_read es fs x t (instance_goal.Minimize id) (Maximize k) v f o h d m = absurd h
goal_read es fs x t (instance_goal.Maximize id) Satisfy v f o h d m = absurd h
goal_read es fs x t (instance_goal.Maximize id) (Minimize k) v f o h d m = absurd h
goal_read es fs x t (instance_goal.Maximize id) (Maximize k) v f o h d m = variable_number es fs x t id k v f o h d m

same_value : (t : Term) (m n : ℤ) → t ≡ Some (terms.number m) → t ≡ Some (terms.number n) → m ≡ n
same_value t m n h k = cc

number_met : (t : Term) (n : Option ℤ) (m : ℤ) → IsNumber t n → t ≡ Some (terms.number m) → Some m ≡ n
number_met t None m h k = absurd h
number_met t (Some n) m h k = ap Some (same_value t m n k h)

goal_met : (es fs : List Entry) (x : Extends es fs) (t : State) (g : InstanceGoal) (q : FzGoal) (v : terms.Values) (n : Option ℤ) (f : Values) → IsObjective es g → GoalStands fs t g q → GoalAt es g v n → AreInDomains t.es v → Meets t v f → objective_of q f ≡ n
goal_met es fs x t instance_goal.Satisfy Satisfy v n f o h a d m = sym a
goal_met es fs x t instance_goal.Satisfy (Minimize k) v n f o h a d m = absurd h
goal_met es fs x t instance_goal.Satisfy (Maximize k) v n f o h a d m = absurd h
goal_met es fs x t (instance_goal.Minimize id) Satisfy v n f o h a d m = absurd h
goal_met es fs x t (instance_goal.Minimize id) (Minimize k) v n f o h a d m = number_met (term v es id) n (number_in (at_place f k)) a (variable_number es fs x t id k v f o h d m)
goal_met es fs x t (instance_goal.Minimize id) (Maximize k) v n f o h a d m = absurd h
goal_met es fs x t (instance_goal.Maximize id) Satisfy v n f o h a d m = absurd h
goal_met es fs x t (instance_goal.Maximize id) (Minimize k) v n f o h a d m = absurd h
goal_met es fs x t (instance_goal.Maximize id) (Maximize k) v n f o h a d m = number_met (term v es id) n (number_in (at_place f k)) a (variable_number es fs x t id k v f o h d m)

some_number : (t : Term) (n : Option ℤ) → IsNumber t n → IsSome t
some_number t None h = absurd h
some_number t (Some n) h = subst (λ (x : Term). IsSome x) (sym h) refl

goal_some : (es fs : List Entry) (x : Extends es fs) (g : InstanceGoal) (v : terms.Values) (n : Option ℤ) → IsObjective es g → GoalAt es g v n → HasGoal fs g v
goal_some es fs x instance_goal.Satisfy v n o h = tt
goal_some es fs x (instance_goal.Minimize id) v n o h = subst (λ (y : Term). IsSome y) (sym (x.grew.terms v id (whole_place es id o))) (some_number (term v es id) n h)
goal_some es fs x (instance_goal.Maximize id) v n o h = subst (λ (y : Term). IsSome y) (sym (x.grew.terms v id (whole_place es id o))) (some_number (term v es id) n h)

-- ---- values that are read off fit

number_fits : (c : ℕ) (u : List Range) (n : ℤ) → IsSome (marked c (hull_of_set u)) → (c ≡ 1 → u ≡ both_truth_values) → u ≢ [] → IsInDomain (number_domain c u) (values.number n) → Has u n
number_fits zero [] n some both full h = absurd (full refl)
number_fits zero (r ∷ u) n some both full h = h
number_fits (suc zero) u n some both full h = subst (λ w. Has w n) (sym (both refl)) (inl h)
number_fits (suc (suc c)) u n some both full h = absurd (cc)

by_kind : (v : terms.Values) (n : Node) (k : NodeKind) (id : ℕ) (u : List Range) → is_free k ≡ true → own_id n ≡ id → (is_set_kind k ≡ false → u ≢ []) → (has_mark k ≡ true → IsSome (marked n.c (hull_of_set u))) → (has_mark k ≡ true → n.c ≡ 1 → u ≡ both_truth_values) → IsInDomain (free_domain k n.c u) (own_value v n k) → FitsSort (subset_or_whole (is_set_kind k)) u (v.number id) (v.set id)
by_kind v n kinds.Var id u free own full some both h = subst (λ i. Has u (v.number i)) own (number_fits n.c u (v.number (own_id n)) (some refl) (both refl) (full refl) h)
by_kind v n kinds.Local id u free own full some both h = subst (λ i. Has u (v.number i)) own (number_fits n.c u (v.number (own_id n)) (some refl) (both refl) (full refl) h)
by_kind v n kinds.SetVar id u free own full some both h = subst (λ i. FitsSort Subset u (v.number i) (v.set i)) own h
by_kind v n kinds.SetLocal id u free own full some both h = subst (λ i. FitsSort Subset u (v.number i) (v.set i)) own h
by_kind v n _ id u free own full some both h = absurd (cc)

marked_some : (e : Entry) (k : NodeKind) (g : ℕ → Known) (u : List Range) → g e.node.a ≡ Some (subset u) → IsSome (kind_extent e k (map g (take (arity k) (e.node.a ∷ e.node.b ∷ e.node.c ∷ [])))) → has_mark k ≡ true → IsSome (marked e.node.c (hull_of_set u))
marked_some e kinds.Var g u d h m = subst (λ (x : Known). IsSome x) (ap (variable_extent e.node.c) d ∙ variable_extent_of e.node.c (Some (subset u)) u refl) h
marked_some e kinds.Local g u d h m = subst (λ (x : Known). IsSome x) (ap (variable_extent e.node.c) d ∙ variable_extent_of e.node.c (Some (subset u)) u refl) h
marked_some e _ g u d h m = absurd (cc)

extent_told : (es : List Entry) (id : ℕ) (e : Entry) → IsArena es → slice_get es id ≡ Some e → extent es id ≡ node_extent e (map (extent es) (children e.node))
unfolding extents
extent_told es id e a is = unroll node_extent es id e is (a.ordered id e is)

same_entry : (x y : Entry) (o : Option Entry) → o ≡ Some x → o ≡ Some y → x ≡ y
same_entry x y o h k = cc

-- the value of a part at its number
front_at : (v : terms.Values) (is : List ℕ) (ps : List Part) (n i : ℕ) (p : Part) → slice_get is n ≡ Some i → slice_get ps n ≡ Some p → at_place (front_values ps is v) n ≡ value_by p.sort (v.number i) (v.set i)
front_at v [] ps n i p h k = absurd (cc)
front_at v (j ∷ is) [] n i p h k = absurd (cc)
front_at v (j ∷ is) (q ∷ ps) zero i p h k =
    let e : j ≡ i = cc in
    let f : q ≡ p = cc in
    ap₂ (λ j (q : Part). value_by q.sort (v.number j) (v.set j)) e f
front_at v (j ∷ is) (q ∷ ps) (suc n) i p h k = front_at v is ps n i p h k

none_given : (es : List Entry) (args : List (Option Plain)) → ((id : ℕ) (e : Entry) (p : Plain) → slice_get es id ≡ Some e → is_local e.node.kind ≡ true → at args id ≡ Some p → ⊥) → given_choices es args ≡ 0
none_given [] args h = refl
none_given (e ∷ es) [] h = refl
none_given (e ∷ es) (a ∷ args) h = ap₂ (λ x n. x + n) (one (is_local e.node.kind) a (λ l p k. h 0 e p refl l k)) (none_given es args (λ id d p k l m. h (suc id) d p k l m))
  where
    one : (b : Bool) (a : Option Plain) → ((b ≡ true) → (p : Plain) → a ≡ Some p → ⊥) → one_choice b a ≡ 0
    one true (Some p) h = absurd (h refl p refl)
    one true None h = refl
    one false a h = refl

get_front : {A : Type 0} (xs ys : List A) (k : ℕ) (d : A) → k < length xs → slice_index_or (xs ++ ys) k d ≡ slice_index_or xs k d
get_front [] ys k d h = absurd (omega (arith, h))
get_front (x ∷ xs) ys zero d h = refl
get_front (x ∷ xs) ys (suc k) d h = get_front xs ys k d (omega (arith, h))

module _ (inst : Instance) (table : List Name) (b s t : State) (ds : List ℕ) (goal : FzGoal) (i : IsInstance inst) (h : IsFlattened inst table b s t ds goal) (formed : WellFormed (with_goal t.prog goal)) where
  abbrev es : List Entry
  es = inst.arena

  abbrev front_vars : List Variable
  front_vars = front_variables table inst.vars

  abbrev whole_program : Program
  whole_program = with_goal t.prog goal

  extends : Extends es t.es
  extends = extends_both es s.es t.es h.extends h.keeps.extends

  solved : (f : Values) → FlatSolves whole_program f → FlatSolves t.prog f
  solved f p = record { domains = p.domains; rows = p.rows }

  unsolved : (f : Values) → FlatSolves t.prog f → FlatSolves whole_program f
  unsolved f p = record { domains = p.domains; rows = p.rows }

  s_vars : s.prog.vars ≡ front_vars
  s_vars = ap (λ (p : Program). p.vars) h.front.prog

  is_front_program : IsFront s.prog
  is_front_program = record {
    variables = subst (AllByRecursion IsOfModel) (sym s_vars) (front_model table inst.vars);
    rows = ap (λ (p : Program). p.rows) h.front.prog;
  }

  old_entry : (id : ℕ) (e : Entry) → slice_get s.es id ≡ Some e → is_free e.node.kind ≡ true → slice_get es id ≡ Some e
  old_entry id e is free = sym (h.extends.grew.same id (h.extends.frees id e is free)) ∙ is

  -- an argument of the front is that of a variable
  of_part : (id : ℕ) (e : Entry) (p : Plain) (n : ℕ) → slice_get s.es id ≡ Some e → is_free e.node.kind ≡ true → slice_get (ids inst.vars) n ≡ Some id → HasPart es (parts inst.vars) 0 n id
  of_part id e p n is free part = part_at es (ids inst.vars) (parts inst.vars) 0 n id i.nodes part

  local_free : (k : NodeKind) → is_local k ≡ true → is_free k ≡ true
  local_free kinds.Local l = refl
  local_free kinds.SetLocal l = refl
  local_free _ l = absurd (cc)

  no_local_given : (id : ℕ) (e : Entry) (p : Plain) → slice_get s.es id ≡ Some e → is_local e.node.kind ≡ true → at s.args id ≡ Some p → ⊥
  no_local_given id e p is l k =
      let o = h.front.only id p k in
      let q = part_at es (ids inst.vars) (parts inst.vars) 0 o.number id i.nodes o.part in
      let same : q.node_.there ≡ e = same_entry q.node_.there e (slice_get es id) q.node_.stands (old_entry id e is (local_free e.node.kind l)) in
      let no_local : is_local e.node.kind ≡ false = subst (λ (x : Entry). is_local x.node.kind ≡ false) same q.node_.local in
      clash (is_local e.node.kind) no_local l
    where
      clash : (c : Bool) → c ≡ false → c ≡ true → ⊥
      clash c x y = cc

  made : Made s.prog t.prog (given_choices t.es t.args)
  made = h.keeps.made s.prog (subst (Made s.prog s.prog) (sym (none_given s.es s.args no_local_given)) begins)

  is_made : IsMadeOf s.prog t.prog (given_choices t.es t.args)
  is_made = made_of s.prog is_front_program t.prog (given_choices t.es t.args) made

  counted : given_choices t.es t.args ≡ length (local_ids es)
  unfolding local_ids
  counted = choices_counted es t.es t.args 0 extends.grew.longer extends.grew.same (λ id e k l. extends.frees id e k (local_free e.node.kind l)) h.choices

  -- ---- values that are read off

  arg_of : (k id : ℕ) → slice_get (ids inst.vars) k ≡ Some id → at t.args id ≡ Some (var k)
  arg_of k id e = h.keeps.keeps id (var k) (h.front.args k id e)

  has_arg : (id : ℕ) (e : Entry) → slice_get t.es id ≡ Some e → is_free e.node.kind ≡ true → IsSome (at t.args id)
  has_arg id e is free = by (is_local e.node.kind) refl
    where
      by : (c : Bool) → is_local e.node.kind ≡ c → IsSome (at t.args id)
      by true l = h.choices id e is l
      by false l = h.ready.front id e is (front_kinds e.node.kind free l)

  module _ (f : Values) (solves : FlatSolves t.prog f) where
    abbrev v : terms.Values
    v = read_values t f

    meets : Meets t v f
    meets = meets_read t h.ready.state f solves

    set_some : (id : ℕ) (e : Entry) (c : Entry) → slice_get es id ≡ Some e → is_free e.node.kind ≡ true → slice_get es e.node.a ≡ Some c → is_set_kind e.node.kind ≡ false → c.set ≢ []
    set_some id e c is free over number = by (is_local e.node.kind) refl
      where
        by : (l : Bool) → is_local e.node.kind ≡ l → c.set ≢ []
        by true l =
            let k = i.chosen id e is l in
            subst (λ (x : Entry). x.set ≢ []) (same_entry k.over c (slice_get es e.node.a) k.domain over) (k.some number)
        by false l =
            let part = i.no_more id e is free l in
            let q = part_at es (ids inst.vars) (parts inst.vars) 0 e.node.b id i.nodes part in
            let same : q.node_.there ≡ e = same_entry q.node_.there e (slice_get es id) q.node_.stands is in
            let sort : is_subset_sort q.part.sort ≡ false = sym q.node_.sort ∙ ap (λ (x : Entry). is_set_kind x.node.kind) same ∙ number in
            let above : q.node_.over ≡ c = same_entry q.node_.over c (slice_get es e.node.a) (sym (ap (λ (x : Entry). slice_get es x.node.a) same) ∙ q.node_.domain) over in
            let some = all_get HasSome (parts inst.vars) e.node.b q.part (h.some f solves) q.there_ sort in
            subst (λ u. u ≢ []) (sym q.node_.set ∙ ap (λ (x : Entry). x.set) above) some

    fits : FitsArena es v
    fits id e is free =
        let d = i.arena.domains id e is free in
        let c = d.const in
        let later : slice_get t.es id ≡ Some e = extends.grew.same id (get-below es id e is) ∙ is in
        let above : slice_get t.es e.node.a ≡ Some c.there = extends.grew.same e.node.a (get-below es e.node.a c.there c.stands) ∙ c.stands in
        record {
          over = c.there;
          domain = c.stands;
          fits = by (at t.args id) refl (has_arg id e later free) later above;
        }
      where
        by : (o : Option Plain) → at t.args id ≡ o → IsSome o → slice_get t.es id ≡ Some e → slice_get t.es e.node.a ≡ Some (i.arena.domains id e is free).const.there → FitsSort (subset_or_whole (is_set_kind e.node.kind)) (i.arena.domains id e is free).const.there.set (v.number id) (v.set id)
        by None k y later above = absurd (cc)
        by (Some p) k y later above =
            let d = i.arena.domains id e is free in
            let c = d.const in
            by_kind v e.node e.node.kind id c.there.set free (i.arena.own id e is free) (set_some id e c.there is free c.stands)
            (marked_some e e.node.kind (extent es) c.there.set (const_extent es e.node.a i.arena c) (subst (λ (x : Known). IsSome x) (extent_told es id e i.arena is) (i.arena.bounded id e is)))
            d.both
            (h.ready.state.ranged v f meets id e c.there p later free above k)

    domains : AreInDomains t.es v
    domains = fits_domains es t.es i.arena extends v fits

    held : IsHeld s.es ds inst.roots inst.goal v
    held = h.keeps.holds v f domains meets

    first_domains : AreInDomains s.es v
    first_domains = fits_domains es s.es i.arena h.extends v fits

    linked_at : (n id : ℕ) (p : Part) → slice_get (ids inst.vars) n ≡ Some id → IsNode es false (0 + n) p id → value_by p.sort (v.number id) (v.set id) ≡ at_place f (0 + n)
    linked_at n id p g node =
        let same : n ≡ 0 + n = omega arith in
        own_by p.sort node.there.node.kind v node.there.node id node.free node.sort node.own
        ∙ meets.linked id node.there (var n) (extends.grew.same id (get-below es id node.there node.stands) ∙ node.stands) node.free (arg_of n id g)
        ∙ ap (at_place f) same

    stand : StandFrom f 0 (front_of inst v)
    stand = front_stands es v f 0 (ids inst.vars) (parts inst.vars) i.nodes linked_at

    enough : length (front_of inst v) ≤ length f
    enough =
        let a = front_length es v 0 (ids inst.vars) (parts inst.vars) i.nodes in
        let c = sym (length-map front_vars (λ (x : Variable). x.domain)) ∙ ap length (front_domains table inst.vars) ∙ length-map (parts inst.vars) (λ (p : Part). domain_by p.sort p.set) in
        let d = ap length s_vars in
        let e = domains_length t.prog.vars f solves.domains in
        omega (arith, a, c, d, e, h.keeps.longer)

    pub reading : IsReading inst whole_program f
    reading = record {
      values = v;
      fits = fits;
      defaults = h.absent.from v first_domains held.absent;
      rest = drop (length (front_of inst v)) f;
      front = prefix_is (front_of inst v) f stand enough;
      holds = record {
        roots = roots_back es s.es h.extends v inst.roots i.roots held.held;
        goal = goal_read es s.es h.extends t inst.goal goal v f i.goal h.aimed domains meets;
      };
    }

  -- ---- a solution for given values

  module _ (v : terms.Values) (fits : FitsArena es v) where
    met_domains : AreInDomains t.es v
    met_domains = fits_domains es t.es i.arena extends v fits

    front_solves : FlatSolves s.prog (front_of inst v)
    front_solves = subst (λ p. FlatSolves p (front_of inst v)) (sym h.front.prog) (record { domains = front_inside es v fits 0 front_vars (ids inst.vars) (parts inst.vars) (front_domains table inst.vars) i.nodes i.suited; rows = tt })

    front_meets : Meets s v (front_of inst v)
    front_meets = record {
      solves = front_solves;
      linked = λ id e p is free k. linked id e p is free (h.front.only id p k);
    }
      where
        linked : (id : ℕ) (e : Entry) (p : Plain) → slice_get s.es id ≡ Some e → is_free e.node.kind ≡ true → IsOfPart inst.vars id p → own_value v e.node e.node.kind ≡ plain_value (front_of inst v) p
        linked id e p is free o =
            let q = part_at es (ids inst.vars) (parts inst.vars) 0 o.number id i.nodes o.part in
            let same : q.node_.there ≡ e = same_entry q.node_.there e (slice_get es id) q.node_.stands (old_entry id e is free) in
            subst (λ (x : Entry). own_value v x.node x.node.kind ≡ plain_value (front_of inst v) p) same
            (sym (own_by q.part.sort q.node_.there.node.kind v q.node_.there.node id q.node_.free q.node_.sort q.node_.own)
            ∙ sym (front_at v (ids inst.vars) (parts inst.vars) o.number id q.part o.part q.there_)
            ∙ ap (plain_value (front_of inst v)) (sym o.is))

    pub met : (n : Option ℤ) → Defaults inst.vars v → Holds inst v n → IsMet inst whole_program v n
    met n defaults holds =
        let held : IsHeld s.es ds inst.roots inst.goal v = record {
          absent = h.absent.to v (fits_domains es s.es i.arena h.extends v fits) defaults;
          held = roots_on es s.es h.extends v inst.roots i.roots holds.roots;
          aimed = goal_some es s.es h.extends inst.goal v n i.goal holds.goal;
        } in
        let m = h.keeps.up v (front_of inst v) met_domains held front_meets in
        record {
          rest = m.rest;
          solves = unsolved (front_of inst v ++ m.rest) m.meets.solves;
          objective = goal_met es s.es h.extends t inst.goal goal v n (front_of inst v ++ m.rest) i.goal h.aimed holds.goal met_domains m.meets;
        }

  -- ---- one alone

  no_local : local_ids es ≡ [] → (id : ℕ) (e : Entry) → slice_get es id ≡ Some e → is_local e.node.kind ≡ false
  no_local none id e is = by (is_local e.node.kind) refl
    where
      nothing : slice_get (local_ids es) e.node.b ≡ Some id → ⊥
      nothing k = let z : slice_get [] e.node.b ≡ Some id = subst (λ xs. slice_get xs e.node.b ≡ Some id) none k in cc

      by : (c : Bool) → is_local e.node.kind ≡ c → c ≡ false
      by true l = absurd (nothing (i.arena.numbered.all id e is l))
      by false l = refl

  front_count : (v : terms.Values) → length (front_of inst v) ≡ length s.prog.vars
  front_count v =
      front_length es v 0 (ids inst.vars) (parts inst.vars) i.nodes
      ∙ sym (sym (length-map front_vars (λ (x : Variable). x.domain)) ∙ ap length (front_domains table inst.vars) ∙ length-map (parts inst.vars) (λ (p : Part). domain_by p.sort p.set))
      ∙ sym (ap length s_vars)

  ids_count : (k id : ℕ) → slice_get (ids inst.vars) k ≡ Some id → (v : terms.Values) → k < length (front_of inst v)
  ids_count k id e v =
      let q = part_at es (ids inst.vars) (parts inst.vars) 0 k id i.nodes e in
      let l = get-below (parts inst.vars) k q.part q.there_ in
      let a = front_length es v 0 (ids inst.vars) (parts inst.vars) i.nodes in
      omega (arith, l, a)

  module _ (none : local_ids es ≡ []) (v : terms.Values) (r q : Values) (x : FlatSolves t.prog (front_of inst v ++ r)) (y : FlatSolves t.prog (front_of inst v ++ q)) where
    abbrev f : Values
    f = front_of inst v ++ r

    abbrev g : Values
    g = front_of inst v ++ q

    m : Meets t (read_values t f) f
    m = meets_read t h.ready.state f x

    same_there : (id : ℕ) (e : Entry) (p : Plain) → slice_get t.es id ≡ Some e → is_free e.node.kind ≡ true → at t.args id ≡ Some p → plain_value f p ≡ plain_value g p
    same_there id e p is free k =
        let old : slice_get es id ≡ Some e = sym (extends.grew.same id (extends.frees id e is free)) ∙ is in
        let part = i.no_more id e old free (no_local none id e old) in
        let a = arg_of e.node.b id part in
        let low = ids_count e.node.b id part v in
        let same : p ≡ var e.node.b = some_same p (var e.node.b) (at t.args id) k a in
        ap (plain_value f) same
        ∙ get_front (front_of inst v) r e.node.b (values.number (pos 0)) low
        ∙ sym (get_front (front_of inst v) q e.node.b (values.number (pos 0)) low)
        ∙ ap (plain_value g) (sym same)
      where
        some_same : (p q : Plain) (o : Option Plain) → o ≡ Some p → o ≡ Some q → p ≡ q
        some_same p q o a b = cc

    n : Meets t (read_values t f) g
    n = record { solves = y; linked = λ id e p is free k. m.linked id e p is free k ∙ same_there id e p is free k }

    taken : (z : Values) → take (length s.prog.vars) (front_of inst v ++ z) ≡ front_of inst v
    taken z = ap (λ l. take l (front_of inst v ++ z)) (sym (front_count v)) ∙ length_taken (front_of inst v) z

    pub alone : r ≡ q
    alone = append_cancel_left (front_of inst v) r q (h.keeps.one (read_values t f) f g m n (taken r ∙ sym (taken q)))

  -- THE PROGRAM is faithful
  pub faithful : Faithful inst table whole_program
  faithful = record {
    formed = formed;
    goal = goal_of s.es t inst.goal goal h.aimed;
    introduced = is_made.introduced;
    vars = is_made.vars ∙ ap (λ vs. vs ++ is_made.introduced) s_vars;
    are = introduced_are 0 is_made.introduced is_made.are;
    arrays = is_made.arrays ∙ ap (λ (p : Program). p.arrays) h.front.prog;
    once = once_more (defined_once s.prog t.prog (given_choices t.es t.args) is_front_program made is_made (length (local_ids es)) counted);
    read = λ f p. reading f (solved f p);
    met = λ v n a d o. met v a n d o;
    one = λ none v r q x y. alone none v r q (solved (front_of inst v ++ r) x) (solved (front_of inst v ++ q) y);
  }
    where
      once_more : DefinedOnce t.prog is_made.introduced (length (local_ids es)) → DefinedOnce whole_program is_made.introduced (length (local_ids es))
      once_more o = record { rows = o.rows; free = o.free }
