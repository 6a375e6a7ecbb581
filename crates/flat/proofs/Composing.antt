-- The steps of a flattening, one after the other.
use Rattle.std.proofs.Common.{◌≡◌, ◌≢◌, ℕ, zero, suc, ◌+◌, ◌<◌, ◌≤◌, ℤ, List, [], ◌∷◌, ◌++◌, length, map, take, slice_get, Bool, true, false, Option, Some, None, IsSome, is_some, refl, sym, ap, subst, subst₂, ◌∙◌, arith, append_assoc}
use Rattle.std.specs.List.{AllByRecursion, flat_map}
use Rattle.mz_value.specs.Ranges.{Range, Has}
use Rattle.mz_arena.specs.declared.instance.InstanceGoal.{InstanceGoal}
use Rattle.mz_arena.specs.declared.instance.InstanceGoal.TheVariants as instance_goal
use Rattle.mz_arena.specs.Entries.{Entry, is_free, is_local}
use Rattle.mz_arena.specs.Extents.{Known, as_truth, as_whole, extent}
use Rattle.mz_arena.specs.Arenas.{Grew, Extends, IsArena}
use Rattle.mz_arena.specs.InBounds.{AreInDomains}
use Rattle.mz_arena.specs.Instances.{VarCell, ModelVar, Instance}
use Rattle.mz_arena.specs.Terms.{term}
use Rattle.mz_arena.specs.Values as terms
use Rattle.mz_arena.specs.Values.{Term, is_true}
use Rattle.mz_arena.proofs.Folds.{get-below}
use Rattle.mz_partial.proofs.Standing.{extends_both}
use Rattle.mz_instance.specs.Parts.{Sort, Subset, Part, is_subset_sort, occurrence, value_part, parts_of, after_occurrence, cell_ids, var_ids, var_parts, ids, parts, IsNode, AreNodes}
use Rattle.mz_instance.specs.Instance.{IsInstance, IsModelVar, AreModelVars, AreOccurring, IsPart, AreParts, AreTruths, IsObjective}
use Rattle.fz_program.specs.declared.program.FzGoal.{FzGoal}
use Rattle.fz_program.specs.declared.program.FzGoal.TheVariants.{Satisfy, Minimize, Maximize}
use Rattle.fz_program.specs.declared.row_name.Kind.TheVariants.{Int}
use Rattle.fz_program.specs.Names.{Name}
use Rattle.fz_program.specs.Arguments.{var}
use Rattle.fz_program.specs.Values.{Values}
use Rattle.fz_program.specs.Flat.{Variable, Program, FlatSolves, WellFormed, is_plain, is_goal, is_variable_of}
use Rattle.fz_build.specs.Build.{with_goal}
use Rattle.flat_meaning.specs.Faithful.{Faithful}
use Rattle.flat_meaning.specs.Front.{AreNamed}
use Rattle.mz_partial.specs.declared.part.Part.{Part as MemoPart}
use Rattle.mz_partial.specs.Totals.{AreParts as MemoParts}
use Rattle.flat_reif.specs.Roots.{begun}
use Rattle.flat_reif.specs.States.{State, IsState, Always}
use Rattle.flat_root.specs.Keeps.{Keeps, IsReadyState, Leads, AllTrue, HasChoices}
use Rattle.flat_root.specs.Totals.{IsRoot, AreRoots}
use Rattle.flat_root.specs.Objectives.{IsWholeRoot, HasValueAt, HasObjective}
use Rattle.flat_root.proofs.Keeping.{keeps_spread, keeps_twice, keeps_where}
use Rattle.flat_reif.proofs.Steps.{spreads_same}
use Rattle.flat.specs.Fronts.{AreFrontOf, MayHaveFront, IsFronted}
use Rattle.flat.specs.Absent.{IsOption, IsOptionWhere, AreOptions, AreAllOptions, AddsCellRoots, all_cells, AreDefaultRoots}
use Rattle.flat.specs.Cleared.{HasSome, HaveSome, AreCleared, IsBound, AreBound, value_parts, all_value_parts}
use Rattle.flat.specs.Flattening.{HasGoal, IsGoalAt, GoalStands, IsGoalRoot, IsAimed, IsHeld, IsFlattened}
use Rattle.flat.proofs.Reading.{read_values, meets_read}
use Rattle.flat.proofs.Absenting.{has_number, later_node, default_roots, true_on, true_back, roots_later}
use Rattle.flat.proofs.Clearing.{all_some}
use Rattle.flat.proofs.Joining.{truth_place, whole_place, faithful}

-- ---- what an instance tells of its options and domains

split_nodes : (es : List Entry) (opt : Bool) (k : ℕ) (p : Part) (o : Option ℕ) (i : ℕ) (is : List ℕ) (ps : List Part) → is_some o ≡ opt → AreNodes es false k (after_occurrence o i ++ is) (parts_of opt p ++ ps) → (l : ℕ) × AreNodes es false l is ps
split_nodes es true k p (Some o) i is ps e n = (suc (suc k), n.1.1)
split_nodes es true k p None i is ps e n = absurd (cc)
split_nodes es false k p (Some o) i is ps e n = absurd (cc)
split_nodes es false k p None i is ps e n = (suc k, n.1)

option_where : (es : List Entry) (m : ModelVar) (opt : Bool) (k : ℕ) (c : VarCell) (o : Option ℕ) (is : List ℕ) (ps : List Part) → is_some o ≡ opt → (opt ≡ true → is_subset_sort (value_part m c).sort ≡ false) → AreNodes es false k (after_occurrence o c.term ++ is) (parts_of opt (value_part m c) ++ ps) → AreParts (parts_of opt (value_part m c) ++ ps) → IsOptionWhere es m o c
option_where es m true k c (Some o) is ps e a n h = record { numbers = a refl; first_ = k; first = n.0; second_ = suc k; second = n.1.0; over = h.1.0.truth }
option_where es m true k c None is ps e a n h = tt
option_where es m false k c (Some o) is ps e a n h = absurd (cc)
option_where es m false k c None is ps e a n h = tt

parts_rest : (xs ys : List Part) → AreParts (xs ++ ys) → AreParts ys
parts_rest [] ys h = h
parts_rest (x ∷ xs) ys h = parts_rest xs ys h.1

module _ (es : List Entry) (m : ModelVar) where
  abbrev cell_parts : VarCell → List Part
  cell_parts c = parts_of m.opt (value_part m c)

  options_of : (cs : List VarCell) (k : ℕ) (is : List ℕ) (ps : List Part) → (m.opt ≡ true → (c : VarCell) → is_subset_sort (value_part m c).sort ≡ false) → AreOccurring m.opt cs → AreNodes es false k (flat_map cell_ids cs ++ is) (flat_map cell_parts cs ++ ps) → AreParts (flat_map cell_parts cs ++ ps) → AreOptions es m cs
  options_of [] k is ps a o n h = tt
  options_of (c ∷ cs) k is ps a o n h =
      let n1 = subst₂ (AreNodes es false k) (append_assoc (cell_ids c) (flat_map cell_ids cs) is) (append_assoc (cell_parts c) (flat_map cell_parts cs) ps) n in
      let h1 = subst AreParts (append_assoc (cell_parts c) (flat_map cell_parts cs) ps) h in
      let s = split_nodes es m.opt k (value_part m c) c.occurs c.term (flat_map cell_ids cs ++ is) (flat_map cell_parts cs ++ ps) o.0 n1 in (
        option_where es m m.opt k c c.occurs (flat_map cell_ids cs ++ is) (flat_map cell_parts cs ++ ps) o.0 (λ e. a e c) n1 h1,
        options_of cs s.0 is ps a o.1 s.1 (parts_rest (cell_parts c) (flat_map cell_parts cs ++ ps) h1),
      )

  nodes_after : (cs : List VarCell) (k : ℕ) (is : List ℕ) (ps : List Part) → AreOccurring m.opt cs → AreNodes es false k (flat_map cell_ids cs ++ is) (flat_map cell_parts cs ++ ps) → (l : ℕ) × AreNodes es false l is ps
  nodes_after [] k is ps o n = (k, n)
  nodes_after (c ∷ cs) k is ps o n =
      let n1 = subst₂ (AreNodes es false k) (append_assoc (cell_ids c) (flat_map cell_ids cs) is) (append_assoc (cell_parts c) (flat_map cell_parts cs) ps) n in
      let s = split_nodes es m.opt k (value_part m c) c.occurs c.term (flat_map cell_ids cs ++ is) (flat_map cell_parts cs ++ ps) o.0 n1 in
      nodes_after cs s.0 is ps o.1 s.1

all_options_of : (es : List Entry) (ms : List ModelVar) (k : ℕ) → AreModelVars ms → AreNodes es false k (ids ms) (parts ms) → AreParts (parts ms) → AreAllOptions es ms
all_options_of es [] k a n h = tt
all_options_of es (m ∷ ms) k a n h =
    let s = nodes_after es m m.cells k (ids ms) (parts ms) a.0.cells n in (
      options_of es m m.cells k (ids ms) (parts ms) (λ e c. a.0.allowed e) a.0.cells n h,
      all_options_of es ms s.0 a.1 s.1 (parts_rest (var_parts m) (parts ms) h),
    )

bound_part : (es : List Entry) → IsArena es → (k i : ℕ) (p : Part) → IsNode es false k p i → IsBound es p
bound_part es a k i p n = record { none = λ s e v d. subst (λ u. Has u (v.number i)) e (has_number es a k i p n s v d) }

bound_parts : (es : List Entry) → IsArena es → (k : ℕ) (is : List ℕ) (ps : List Part) → AreNodes es false k is ps → AreBound es ps
bound_parts es a k [] [] n = tt
bound_parts es a k [] (p ∷ ps) n = absurd n
bound_parts es a k (i ∷ is) [] n = absurd n
bound_parts es a k (i ∷ is) (p ∷ ps) n = (bound_part es a k i p n.0, bound_parts es a (suc k) is ps n.1)

value_bound : (es : List Entry) (opt : Bool) (p : Part) (ps : List Part) → AreBound es (parts_of opt p ++ ps) → IsBound es p × AreBound es ps
value_bound es true p ps b = (b.1.0, b.1.1)
value_bound es false p ps b = (b.0, b.1)

values_bound : (es : List Entry) (m : ModelVar) (cs : List VarCell) (ps : List Part) → AreBound es (flat_map (λ c. parts_of m.opt (value_part m c)) cs ++ ps) → AreBound es (value_parts m cs) × AreBound es ps
values_bound es m [] ps b = (tt, b)
values_bound es m (c ∷ cs) ps b =
    let here = value_bound es m.opt (value_part m c) (flat_map (λ c. parts_of m.opt (value_part m c)) cs ++ ps) (subst (AreBound es) (append_assoc (parts_of m.opt (value_part m c)) (flat_map (λ c. parts_of m.opt (value_part m c)) cs) ps) b) in
    let more = values_bound es m cs ps here.1 in
    ((here.0, more.0), more.1)

bound_both : (es : List Entry) (xs ys : List Part) → AreBound es xs → AreBound es ys → AreBound es (xs ++ ys)
bound_both es [] ys a b = b
bound_both es (x ∷ xs) ys a b = (a.0, bound_both es xs ys a.1 b)

all_bound : (es : List Entry) (ms : List ModelVar) → AreBound es (parts ms) → AreBound es (all_value_parts ms)
all_bound es [] b = tt
all_bound es (m ∷ ms) b = let s = values_bound es m m.cells (parts ms) b in bound_both es (value_parts m m.cells) (all_value_parts ms) s.0 (all_bound es ms s.1)

nodes_later : (old new : List Entry) → Grew old new → (k : ℕ) (is : List ℕ) (ps : List Part) → AreNodes old false k is ps → AreNodes new false k is ps
nodes_later old new g k [] [] n = tt
nodes_later old new g k [] (p ∷ ps) n = absurd n
nodes_later old new g k (i ∷ is) [] n = absurd n
nodes_later old new g k (i ∷ is) (p ∷ ps) n = (later_node old new g k i p n.0, nodes_later old new g (suc k) is ps n.1)

truths_roots : (es : List Entry) (is : List ℕ) → AreTruths es is → AreRoots es is
truths_roots es [] h = tt
truths_roots es (i ∷ is) h = (record { place = truth_place es i h.0; truth = h.0 }, truths_roots es is h.1)

module _ (inst : Instance) (table : List Name) (i : IsInstance inst) (named : AreNamed table inst.vars) where
  pub instance_options : AreAllOptions inst.arena inst.vars
  instance_options = all_options_of inst.arena inst.vars 0 i.vars i.nodes i.suited

  pub front_of_instance : (es : List Entry) → Extends inst.arena es → AreFrontOf es table inst.vars
  front_of_instance es x = record {
    vars = i.vars;
    suited = i.suited;
    named = named;
    nodes = nodes_later inst.arena es x.grew 0 (ids inst.vars) (parts inst.vars) i.nodes;
    no_more = λ id e is free l. i.no_more id e (sym (x.grew.same id (x.frees id e is free)) ∙ is) free l;
  }

  pub parts_bound : (es : List Entry) → Extends inst.arena es → IsArena es → AreBound es (all_value_parts inst.vars)
  parts_bound es x a = all_bound es inst.vars (bound_parts es a 0 (ids inst.vars) (parts inst.vars) (nodes_later inst.arena es x.grew 0 (ids inst.vars) (parts inst.vars) i.nodes))

  pub instance_roots : (es : List Entry) → Extends inst.arena es → AreRoots es inst.roots
  instance_roots es x = roots_later inst.arena es inst.roots x.grew (truths_roots inst.arena inst.roots i.roots)

whole_later : (old new : List Entry) (id : ℕ) → Grew old new → IsSome (as_whole (extent old id)) → IsWholeRoot new id
whole_later old new id g h =
    let low = whole_place old id h in
    record { place = omega (arith, low, g.longer); is_whole = subst (λ (x : Known). IsSome (as_whole x)) (sym (g.extents id low)) h }

pub goal_root : (old new : List Entry) (g : InstanceGoal) → Grew old new → IsObjective old g → IsGoalRoot new g
goal_root old new instance_goal.Satisfy x h = tt
goal_root old new (instance_goal.Minimize id) x h = whole_later old new id x h
goal_root old new (instance_goal.Maximize id) x h = whole_later old new id x h

-- ---- the goal

pub aimed_at : (s t : State) (id k : ℕ) → HasObjective s t id k → IsGoalAt s.es t id k
aimed_at s t id k h = record { sort = h.sort; value = h.value }

goal_back : (es fs : List Entry) (t : State) (g : InstanceGoal) (q : FzGoal) → Grew es fs → IsGoalRoot es g → GoalStands fs t g q → GoalStands es t g q
goal_back es fs t instance_goal.Satisfy Satisfy x r h = tt
goal_back es fs t instance_goal.Satisfy (Minimize k) x r h = absurd h
goal_back es fs t instance_goal.Satisfy (Maximize k) x r h = absurd h
goal_back es fs t (instance_goal.Minimize id) Satisfy x r h = absurd h
goal_back es fs t (instance_goal.Minimize id) (Minimize k) x r h = record { sort = h.sort; value = λ v f d m. sym (x.terms v id r.place) ∙ h.value v f d m }
goal_back es fs t (instance_goal.Minimize id) (Maximize k) x r h = absurd h
goal_back es fs t (instance_goal.Maximize id) Satisfy x r h = absurd h
goal_back es fs t (instance_goal.Maximize id) (Minimize k) x r h = absurd h
goal_back es fs t (instance_goal.Maximize id) (Maximize k) x r h = record { sort = h.sort; value = λ v f d m. sym (x.terms v id r.place) ∙ h.value v f d m }

has_on : (es fs : List Entry) (g : InstanceGoal) (v : terms.Values) → Grew es fs → IsGoalRoot es g → HasGoal es g v → HasGoal fs g v
has_on es fs instance_goal.Satisfy v x r h = tt
has_on es fs (instance_goal.Minimize id) v x r h = subst (λ (y : Term). IsSome y) (sym (x.terms v id r.place)) h
has_on es fs (instance_goal.Maximize id) v x r h = subst (λ (y : Term). IsSome y) (sym (x.terms v id r.place)) h

has_back : (es fs : List Entry) (g : InstanceGoal) (v : terms.Values) → Grew es fs → IsGoalRoot es g → HasGoal fs g v → HasGoal es g v
has_back es fs instance_goal.Satisfy v x r h = tt
has_back es fs (instance_goal.Minimize id) v x r h = subst (λ (y : Term). IsSome y) (x.terms v id r.place) h
has_back es fs (instance_goal.Maximize id) v x r h = subst (λ (y : Term). IsSome y) (x.terms v id r.place) h

variable_goal : (vs : List Variable) (k : ℕ) → is_plain vs Int (var k) ≡ true → is_variable_of vs Int k ≡ true
unfolding is_plain
variable_goal vs k h = h

pub goal_is : (es : List Entry) (t : State) (g : InstanceGoal) (q : FzGoal) → GoalStands es t g q → is_goal t.prog.vars q ≡ true
goal_is es t instance_goal.Satisfy Satisfy h = refl
goal_is es t instance_goal.Satisfy (Minimize k) h = absurd h
goal_is es t instance_goal.Satisfy (Maximize k) h = absurd h
goal_is es t (instance_goal.Minimize id) Satisfy h = absurd h
goal_is es t (instance_goal.Minimize id) (Minimize k) h = variable_goal t.prog.vars k h.sort
goal_is es t (instance_goal.Minimize id) (Maximize k) h = absurd h
goal_is es t (instance_goal.Maximize id) Satisfy h = absurd h
goal_is es t (instance_goal.Maximize id) (Minimize k) h = absurd h
goal_is es t (instance_goal.Maximize id) (Maximize k) h = variable_goal t.prog.vars k h.sort

pub satisfied : (s : State) (g : InstanceGoal) → g ≡ instance_goal.Satisfy → IsReadyState s → HasChoices s → IsAimed s s g Satisfy
satisfied s g e r c = subst (λ (h : InstanceGoal). IsAimed s s h Satisfy) (sym e) (record { keeps = keeps_spread s s Always (spreads_same s); ready = r; choices = c; aimed = tt })

pub minimized : (s t : State) (g : InstanceGoal) (id k : ℕ) → g ≡ instance_goal.Minimize id → HasObjective s t id k → IsAimed s t g (Minimize k)
minimized s t g id k e h = subst (λ (g : InstanceGoal). IsAimed s t g (Minimize k)) (sym e) (record { keeps = h.keeps; ready = h.ready; choices = h.choices; aimed = record { sort = h.sort; value = h.value } })

pub maximized : (s t : State) (g : InstanceGoal) (id k : ℕ) → g ≡ instance_goal.Maximize id → HasObjective s t id k → IsAimed s t g (Maximize k)
maximized s t g id k e h = subst (λ (g : InstanceGoal). IsAimed s t g (Maximize k)) (sym e) (record { keeps = h.keeps; ready = h.ready; choices = h.choices; aimed = record { sort = h.sort; value = h.value } })

pub least_root : (es : List Entry) (g : InstanceGoal) (id : ℕ) → g ≡ instance_goal.Minimize id → IsGoalRoot es g → IsWholeRoot es id
least_root es g id e h = subst (IsGoalRoot es) e h

pub greatest_root : (es : List Entry) (g : InstanceGoal) (id : ℕ) → g ≡ instance_goal.Maximize id → IsGoalRoot es g → IsWholeRoot es id
greatest_root es g id e h = subst (IsGoalRoot es) e h

-- ---- all steps

module _ (inst : Instance) (table : List Name) (b s t1 t2 t3 t4 : State) (ds : List ℕ) (goal : FzGoal) (i : IsInstance inst) (absent : AddsCellRoots inst.arena s.es (all_cells inst.vars) [] ds) (front : IsFronted b s table inst.vars) (cleared : AreCleared s t1 (all_value_parts inst.vars)) (first : Leads t1 t2 (AllTrue t1.es ds)) (second : Leads t2 t3 (AllTrue t2.es inst.roots)) (aim : IsAimed t3 t4 inst.goal goal) where
  x1 : Extends s.es t1.es
  x1 = cleared.leads.keeps.extends

  x2 : Extends s.es t2.es
  x2 = extends_both s.es t1.es t2.es x1 first.keeps.extends

  x3 : Extends s.es t3.es
  x3 = extends_both s.es t2.es t3.es x2 second.keeps.extends

  roots_s : AreRoots s.es inst.roots
  roots_s = roots_later inst.arena s.es inst.roots absent.extends.grew (truths_roots inst.arena inst.roots i.roots)

  goal_s : IsGoalRoot s.es inst.goal
  goal_s = goal_root inst.arena s.es inst.goal absent.extends.grew i.goal

  ds_is : absent.added ≡ ds
  ds_is = sym absent.items

  defaults_s : AreDefaultRoots s.es inst.vars ds
  defaults_s = subst (AreDefaultRoots s.es inst.vars) ds_is (default_roots s.es inst.vars absent.added absent.roots)

  abbrev All : terms.Values → Type 0
  All v = ((Always v × AllTrue t1.es ds v) × AllTrue t2.es inst.roots v) × HasGoal t3.es inst.goal v

  all : Keeps s t4 All
  all =
      keeps_twice s t3 t4 (λ v. (Always v × AllTrue t1.es ds v) × AllTrue t2.es inst.roots v) (HasGoal t3.es inst.goal)
      (keeps_twice s t2 t3 (λ v. Always v × AllTrue t1.es ds v) (AllTrue t2.es inst.roots)
      (keeps_twice s t1 t2 Always (AllTrue t1.es ds) cleared.leads.keeps first.keeps) second.keeps)
      aim.keeps

  keeps : Keeps s t4 (IsHeld s.es ds inst.roots inst.goal)
  keeps = keeps_where s t4 All (IsHeld s.es ds inst.roots inst.goal) all
      (λ v d h. record {
        absent = true_back s.es t1.es ds v x1.grew defaults_s.each h.0.0.1;
        held = true_back s.es t2.es inst.roots v x2.grew roots_s h.0.1;
        aimed = has_back s.es t3.es inst.goal v x3.grew goal_s h.1;
      })
      (λ v d h. (((tt, true_on s.es t1.es ds v x1.grew defaults_s.each h.absent), true_on s.es t2.es inst.roots v x2.grew roots_s h.held), has_on s.es t3.es inst.goal v x3.grew goal_s h.aimed))

  some : (f : Values) → FlatSolves t4.prog f → HaveSome inst.vars
  some f h =
      let m4 = meets_read t4 aim.ready.state f h in
      let v = read_values t4 f in
      let m3 = aim.keeps.down v f m4 in
      let m2 = second.keeps.down v (take (length t3.prog.vars) f) m3 in
      let m1 = first.keeps.down v (take (length t2.prog.vars) (take (length t3.prog.vars) f)) m2 in
      all_some inst.vars (cleared.some (take (length t1.prog.vars) (take (length t2.prog.vars) (take (length t3.prog.vars) f))) m1.solves)

  pub flattened : IsFlattened inst table b s t4 ds goal
  flattened = record {
    extends = absent.extends;
    front = front;
    absent = defaults_s;
    keeps = keeps;
    ready = aim.ready;
    choices = aim.choices;
    some = some;
    aimed = goal_back s.es t3.es t4 inst.goal goal x3.grew goal_s aim.aimed;
  }

-- ---- what each step asks

module _ (inst : Instance) (table : List Name) (i : IsInstance inst) (named : AreNamed table inst.vars) where
  pub may_front : (s : State) (es : List Entry) → s ≡ begun es → IsState s → Extends inst.arena es → MayHaveFront s table inst.vars
  may_front s es e g x = record {
    begins = e ∙ ap begun (sym (ap (λ (z : State). z.es) e));
    state = g;
    front = subst (λ fs. AreFrontOf fs table inst.vars) (sym (ap (λ (z : State). z.es) e)) (front_of_instance inst table i named es x);
  }

  pub may_clear : (b s : State) → Extends inst.arena b.es → IsFronted b s table inst.vars → AreBound s.es (all_value_parts inst.vars)
  may_clear b s x f = parts_bound inst table i named s.es (subst (Extends inst.arena) (sym f.same) x) f.state.arena

  pub first_ready : (b s : State) → IsFronted b s table inst.vars → IsReadyState s
  first_ready b s f = record { state = f.state; front = f.front }

pub no_parts : (es : List Entry) (memo : List MemoPart) → memo ≡ [] → MemoParts es memo
no_parts es memo e = subst (MemoParts es) (sym e) (λ i p h. nothing i p h)
  where
    nothing : {A : Type 0} (i : ℕ) (p : MemoPart) → slice_get [] i ≡ Some p → A
    nothing i p h = absurd (cc)

pub default_each : (old s t : List Entry) (ms : List ModelVar) (ds : List ℕ) → AddsCellRoots old s (all_cells ms) [] ds → Extends s t → AreRoots t ds
default_each old s t ms ds a x = roots_later s t ds x.grew (subst (AreRoots s) (sym a.items) a.roots.each)

-- ---- the same of lists that the code has

module _ (inst : Instance) (table : List Name) (i : IsInstance inst) (named : AreNamed table inst.vars) (vs : List ModelVar) (e : vs ≡ inst.vars) where
  pub listed_options : AreAllOptions inst.arena vs
  listed_options = subst (AreAllOptions inst.arena) (sym e) (instance_options inst table i named)

  module _ (es : List Entry) (before ds : List ℕ) (n : before ≡ []) (a : AddsCellRoots inst.arena es (all_cells vs) before ds) where
    pub listed_absent : AddsCellRoots inst.arena es (all_cells inst.vars) [] ds
    listed_absent = subst₂ (λ ms xs. AddsCellRoots inst.arena es (all_cells ms) xs ds) e n a

    module _ (s : State) (b : s ≡ begun es) (g : IsState s) where
      pub listed_front : MayHaveFront s table vs
      listed_front = subst (MayHaveFront s table) (sym e) (may_front inst table i named s es b g a.extends)

      begun_es : s.es ≡ es
      begun_es = ap (λ (z : State). z.es) b

      absent_s : AddsCellRoots inst.arena s.es (all_cells inst.vars) [] ds
      absent_s = subst (λ fs. AddsCellRoots inst.arena fs (all_cells inst.vars) [] ds) (sym begun_es) listed_absent

      module _ (t0 : State) (f : IsFronted s t0 table vs) where
        fronted_t : IsFronted s t0 table inst.vars
        fronted_t = subst (IsFronted s t0 table) e f

        pub listed_ready : IsReadyState t0
        listed_ready = first_ready inst table i named s t0 fronted_t

        pub listed_bound : AreBound t0.es (all_value_parts vs)
        listed_bound = subst (λ ms. AreBound t0.es (all_value_parts ms)) (sym e) (may_clear inst table i named s t0 absent_s.extends fronted_t)

        absent_t : AddsCellRoots inst.arena t0.es (all_cells inst.vars) [] ds
        absent_t = subst (λ fs. AddsCellRoots inst.arena fs (all_cells inst.vars) [] ds) (sym f.same) absent_s

        module _ (t1 : State) (c : AreCleared t0 t1 (all_value_parts vs)) where
          cleared_t : AreCleared t0 t1 (all_value_parts inst.vars)
          cleared_t = subst (λ ms. AreCleared t0 t1 (all_value_parts ms)) e c

          pub listed_defaults : AreRoots t1.es ds
          listed_defaults = default_each inst.arena t0.es t1.es inst.vars ds absent_t c.leads.keeps.extends

          module _ (t2 : State) (x : Leads t1 t2 (AllTrue t1.es ds)) where
            extends_2 : Extends inst.arena t2.es
            extends_2 = extends_both inst.arena t0.es t2.es absent_t.extends (extends_both t0.es t1.es t2.es c.leads.keeps.extends x.keeps.extends)

            pub listed_roots : AreRoots t2.es inst.roots
            listed_roots = instance_roots inst table i named t2.es extends_2

            module _ (t3 : State) (y : Leads t2 t3 (AllTrue t2.es inst.roots)) where
              pub listed_goal : IsGoalRoot t3.es inst.goal
              listed_goal = goal_root inst.arena t3.es inst.goal (extends_both inst.arena t2.es t3.es extends_2 y.keeps.extends).grew i.goal

              module _ (t4 : State) (q : FzGoal) (z : IsAimed t3 t4 inst.goal q) where
                pub listed_is_goal : is_goal t4.prog.vars q ≡ true
                listed_is_goal = goal_is t3.es t4 inst.goal q z.aimed

                pub listed_faithful : (p : Program) → p ≡ with_goal t4.prog q → WellFormed p → Faithful inst table p
                listed_faithful p k w =
                    subst (Faithful inst table) (sym k)
                    (faithful inst table s t0 t4 ds q i (flattened inst table s t0 t1 t2 t3 t4 ds q i absent_t fronted_t cleared_t x y z) (subst WellFormed k w))
