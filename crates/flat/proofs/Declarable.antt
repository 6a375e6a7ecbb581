-- The variables of a front may be declared one after the other.
use Rattle.std.proofs.Common.{◌≡◌, ◌≢◌, ◌⊎◌, ℕ, zero, suc, ◌+◌, ◌<◌, ◌≤◌, ◌^◌, ℤ, pos, List, [], ◌∷◌, ◌++◌, length, map, slice_get, Bool, true, false, not, Option, Some, None, is_none, is_some, Contains, append-nil, append_assoc, subst₂, inl, inr, refl, sym, ap, ap₂, subst, ◌∙◌, arith, rules, if◌then◌else◌}
use Rattle.std.specs.List.{AllByRecursion, flat_map}
use Rattle.std.proofs.lemmas.List.{map-append}
use Rattle.std.proofs.lemmas.Bool.Decides.{nat_tests}
use Rattle.mz_base.specs.Names.{text_of}
use Rattle.mz_base.specs.Words.{is_identifier}
use Rattle.mz_value.specs.Ranges.{Range, AreCanonical, AreInLimit}
use Rattle.mz_operations.specs.Sets.{is_empty_set}
use Rattle.mz_arena.specs.declared.node.NodeKind.{NodeKind}
use Rattle.mz_arena.specs.declared.node.NodeKind.TheVariants as kinds
use Rattle.mz_arena.specs.Entries.{Entry, at, is_free, is_local}
use Rattle.mz_arena.specs.FreeNodes.{is_set_kind}
use Rattle.mz_arena.specs.Instances.{VarCell, ModelVar}
use Rattle.mz_instance.specs.Parts.{Sort, Whole, Truth, Subset, Part, is_subset_sort, truth_mark, occurrence, value_part, parts_of, var_parts, parts, after_occurrence, cell_ids, var_ids, ids, IsNode, AreNodes}
use Rattle.mz_instance.specs.Instance.{IsModelVar, AreModelVars, AreOccurring, IsPart, AreParts}
use Rattle.fz_program.specs.Names.{Name}
use Rattle.fz_program.specs.declared.program.Domain.{Domain}
use Rattle.fz_program.specs.declared.program.Domain.TheVariants.{Bool as Truths, Ints, SetOf}
use Rattle.fz_program.specs.Arguments.{Plain, var}
use Rattle.fz_program.specs.Flat.{Variable, Program, AreDistinct, labels, labels_of, array_labels, IsWellFormedVariable, HasMarks, IsSome, IsOfSet, IsSet}
use Rattle.fz_build.specs.Build.{MayDeclare}
use Rattle.fz_build.specs.Naming.{IsNamed, next_number}
use Rattle.flat_meaning.specs.Front.{written_set, domain_by, front_variable, occurrence_label, value_label, cell_variables, variables_from, front_variables, front_arrays}
use Rattle.flat_reif.specs.States.{State, put_at, written, free_domain}
use Rattle.flat_reif.specs.Lists.{is_front}
use Rattle.flat_reif.specs.Roots.{MayStand, begun}
use Rattle.flat_reif.proofs.Puts.{put_here, put_keeps, put_was, IsPut}
use Rattle.flat.specs.Declaring.{declared, all_declared, MayDeclareAll}
use Rattle.flat.specs.Fronts.{AreFrontOf}
use Rattle.flat.proofs.Tags.{is_name, not_introduced}
use Rattle.flat.proofs.Labels.{AreSmall, IsFrontLabel, all_distinct, variable_labels}

-- ---- the domain of a node

some_range : (r : Range) (rs : List Range) → is_empty_set (r ∷ rs) ≡ false
some_range r rs = grind (arith, nat_tests)

pub written_same : (u : List Range) → written_set u ≡ written u
written_same [] = refl
written_same (r ∷ rs) = ap (λ b. if b then (pos 0, pos 0) ∷ [] else r ∷ rs) (some_range r rs)

-- a variable whose values are numbers, or sets
number_kind : (k : NodeKind) (mark : ℕ) (u : List Range) → is_free k ≡ true → is_local k ≡ false → is_set_kind k ≡ false → free_domain k mark u ≡ free_domain kinds.Var mark u
number_kind kinds.Var mark u f l s = refl
number_kind kinds.SetVar mark u f l s = absurd (cc)
number_kind kinds.Local mark u f l s = absurd (cc)
number_kind kinds.SetLocal mark u f l s = absurd (cc)
number_kind _ mark u f l s = absurd (cc)

set_kind : (k : NodeKind) (mark : ℕ) (u : List Range) → is_free k ≡ true → is_local k ≡ false → is_set_kind k ≡ true → free_domain k mark u ≡ SetOf u
set_kind kinds.SetVar mark u f l s = refl
set_kind kinds.Var mark u f l s = absurd (cc)
set_kind kinds.Local mark u f l s = absurd (cc)
set_kind kinds.SetLocal mark u f l s = absurd (cc)
set_kind _ mark u f l s = absurd (cc)

front_kind : (k : NodeKind) → is_free k ≡ true → is_local k ≡ false → is_front k ≡ true
front_kind kinds.Var f l = refl
front_kind kinds.SetVar f l = refl
front_kind kinds.Local f l = absurd (cc)
front_kind kinds.SetLocal f l = absurd (cc)
front_kind _ f l = absurd (cc)

domain_is : (sort : Sort) (k : NodeKind) (mark : ℕ) (u : List Range) → is_free k ≡ true → is_local k ≡ false → is_set_kind k ≡ is_subset_sort sort → (sort ≢ Subset → mark ≡ truth_mark sort) → domain_by sort u ≡ free_domain k mark u
domain_is Whole k mark u f l s m = ap Ints (written_same u) ∙ ap (λ n. free_domain kinds.Var n u) (sym (m (λ e. cc))) ∙ sym (number_kind k mark u f l s)
domain_is Truth k mark u f l s m = ap (λ n. free_domain kinds.Var n u) (sym (m (λ e. cc))) ∙ sym (number_kind k mark u f l s)
domain_is Subset k mark u f l s m = sym (set_kind k mark u f l s)

-- ---- well-formed variables

written_some : (u : List Range) → written_set u ≢ []
written_some u = subst (λ w. w ≢ []) (sym (written_same u)) (by u)
  where
    by : (u : List Range) → written u ≢ []
    by [] e = cc
    by (r ∷ rs) e = cc

zero_is_set : IsSet ((pos 0, pos 0) ∷ [])
zero_is_set = search rules

written_is_set : (u : List Range) → AreCanonical u → AreInLimit u → IsSet (written_set u)
written_is_set u c l = subst IsSet (sym (written_same u)) (by u c l)
  where
    by : (u : List Range) → AreCanonical u → AreInLimit u → IsSet (written u)
    by [] c l = zero_is_set
    by (r ∷ rs) c l = (c, l)

domain_some : (sort : Sort) (u : List Range) → IsSome (domain_by sort u)
domain_some Whole u = written_some u
domain_some Truth u = tt
domain_some Subset u = tt

domain_set : (sort : Sort) (u : List Range) → AreCanonical u → AreInLimit u → IsOfSet (domain_by sort u)
domain_set Whole u c l = written_is_set u c l
domain_set Truth u c l = tt
domain_set Subset u c l = (c, l)

marks : (scalar : Bool) (x : Name) (p : Part) → HasMarks (front_variable scalar x p)
marks scalar x p = (λ h. (refl, refl), λ h. cc)

formed : (scalar : Bool) (x : Name) (p : Part) → IsPart p → IsFrontLabel x → IsWellFormedVariable (front_variable scalar x p)
formed scalar x p h l = record {
  label = subst (λ y. is_identifier y ≡ true) (sym l.is) (is_name l.tag l.name l.small l.own_);
  marks = marks scalar x p;
  some = domain_some p.sort p.set;
  of_set = domain_set p.sort p.set h.canonical h.limited;
}

-- ---- one part

-- a variable that may be declared for a node, but for the names and arguments that there are
pub record IsFrontNode (es : List Entry) (k i : ℕ) (v : Variable) : Type 0 where
  entry : Entry
  is : slice_get es i ≡ Some entry
  number : entry.node.b ≡ k
  front : is_front entry.node.kind ≡ true
  const : Entry
  over : slice_get es entry.node.a ≡ Some const
  domain : v.domain ≡ free_domain entry.node.kind entry.node.c const.set
  formed : IsFrontLabel v.label → IsWellFormedVariable v
  introduced : v.introduced ≡ false

abbrev pub AreFrontNodes : List Entry → ℕ → List ℕ → List Variable → Type 0
AreFrontNodes es k [] [] = Unit {0}
AreFrontNodes es k [] (v ∷ vs) = ⊥
AreFrontNodes es k (i ∷ is) [] = ⊥
AreFrontNodes es k (i ∷ is) (v ∷ vs) = IsFrontNode es k i v × AreFrontNodes es (suc k) is vs

front_node : (es : List Entry) (k i : ℕ) (scalar : Bool) (x : Name) (p : Part) → IsNode es false k p i → IsPart p → IsFrontNode es k i (front_variable scalar x p)
front_node es k i scalar x p n h = record {
  entry = n.there;
  is = n.stands;
  number = n.number;
  front = front_kind n.there.node.kind n.free n.local;
  const = n.over;
  over = n.domain;
  domain = ap (domain_by p.sort) (sym n.set) ∙ domain_is p.sort n.there.node.kind n.there.node.c n.over.set n.free n.local n.sort n.mark;
  formed = λ l. formed scalar x p h l;
  introduced = refl;
}

-- ---- all parts, variable by variable

nodes_of_cell : (es : List Entry) (scalar opt : Bool) (k j : ℕ) (x : Name) (p : Part) (occurs : Option ℕ) (i : ℕ) (is : List ℕ) (vs : List Variable) (ps : List Part) → is_some occurs ≡ opt → AreNodes es false k (after_occurrence occurs i ++ is) (parts_of opt p ++ ps) → AreParts (parts_of opt p ++ ps) → ((l : ℕ) → AreNodes es false l is ps → AreParts ps → AreFrontNodes es l is vs) → AreFrontNodes es k (after_occurrence occurs i ++ is) (cell_variables scalar opt j x p ++ vs)
nodes_of_cell es scalar true k j x p (Some o) i is vs ps e n h go =
    (front_node es k o scalar (occurrence_label scalar j x) occurrence n.0 h.0, (front_node es (suc k) i scalar (value_label scalar true j x) p n.1.0 h.1.0, go (suc (suc k)) n.1.1 h.1.1))
nodes_of_cell es scalar true k j x p None i is vs ps e n h go = absurd (cc)
nodes_of_cell es scalar false k j x p (Some o) i is vs ps e n h go = absurd (cc)
nodes_of_cell es scalar false k j x p None i is vs ps e n h go =
    (front_node es k i scalar (value_label scalar false j x) p n.0 h.0, go (suc k) n.1 h.1)

nodes_of_cells : (es : List Entry) (m : ModelVar) (x : Name) (cs : List VarCell) (j k : ℕ) (is : List ℕ) (vs : List Variable) (ps : List Part) → AreOccurring m.opt cs → AreNodes es false k (flat_map cell_ids cs ++ is) (flat_map (λ c. parts_of m.opt (value_part m c)) cs ++ ps) → AreParts (flat_map (λ c. parts_of m.opt (value_part m c)) cs ++ ps) → ((l : ℕ) → AreNodes es false l is ps → AreParts ps → AreFrontNodes es l is vs) → AreFrontNodes es k (flat_map cell_ids cs ++ is) (variables_from m j x cs ++ vs)
nodes_of_cells es m x [] j k is vs ps o n h go = go k n h
nodes_of_cells es m x (c ∷ cs) j k is vs ps o n h go =
    let parts_in : VarCell → List Part = λ c. parts_of m.opt (value_part m c) in
    let same_ids = append_assoc (cell_ids c) (flat_map cell_ids cs) is in
    let same_parts = append_assoc (parts_in c) (flat_map parts_in cs) ps in
    let here = cell_variables (is_none m.index) m.opt j x (value_part m c) in
    subst₂ (AreFrontNodes es k) (sym same_ids) (sym (append_assoc here (variables_from m (suc j) x cs) vs))
    (nodes_of_cell es (is_none m.index) m.opt k j x (value_part m c) c.occurs c.term (flat_map cell_ids cs ++ is) (variables_from m (suc j) x cs ++ vs) (flat_map parts_in cs ++ ps) o.0 (subst₂ (AreNodes es false k) same_ids same_parts n) (subst AreParts same_parts h)
    (λ l n h. nodes_of_cells es m x cs (suc j) l is vs ps o.1 n h go))

front_nodes : (es : List Entry) (table : List Name) (ms : List ModelVar) (k : ℕ) → AreModelVars ms → AreNodes es false k (ids ms) (parts ms) → AreParts (parts ms) → AreFrontNodes es k (ids ms) (front_variables table ms)
front_nodes es table [] k sound n h = tt
front_nodes es table (m ∷ ms) k sound n h = nodes_of_cells es m (text_of table m.name) m.cells 1 k (ids ms) (front_variables table ms) (parts ms) sound.0.cells n h (λ l n h. front_nodes es table ms l sound.1 n h)

-- ---- the variables, one after the other

pub record IsNumberedBelow (es : List Entry) (k i : ℕ) : Type 0 where
  entry : Entry
  is : slice_get es i ≡ Some entry
  below : entry.node.b < k

-- a state with variables for the first parts alone
pub record IsReady (s : State) (k : ℕ) : Type 0 where
  count : length s.prog.vars ≡ k
  arrays : s.prog.arrays ≡ []
  below : (i : ℕ) (p : Plain) → at s.args i ≡ Some p → IsNumberedBelow s.es k i

pub begun_ready : (es : List Entry) → IsReady (begun es) 0
begun_ready es = record { count = refl; arrays = refl; below = λ i p h. absurd (cc) }

length_push : {X : Type 0} (xs : List X) (x : X) → length (xs ++ x ∷ []) ≡ suc (length xs)
length_push [] x = refl
length_push (y ∷ xs) x = ap suc (length_push xs x)

same_number : (a b : Entry) (o : Option Entry) → o ≡ Some a → o ≡ Some b → a.node.b ≡ b.node.b
same_number a b o h k = cc

module _ (s : State) (k i : ℕ) (v : Variable) (r : IsReady s k) (n : IsFrontNode s.es k i v) where
  nothing : at s.args i ≡ None
  nothing = by (at s.args i) refl
    where
      by : (o : Option Plain) → at s.args i ≡ o → o ≡ None
      by None e = refl
      by (Some p) e = let b = r.below i p e in absurd (omega (arith, b.below, n.number, same_number b.entry n.entry (slice_get s.es i) b.is n.is))

  stands : MayStand s i v.domain
  stands = record { entry = n.entry; is = n.is; front = n.front; const = n.const; over = n.over; written = n.domain; none = nothing }

  next_ready : IsReady (declared s i v) (suc k)
  next_ready = record {
    count = length_push s.prog.vars v ∙ ap suc r.count;
    arrays = r.arrays;
    below = λ j q h. elim (put_was s.args i (var (length s.prog.vars)) j q h) [ inl o ↦ wider (r.below j q o) | inr p ↦ here p ];
  }
    where
      wider : {j : ℕ} → IsNumberedBelow s.es k j → IsNumberedBelow s.es (suc k) j
      wider b = record { entry = b.entry; is = b.is; below = omega (arith, b.below) }

      here : {j : ℕ} {q : Plain} → IsPut i (var (length s.prog.vars)) j q → IsNumberedBelow s.es (suc k) j
      here p = record { entry = n.entry; is = ap (slice_get s.es) p.place ∙ n.is; below = omega (arith, n.number) }

pub distinct_new : (xs : List Name) (x : Name) (ys : List Name) → AreDistinct (xs ++ x ∷ ys) → Contains xs x → ⊥
distinct_new [] x ys d c = omega (arith, c.1)
distinct_new (z ∷ xs) x ys d (zero, below, at) = d.0 (subst (Contains (xs ++ x ∷ ys)) (sym at) (there xs))
  where
    there : (xs : List Name) → Contains (xs ++ x ∷ ys) x
    there [] = (0, omega arith, refl)
    there (w ∷ ws) = let h = there ws in (suc h.0, omega (arith, h.1), h.2)
distinct_new (z ∷ xs) x ys d (suc k, below, at) = distinct_new xs x ys d.1 (k, omega (arith, below), at)

new_label : (p : Program) (v : Variable) (vs : List Variable) → p.arrays ≡ [] → AreDistinct (labels_of (p.vars ++ v ∷ vs)) → Contains (labels p) v.label → ⊥
new_label p v vs none d c =
    distinct_new (labels_of p.vars) v.label (labels_of vs) (subst AreDistinct (map-append (λ (w : Variable). w.label) p.vars (v ∷ vs)) d)
    (subst (λ ls. Contains ls v.label) (ap (λ items. labels_of p.vars ++ array_labels items) none ∙ append-nil (labels_of p.vars)) c)

may_declare : (p : Program) (v : Variable) (vs : List Variable) → p.arrays ≡ [] → AreDistinct (labels_of (p.vars ++ v ∷ vs)) → IsFrontLabel v.label → IsWellFormedVariable v → v.introduced ≡ false → MayDeclare p v
may_declare p v vs none d l formed introduced = record {
  variable = formed;
  new = new_label p v vs none d;
  named = subst (λ b. IsNamed b (next_number p.vars) v.label) (sym introduced) (λ k e. not_introduced l.tag l.name l.own_ k (sym l.is ∙ e));
}

may_all : (s : State) (k : ℕ) (is : List ℕ) (vs : List Variable) → IsReady s k → AreFrontNodes s.es k is vs → AllByRecursion IsFrontLabel (labels_of vs) → AreDistinct (labels_of (s.prog.vars ++ vs)) → MayDeclareAll s is vs
may_all s k [] [] r n l d = tt
may_all s k [] (v ∷ vs) r n l d = absurd n
may_all s k (i ∷ is) [] r n l d = absurd n
may_all s k (i ∷ is) (v ∷ vs) r n l d = (
  may_declare s.prog v vs r.arrays d l.0 (n.0.formed l.0) n.0.introduced,
  stands s k i v r n.0,
  may_all (declared s i v) (suc k) is vs (next_ready s k i v r n.0) n.1 l.1 (subst (λ ws. AreDistinct (labels_of ws)) (sym (append_assoc s.prog.vars (v ∷ []) vs)) d),
)

distinct_first : (xs ys : List Name) → AreDistinct (xs ++ ys) → AreDistinct xs
distinct_first [] ys d = tt
distinct_first (x ∷ xs) ys d = (λ c. d.0 (more xs c), distinct_first xs ys d.1)
  where
    more : (xs : List Name) → Contains xs x → Contains (xs ++ ys) x
    more [] (k, below, at) = absurd (omega (arith, below))
    more (z ∷ xs) (zero, below, at) = (0, omega arith, at)
    more (z ∷ xs) (suc k, below, at) = let h = more xs (k, omega (arith, below), at) in (suc h.0, omega (arith, h.1), h.2)

module _ (es : List Entry) (table : List Name) (ms : List ModelVar) (h : AreFrontOf es table ms) where
  pub nodes : AreFrontNodes es 0 (ids ms) (front_variables table ms)
  nodes = front_nodes es table ms 0 h.vars h.nodes h.suited

  -- ALL VARIABLES of a front may be declared
  pub front_may : AreSmall ms → MayDeclareAll (begun es) (ids ms) (front_variables table ms)
  front_may small =
      may_all (begun es) 0 (ids ms) (front_variables table ms) (begun_ready es) nodes (variable_labels table ms small h.named.names)
      (distinct_first (labels_of (front_variables table ms)) (array_labels (front_arrays table 0 ms)) (all_distinct table ms h.vars small h.named))

-- ---- and what there is then

abbrev pub with_vars : Program → List Variable → Program
with_vars p vs = record { vars = p.vars ++ vs; arrays = p.arrays; rows = p.rows; goal = p.goal }

abbrev with_own : Program → List Variable → Program
with_own p ws = record { vars = ws; arrays = p.arrays; rows = p.rows; goal = p.goal }

pub declared_prog : (s : State) (k : ℕ) (is : List ℕ) (vs : List Variable) → AreFrontNodes s.es k is vs → (all_declared s is vs).prog ≡ with_vars s.prog vs
declared_prog s k [] [] n = ap (with_own s.prog) (sym (append-nil s.prog.vars))
declared_prog s k [] (v ∷ vs) n = absurd n
declared_prog s k (i ∷ is) [] n = absurd n
declared_prog s k (i ∷ is) (v ∷ vs) n = declared_prog (declared s i v) (suc k) is vs n.1 ∙ ap (with_own s.prog) (append_assoc s.prog.vars (v ∷ []) vs)

pub declared_es : (s : State) (is : List ℕ) (vs : List Variable) → (all_declared s is vs).es ≡ s.es
declared_es s [] vs = refl
declared_es s (i ∷ is) [] = refl
declared_es s (i ∷ is) (v ∷ vs) = declared_es (declared s i v) is vs

declared_keeps : (s : State) (k : ℕ) (is : List ℕ) (vs : List Variable) → IsReady s k → AreFrontNodes s.es k is vs → (j : ℕ) (q : Plain) → at s.args j ≡ Some q → at (all_declared s is vs).args j ≡ Some q
declared_keeps s k [] vs r n j q h = h
declared_keeps s k (i ∷ is) [] r n j q h = h
declared_keeps s k (i ∷ is) (v ∷ vs) r n j q h = declared_keeps (declared s i v) (suc k) is vs (next_ready s k i v r n.0) n.1 j q (put_keeps s.args i (var (length s.prog.vars)) j q (nothing s k i v r n.0) h)

pub declared_has : (s : State) (k : ℕ) (is : List ℕ) (vs : List Variable) → IsReady s k → AreFrontNodes s.es k is vs → (n i : ℕ) → slice_get is n ≡ Some i → at (all_declared s is vs).args i ≡ Some (var (k + n))
declared_has s k [] vs r f n i h = absurd (cc)
declared_has s k (j ∷ is) [] r f n i h = absurd f
declared_has s k (j ∷ is) (v ∷ vs) r f zero i h =
    let e : j ≡ i = cc in
    subst (λ i. at (all_declared (declared s j v) is vs).args i ≡ Some (var (k + 0))) e
    (declared_keeps (declared s j v) (suc k) is vs (next_ready s k j v r f.0) f.1 j (var (k + 0)) (put_here s.args j (var (length s.prog.vars)) ∙ ap (λ m. Some (var m)) (r.count ∙ omega arith)))
declared_has s k (j ∷ is) (v ∷ vs) r f (suc n) i h = declared_has (declared s j v) (suc k) is vs (next_ready s k j v r f.0) f.1 n i h ∙ ap (λ m. Some (var m)) (omega arith)

pub record IsAmong (is : List ℕ) (k j : ℕ) (q : Plain) : Type 0 where
  pub number : ℕ
  pub part : slice_get is number ≡ Some j
  pub is_ : q ≡ var (k + number)

among_next : (is : List ℕ) (i k j : ℕ) (q : Plain) → IsAmong is (suc k) j q → IsAmong (i ∷ is) k j q
among_next is i k j q a = record { number = suc a.number; part = a.part; is_ = a.is_ ∙ ap var (omega arith) }

pub declared_only : (s : State) (k : ℕ) (is : List ℕ) (vs : List Variable) → IsReady s k → AreFrontNodes s.es k is vs → (j : ℕ) (q : Plain) → at (all_declared s is vs).args j ≡ Some q → (at s.args j ≡ Some q) ⊎ IsAmong is k j q
declared_only s k [] vs r f j q h = inl h
declared_only s k (i ∷ is) [] r f j q h = absurd f
declared_only s k (i ∷ is) (v ∷ vs) r f j q h = elim (declared_only (declared s i v) (suc k) is vs (next_ready s k i v r f.0) f.1 j q h) [
  | inl o ↦ elim (put_was s.args i (var (length s.prog.vars)) j q o) [ inl p ↦ inl p | inr p ↦ inr (record { number = 0; part = ap Some (sym p.place); is_ = sym p.same ∙ ap var (r.count ∙ omega arith) }) ]
  | inr a ↦ inr (among_next is i k j q a)
]
