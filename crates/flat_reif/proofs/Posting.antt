-- Rows that keep the solutions in which a node is true.
use Rattle.std.proofs.Common.{◌≡◌, ℕ, ◌<◌, ℤ, pos, true, false, List, [], ◌∷◌, length, take, Option, Some, None, IsSome, slice_get, refl, sym, ap, subst, ◌∙◌, arith}
use Rattle.std.specs.Prelude.{Result, Ok, Err, OnOk}
use Rattle.std.specs.Ordering.{int_eq}
use Rattle.std.proofs.lemmas.Int.{ints}
use Rattle.mz_arena.specs.declared.node.Node.{Node}
use Rattle.mz_arena.specs.declared.node.NodeKind.{NodeKind}
use Rattle.mz_arena.specs.declared.node.NodeKind.TheVariants as kinds
use Rattle.mz_arena.specs.Entries.{AllBelow, Entry, at, arity, children, is_free}
use Rattle.mz_arena.specs.Values as terms
use Rattle.mz_arena.specs.Values.{is_true}
use Rattle.mz_arena.specs.Terms.{term}
use Rattle.mz_arena.specs.Extents.{Known, extent, extents, node_extent}
use Rattle.mz_arena.specs.Arenas.{IsArena, Extends}
use Rattle.mz_arena.specs.InBounds.{AreInDomains}
use Rattle.mz_arena.proofs.Folds.{get-below, get-length, at-past}
use Rattle.fz_program.specs.declared.row_name.RowName.{RowName}
use Rattle.fz_program.specs.declared.row_name.Kind.TheVariants.{Bool as Truth}
use Rattle.fz_program.specs.Arguments.{Plain}
use Rattle.fz_program.specs.Values as values
use Rattle.fz_program.specs.Values.{Value, Values}
use Rattle.fz_program.specs.Flat.{Variable, Program, FlatSolves, is_plain, plain_value}
use Rattle.fz_build.specs.Build.{IsOver}
use Rattle.fz_build.proofs.Values.{domains_length}
use Rattle.flat_reif_rows.specs.Standing.{seen, Suits, term_over}
use Rattle.flat_reif_rows.specs.Making.{AreOperands, GoesOnMade}
use Rattle.flat_reif_rows.specs.RootRows.{test_of, Tests, IsForced, IsEmptied}
use Rattle.flat_reif_rows.specs.Laws.{is_own}
use Rattle.flat_reif_rows.proofs.Sorts.{truth_of}
use Rattle.flat_reif.specs.States.{State, given_choices, Meets, IsState}
use Rattle.flat_reif.specs.Lists.{IsNode, HasArg}
use Rattle.flat_reif.specs.Roots.{Posted, IsTrueAt, Never, IsTruthNode, HasTest, Grown}
use Rattle.flat_reif.proofs.Steps.{same_entry}
use Rattle.flat_reif.proofs.Longer.{nothing_more, whole_taken}
use Rattle.flat_reif.proofs.Nodes.{AllHave, term_told}
use Rattle.flat_reif.proofs.Given.{operands_at}

-- ---- the same variables, and fewer solutions

module _ (s : State) (q : Program) (g : IsState s) (same : q.vars ≡ s.prog.vars) (down : (f : Values) → FlatSolves q f → FlatSolves s.prog f) where
  abbrev t : State
  t = record { es = s.es; prog = q; args = s.args }

  abbrev n : ℕ
  n = length s.prog.vars

  before : (v : terms.Values) (f : Values) → Meets t v f → Meets s v f
  before v f m = record { solves = down f m.solves; linked = m.linked }

  whole : (v : terms.Values) (f : Values) → Meets t v f → take n f ≡ f
  whole v f m = whole_taken f n (domains_length s.prog.vars f (before v f m).solves.domains)

  as_long : length q.vars ≡ n
  as_long = ap length same

  pub posted_state : IsState t
  posted_state = record {
    arena = g.arena;
    places = λ id p l. subst (λ m. IsOver m p) (sym as_long) (g.places id p l);
    suits = λ id p l. subst (λ vs. Suits vs p (extent s.es id)) (sym same) (g.suits id p l);
    ranged = λ v f m id e d p k free a l. g.ranged v f (before v f m) id e d p k free a l;
    right = λ v f d m id p l. g.right v f d (before v f m) id p l;
  }

  pub rows_posted : GoesOnMade s.prog q → (Cond : terms.Values → Type 0) → ((v : terms.Values) (f : Values) → AreInDomains s.es v → Meets s v f → FlatSolves q f → Cond v) → ((v : terms.Values) (f : Values) → AreInDomains s.es v → Cond v → Meets s v f → FlatSolves q f) → Posted s t Cond
  rows_posted made Cond holds up = record {
    spreads = record {
      same = refl;
      longer = omega (arith, as_long);
      keeps = λ id p k. k;
      down = λ v f m. subst (Meets s v) (sym (whole v f m)) (before v f m);
      holds = λ v f d m. holds v f d (before v f m) m.solves;
      up = λ v f d c m. record { rest = []; meets = subst (Meets t v) (sym (nothing_more f)) (record { solves = up v f d c m; linked = m.linked }) };
      one = λ v f k m w e. sym (whole v f m) ∙ e ∙ whole v k w;
      made = λ front h. made front (given_choices s.es s.args) h;
    };
    state = posted_state;
  }

-- ---- a truth value that is an argument

one_true : (x : Value) → is_true (Some (seen x)) ≡ true → x ≡ values.number (pos 1)
one_true (values.number i) h = let is : i ≡ pos 1 = one_number i h in ap values.number is
  where
    one_number : (i : ℤ) → int_eq i (pos 1) ≡ true → i ≡ pos 1
    one_number i h = grind (arith, ints)
one_true (values.set u) h = absurd (cc)

true_one : (x : Value) → x ≡ values.number (pos 1) → is_true (Some (seen x)) ≡ true
true_one x h = ap (λ (y : Value). is_true (Some (seen y))) h

pub truth_sort : (s : State) (g : IsState s) (id : ℕ) (p : Plain) → at s.args id ≡ Some p → IsTruthNode s.es id → is_plain s.prog.vars Truth p ≡ true
truth_sort s g id p h t = let o = truth_of (extent s.es id) t in (subst (Suits s.prog.vars p) o.is (g.suits id p h)).sort

pub true_posted : (s : State) (g : IsState s) (id : ℕ) (p : Plain) (q : Program) → at s.args id ≡ Some p → IsForced s.prog q p → Posted s (record { es = s.es; prog = q; args = s.args }) (IsTrueAt s.es id)
true_posted s g id p q h forced =
    rows_posted s q g forced.same forced.down forced.made (IsTrueAt s.es id)
    (λ v f d m solves. ap is_true (g.right v f d m id p h) ∙ true_one (plain_value f p) (forced.holds f solves))
    (λ v f d c m. forced.up f m.solves (one_true (plain_value f p) (sym (ap is_true (g.right v f d m id p h)) ∙ c)))

pub never_posted : (s : State) (g : IsState s) (q : Program) → IsEmptied s.prog q → (down : (f : Values) → FlatSolves q f → FlatSolves s.prog f) → Posted s (record { es = s.es; prog = q; args = s.args }) Never
never_posted s g q e down =
    rows_posted s q g e.same down e.made Never (λ v f d m solves. e.none f solves) (λ v f d c m. absurd c)

-- ---- a comparison, another test, or a disjunction

test_kind : (k : NodeKind) (name : RowName) → test_of k ≡ Some name → (arity k ≡ 2) × (is_own k ≡ false)
test_kind kinds.Eq name h = (refl, refl)
test_kind kinds.Ne name h = (refl, refl)
test_kind kinds.Le name h = (refl, refl)
test_kind kinds.Lt name h = (refl, refl)
test_kind kinds.Or name h = (refl, refl)
test_kind kinds.Iff name h = (refl, refl)
test_kind kinds.Member name h = (refl, refl)
test_kind kinds.SetEq name h = (refl, refl)
test_kind kinds.Subset name h = (refl, refl)
test_kind _ name h = absurd (cc)

module _ (s : State) (id : ℕ) (n : Node) (g : IsState s) (h : IsNode s.es id n) (name : RowName) (row : test_of n.kind ≡ Some name) (p q : Plain) (hp : at s.args n.a ≡ Some p) (hq : at s.args n.b ≡ Some q) where
  abbrev both : List Plain
  both = p ∷ q ∷ []

  have : AllHave s (children n) both
  have = subst (λ m. AllHave s (take m (n.a ∷ n.b ∷ n.c ∷ [])) both) (sym (test_kind n.kind name row).0) (hp, (hq, tt))

  pub test_operands : AreOperands s.prog.vars n.kind both
  test_operands = operands_at s id n g (test_kind n.kind name row).1 h both have

  told : (v : terms.Values) (f : Values) → AreInDomains s.es v → Meets s v f → term v s.es id ≡ term_over v n.kind both f
  told v f d m =
      term_told s id h.entry g h.is (subst (λ (b : Node). is_own b.kind ≡ false) (sym h.node) (test_kind n.kind name row).1) both v f d m (subst (λ (b : Node). AllHave s (children b) both) (sym h.node) have)
      ∙ ap (λ (b : Node). term_over v b.kind both f) h.node

  pub test_posted : (r : Program) → Tests s.prog r n.kind both → Posted s (record { es = s.es; prog = r; args = s.args }) (IsTrueAt s.es id)
  test_posted r tests =
      rows_posted s r g tests.same tests.down tests.made (IsTrueAt s.es id)
      (λ v f d m solves. ap is_true (told v f d m) ∙ tests.holds v f solves)
      (λ v f d c m. tests.up v f m.solves (sym (ap is_true (told v f d m)) ∙ c))

-- ---- more terms

nothing_past : (es : List Entry) (id : ℕ) → slice_get es id ≡ None → extent es id ≡ None
unfolding extents
nothing_past es id h = at-past node_extent es id (get-length es id h)

no_some : {A : Type 0} (x : Known) → x ≡ None → IsSome x → A
no_some x h k = absurd (cc)

some_below : (es : List Entry) (id : ℕ) → IsSome (extent es id) → id < length es
some_below es id h = by (slice_get es id) refl
  where
    by : (o : Option Entry) → slice_get es id ≡ o → id < length es
    by None is = no_some (extent es id) (nothing_past es id is) h
    by (Some e) is = get-below es id e is

suits_some : (vs : List Variable) (p : Plain) (x : Known) → Suits vs p x → IsSome x
suits_some vs p None h = absurd h
suits_some vs p (Some x) h = refl

-- an id with an argument is in the arena
arg_below : (s : State) (g : IsState s) (id : ℕ) (p : Plain) → at s.args id ≡ Some p → id < length s.es
arg_below s g id p h = some_below s.es id (suits_some s.prog.vars p (extent s.es id) (g.suits id p h))

first_below : (id : ℕ) (k : NodeKind) (n : Node) → is_free k ≡ true → AllBelow id (take (arity k) (n.a ∷ n.b ∷ n.c ∷ [])) → n.a < id
first_below id kinds.Var n f h = h.0
first_below id kinds.Local n f h = h.0
first_below id kinds.SetVar n f h = h.0
first_below id kinds.SetLocal n f h = h.0
first_below id _ n f h = absurd (cc)

module _ (s : State) (es : List Entry) (g : IsState s) (x : Extends s.es es) (a : IsArena es) where
  abbrev u : State
  u = record { es = es; prog = s.prog; args = s.args }

  old_there : (id : ℕ) (e : Entry) → slice_get s.es id ≡ Some e → slice_get es id ≡ Some e
  old_there id e h = x.grew.same id (get-below s.es id e h) ∙ h

  was_there : (id : ℕ) (e : Entry) → id < length s.es → slice_get es id ≡ Some e → slice_get s.es id ≡ Some e
  was_there id e l h = sym (x.grew.same id l) ∙ h

  less : (v : terms.Values) (f : Values) → Meets u v f → Meets s v f
  less v f m = record { solves = m.solves; linked = λ id e p k free l. m.linked id e p (old_there id e k) free l }

  old_domains : (v : terms.Values) → AreInDomains es v → AreInDomains s.es v
  old_domains v d id e c k l = d id e c (old_there id e k) (old_there e.node.a c l)

  pub more_terms : Grown s u
  more_terms = record {
    extends = x;
    prog = refl;
    args = refl;
    state = record {
      arena = a;
      places = g.places;
      suits = λ id p l. subst (Suits s.prog.vars p) (sym (x.grew.extents id (arg_below s g id p l))) (g.suits id p l);
      ranged = λ v f m id e d p k free over l.
          let was : slice_get s.es id ≡ Some e = was_there id e (arg_below s g id p l) k in
          let below : e.node.a < length s.es = (let b = first_below id e.node.kind e.node free (g.arena.ordered id e was) in omega (arith, b, get-below s.es id e was)) in
          g.ranged v f (less v f m) id e d p was free (was_there e.node.a d below over) l;
      right = λ v f d m id p l. x.grew.terms v id (arg_below s g id p l) ∙ g.right v f (old_domains v d) (less v f m) id p l;
    };
  }

-- ---- in the code's words

pub record IsTested (s : State) (n : Node) (name : RowName) : Type 0 where
  pub row : test_of n.kind ≡ Some name
  pub first : HasArg s n.a
  pub second : HasArg s n.b

pub test_here : (s : State) (id : ℕ) (name : RowName) (n : Node) → HasTest s id name → IsNode s.es id n → IsTested s n name
test_here s id name n t h =
    let same : t.node ≡ n = sym t.at_id.node ∙ ap (λ (z : Entry). z.node) (same_entry s.es id id t.at_id.entry h.entry refl h.is t.at_id.is) ∙ h.node in
    subst (λ (m : Node). IsTested s m name) same (record { row = t.row; first = t.first; second = t.second })

pub test_place : (s : State) (id : ℕ) (name : RowName) → HasTest s id name → id < length s.es
test_place s id name t = get-below s.es id t.at_id.entry t.at_id.is

pub on_ok_on : {X Y : Type 0} (r : Result X Y) (Q P : Type 0) → (Q → P) → OnOk r Q → OnOk r P
on_ok_on (Ok x) Q P f h = f h
on_ok_on (Err e) Q P f h = tt
