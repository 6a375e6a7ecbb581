-- Variables and arrays, step by step.
use Rattle.std.proofs.Common.{◌≡◌, ℕ, zero, suc, ◌+◌, ◌<◌, ◌≤◌, List, [], ◌∷◌, ◌++◌, length, map, drop, take, get_or, slice_index_or, Bool, true, false, Option, Some, None, is_none, is_some, IsSome, refl, sym, ap, ap₂, subst, subst₂, ◌∙◌, arith, append_assoc, append-nil, length-append}
use Rattle.std.specs.List.{AllByRecursion, flat_map}
use Rattle.mz_base.specs.Names.{text_of}
use Rattle.mz_base.specs.Words.{is_identifier}
use Rattle.mz_value.specs.Ranges.{Range}
use Rattle.mz_arena.specs.declared.instance.VarCell.{VarCell as CodeCell}
use Rattle.mz_arena.specs.declared.instance.ModelVar.{ModelVar as CodeVar}
use Rattle.mz_arena.specs.Entries.{Entry, at}
use Rattle.mz_arena.specs.Instances.{VarCell, ModelVar, var_cell, model_var}
use Rattle.mz_instance.specs.Parts.{Part, occurrence, value_part, after_occurrence, cell_ids, var_ids, ids}
use Rattle.mz_instance.specs.Instance.{IsModelVar, AreModelVars, AreOccurring}
use Rattle.fz_program.specs.Names.{Name}
use Rattle.fz_program.specs.Arguments.{Plain, var}
use Rattle.fz_program.specs.Flat.{Variable, ArrayItem, Program}
use Rattle.fz_build.specs.Build.{with_variable, with_array}
use Rattle.flat_meaning.specs.Front.{cell_variables, variables_from, front_variables, front_variable, occurrence_label, value_label, HasName, HaveNames}
use Rattle.flat_reif.specs.States.{State, IsState, put_at}
use Rattle.flat_reif.specs.Roots.{IsDeclared, with_prog}
use Rattle.flat.specs.Declaring.{declared, all_declared, MayDeclareAll, AreDeclared, occurrence_variable, value_variable, variables_at, MayDeclareOne, IsOneDeclared, MayDeclareCell, IsCellDeclared, MayDeclareCells, AreCellsDeclared, MayDeclareVars, AreVarsDeclared}
use Rattle.flat.specs.Arrays.{with_arrays, MayAddAll, AreAdded, place_at, HasVariable, HaveVariables, value_ids, as_ids, occurrence_ids, HaveElements, HaveAllElements, arrays_at, all_arrays}

-- ---- lists

pub next_item : {X : Type 0} (xs : List X) (i : ℕ) (x d : X) → i < length xs → x ≡ get_or xs i d → drop i xs ≡ x ∷ drop (suc i) xs
next_item [] i x d h e = absurd (omega (arith, h))
next_item (y ∷ xs) zero x d h e = ap (λ z. z ∷ xs) (sym e)
next_item (y ∷ xs) (suc i) x d h e = next_item xs i x d (omega (arith, h)) e

pub no_item : {X : Type 0} (xs : List X) (i : ℕ) → length xs ≤ i → drop i xs ≡ []
no_item [] zero h = refl
no_item [] (suc i) h = refl
no_item (x ∷ xs) zero h = absurd (omega (arith, h))
no_item (x ∷ xs) (suc i) h = no_item xs i (omega (arith, h))

-- ---- one variable

abbrev made : List Entry → Program → List (Option Plain) → State
made es p args = record { es = es; prog = p; args = args }

pub one_declared : (s t : State) (i : ℕ) (v : Variable) → IsDeclared s t i v → IsOneDeclared s t i v
one_declared s t i v d = record {
  same = ap (λ es. made es t.prog t.args) d.same ∙ ap (λ p. made s.es p t.args) d.prog ∙ ap (made s.es (with_variable s.prog v)) d.args;
  state = d.state;
}

-- ---- several, one after the other

may_first : (s : State) (is js : List ℕ) (vs ws : List Variable) → length is ≡ length vs → MayDeclareAll s (is ++ js) (vs ++ ws) → MayDeclareAll s is vs
may_first s [] js [] ws l m = tt
may_first s [] js (v ∷ vs) ws l m = absurd (omega (arith, l))
may_first s (i ∷ is) js [] ws l m = absurd (omega (arith, l))
may_first s (i ∷ is) js (v ∷ vs) ws l m = (m.0, m.1, may_first (declared s i v) is js vs ws (omega (arith, l)) m.2)

may_rest : (s : State) (is js : List ℕ) (vs ws : List Variable) → length is ≡ length vs → MayDeclareAll s (is ++ js) (vs ++ ws) → MayDeclareAll (all_declared s is vs) js ws
may_rest s [] js [] ws l m = m
may_rest s [] js (v ∷ vs) ws l m = absurd (omega (arith, l))
may_rest s (i ∷ is) js [] ws l m = absurd (omega (arith, l))
may_rest s (i ∷ is) js (v ∷ vs) ws l m = may_rest (declared s i v) is js vs ws (omega (arith, l)) m.2

in_turn : (s : State) (is js : List ℕ) (vs ws : List Variable) → length is ≡ length vs → all_declared s (is ++ js) (vs ++ ws) ≡ all_declared (all_declared s is vs) js ws
in_turn s [] js [] ws l = refl
in_turn s [] js (v ∷ vs) ws l = absurd (omega (arith, l))
in_turn s (i ∷ is) js [] ws l = absurd (omega (arith, l))
in_turn s (i ∷ is) js (v ∷ vs) ws l = in_turn (declared s i v) is js vs ws (omega (arith, l))

-- what is left to be declared of some, which may be declared from a state on
pub record IsLeft (s t : State) (is : List ℕ) (vs : List Variable) (js : List ℕ) (ws : List Variable) : Type 0 where
  pub state : IsState t
  pub may : MayDeclareAll t js ws
  pub same : all_declared t js ws ≡ all_declared s is vs

pub all_left : (s : State) (is : List ℕ) (vs : List Variable) → IsState s → MayDeclareAll s is vs → IsLeft s s is vs is vs
all_left s is vs g m = record { state = g; may = m; same = refl }

pub left_first : (s t : State) (is js ks : List ℕ) (vs ws us : List Variable) → length js ≡ length ws → IsLeft s t is vs (js ++ ks) (ws ++ us) → MayDeclareAll t js ws
left_first s t is js ks vs ws us l h = may_first t js ks ws us l h.may

pub left_next : (s t u : State) (is js ks : List ℕ) (vs ws us : List Variable) → length js ≡ length ws → IsLeft s t is vs (js ++ ks) (ws ++ us) → AreDeclared t u js ws → IsLeft s u is vs ks us
left_next s t u is js ks vs ws us l h d = record {
  state = d.state;
  may = subst (λ x. MayDeclareAll x ks us) (sym d.same) (may_rest t js ks ws us l h.may);
  same = ap (λ x. all_declared x ks us) d.same ∙ sym (in_turn t js ks ws us l) ∙ h.same;
}

pub none_left : (s t : State) (is : List ℕ) (vs : List Variable) → IsLeft s t is vs [] [] → AreDeclared s t is vs
none_left s t is vs h = record { same = h.same; state = h.state }

-- ---- a cell

pub cell_length : (scalar opt : Bool) (k : ℕ) (x : Name) (p : Part) (o : Option ℕ) (i : ℕ) → is_some o ≡ opt → length (after_occurrence o i) ≡ length (cell_variables scalar opt k x p)
cell_length scalar true k x p (Some o) i e = refl
cell_length scalar true k x p None i e = absurd (cc)
cell_length scalar false k x p (Some o) i e = absurd (cc)
cell_length scalar false k x p None i e = refl

option_variables : (scalar b : Bool) (k : ℕ) (x : Name) (p : Part) → b ≡ true → cell_variables scalar b k x p ≡ front_variable scalar (occurrence_label scalar k x) occurrence ∷ front_variable scalar (value_label scalar b k x) p ∷ []
option_variables scalar true k x p e = refl
option_variables scalar false k x p e = absurd (cc)

value_alone : (scalar b : Bool) (k : ℕ) (x : Name) (p : Part) → b ≡ false → cell_variables scalar b k x p ≡ front_variable scalar (value_label scalar b k x) p ∷ []
value_alone scalar true k x p e = absurd (cc)
value_alone scalar false k x p e = refl

no_occurrence : (o : Option ℕ) → is_some o ≡ false → o ≡ None
no_occurrence None h = refl
no_occurrence (Some o) h = absurd (cc)

module _ (m : ModelVar) (x : Name) (k : ℕ) (c : VarCell) where
  module _ (opt : m.opt ≡ true) (o : ℕ) (occurs : c.occurs ≡ Some o) where
    ids_both : cell_ids c ≡ o ∷ c.term ∷ []
    ids_both = ap (λ o. after_occurrence o c.term) occurs

    vars_both : variables_at m x k c ≡ occurrence_variable m x k ∷ value_variable m x k c ∷ []
    vars_both = option_variables (is_none m.index) m.opt k x (value_part m c) opt

    pub both_left : (s : State) → IsState s → MayDeclareCell s m x k c → IsLeft s s (cell_ids c) (variables_at m x k c) (o ∷ c.term ∷ []) (occurrence_variable m x k ∷ value_variable m x k c ∷ [])
    both_left s g h = subst₂ (λ is vs. IsLeft s s (cell_ids c) (variables_at m x k c) is vs) ids_both vars_both (all_left s (cell_ids c) (variables_at m x k c) g h)

  module _ (opt : m.opt ≡ false) (occurs : is_some c.occurs ≡ m.opt) where
    pub value_left : (s : State) → IsState s → MayDeclareCell s m x k c → IsLeft s s (cell_ids c) (variables_at m x k c) (c.term ∷ []) (value_variable m x k c ∷ [])
    value_left s g h = subst₂ (λ is vs. IsLeft s s (cell_ids c) (variables_at m x k c) is vs) (ap (λ o. after_occurrence o c.term) (no_occurrence c.occurs (occurs ∙ opt))) (value_alone (is_none m.index) m.opt k x (value_part m c) opt) (all_left s (cell_ids c) (variables_at m x k c) g h)

module _ (m : ModelVar) (x : Name) (k : ℕ) (c : VarCell) (s : State) (g : IsState s) (opt : m.opt ≡ true) (o : ℕ) (occurs : c.occurs ≡ Some o) (h : MayDeclareCell s m x k c) where
  both : IsLeft s s (cell_ids c) (variables_at m x k c) (o ∷ c.term ∷ []) (occurrence_variable m x k ∷ value_variable m x k c ∷ [])
  both = both_left m x k c opt o occurs s g h

  pub occurrence_may : MayDeclareOne s o (occurrence_variable m x k)
  occurrence_may = may_first s (o ∷ []) (c.term ∷ []) (occurrence_variable m x k ∷ []) (value_variable m x k c ∷ []) refl both.may

  module _ (t : State) (d : IsOneDeclared s t o (occurrence_variable m x k)) where
    value_next : IsLeft s t (cell_ids c) (variables_at m x k c) (c.term ∷ []) (value_variable m x k c ∷ [])
    value_next = left_next s s t (cell_ids c) (o ∷ []) (c.term ∷ []) (variables_at m x k c) (occurrence_variable m x k ∷ []) (value_variable m x k c ∷ []) refl both d

    pub value_may : MayDeclareOne t c.term (value_variable m x k c)
    value_may = value_next.may

    pub option_done : (u : State) → IsOneDeclared t u c.term (value_variable m x k c) → IsCellDeclared s u m x k c
    option_done u e = none_left s u (cell_ids c) (variables_at m x k c) (left_next s t u (cell_ids c) (c.term ∷ []) [] (variables_at m x k c) (value_variable m x k c ∷ []) [] refl value_next e)

module _ (m : ModelVar) (x : Name) (k : ℕ) (c : VarCell) (s : State) (g : IsState s) (opt : m.opt ≡ false) (occurs : is_some c.occurs ≡ m.opt) (h : MayDeclareCell s m x k c) where
  one : IsLeft s s (cell_ids c) (variables_at m x k c) (c.term ∷ []) (value_variable m x k c ∷ [])
  one = value_left m x k c opt occurs s g h

  pub single_may : MayDeclareOne s c.term (value_variable m x k c)
  single_may = one.may

  pub single_done : (t : State) → IsOneDeclared s t c.term (value_variable m x k c) → IsCellDeclared s t m x k c
  single_done t d = none_left s t (cell_ids c) (variables_at m x k c) (left_next s s t (cell_ids c) (c.term ∷ []) [] (variables_at m x k c) (value_variable m x k c ∷ []) [] refl one d)

pub no_option : (m : ModelVar) (c : VarCell) → m.opt ≡ true → is_some c.occurs ≡ m.opt → c.occurs ≡ None → ⊥
no_option m c opt occurs none = nothing c.occurs none (occurs ∙ opt)
  where
    nothing : (o : Option ℕ) → o ≡ None → is_some o ≡ true → ⊥
    nothing None e y = cc
    nothing (Some o) e y = cc

-- ---- the cells of a variable

abbrev pub cells_from : ℕ → List CodeCell → List VarCell
cells_from i cs = map var_cell (drop i cs)

pub record CellsLeft (s t : State) (m : ModelVar) (x : Name) (all : List CodeCell) (index k : ℕ) : Type 0 where
  pub place : k ≡ suc index
  pub occurring : AreOccurring m.opt (cells_from index all)
  pub left : IsLeft s t (flat_map cell_ids (map var_cell all)) (variables_from m 1 x (map var_cell all)) (flat_map cell_ids (cells_from index all)) (variables_from m (suc index) x (cells_from index all))

pub cells_begin : (s : State) (m : ModelVar) (x : Name) (all : List CodeCell) → IsState s → AreOccurring m.opt (map var_cell all) → MayDeclareCells s m x (map var_cell all) → CellsLeft s s m x all 0 1
cells_begin s m x all g o h = record { place = refl; occurring = o; left = all_left s (flat_map cell_ids (map var_cell all)) (variables_from m 1 x (map var_cell all)) g h }

-- the next cell first
record CellNext (s t : State) (m : ModelVar) (x : Name) (all : List CodeCell) (index : ℕ) (c : VarCell) (rest : List VarCell) : Type 0 where
  occurs : is_some c.occurs ≡ m.opt
  occurring : AreOccurring m.opt rest
  left : IsLeft s t (flat_map cell_ids (map var_cell all)) (variables_from m 1 x (map var_cell all)) (cell_ids c ++ flat_map cell_ids rest) (variables_at m x (suc index) c ++ variables_from m (suc (suc index)) x rest)

module _ (s t : State) (m : ModelVar) (x : Name) (all : List CodeCell) (index k : ℕ) (c d : CodeCell) (low : index < length all) (is : c ≡ get_or all index d) (h : CellsLeft s t m x all index k) where
  next : CellNext s t m x all index (var_cell c) (cells_from (suc index) all)
  next = by (map var_cell (drop index all)) (ap (map var_cell) (next_item all index c d low is)) h.occurring h.left
    where
      by : (cs : List VarCell) → cs ≡ var_cell c ∷ cells_from (suc index) all → AreOccurring m.opt cs → IsLeft s t (flat_map cell_ids (map var_cell all)) (variables_from m 1 x (map var_cell all)) (flat_map cell_ids cs) (variables_from m (suc index) x cs) → CellNext s t m x all index (var_cell c) (cells_from (suc index) all)
      by cs e o l =
          let p = subst (AreOccurring m.opt) e o in
          record { occurs = p.0; occurring = p.1; left = subst (λ cs. IsLeft s t (flat_map cell_ids (map var_cell all)) (variables_from m 1 x (map var_cell all)) (flat_map cell_ids cs) (variables_from m (suc index) x cs)) e l }

  pub cell_occurs : is_some c.occurs ≡ m.opt
  cell_occurs = next.occurs

  same_length : length (cell_ids (var_cell c)) ≡ length (variables_at m x (suc index) (var_cell c))
  same_length = cell_length (is_none m.index) m.opt (suc index) x (value_part m (var_cell c)) c.occurs c.term next.occurs

  pub cell_may : MayDeclareCell t m x k (var_cell c)
  cell_may = subst (λ k. MayDeclareCell t m x k (var_cell c)) (sym h.place) (may_first t (cell_ids (var_cell c)) (flat_map cell_ids (cells_from (suc index) all)) (variables_at m x (suc index) (var_cell c)) (variables_from m (suc (suc index)) x (cells_from (suc index) all)) same_length next.left.may)

  cells_more : (u : State) (l : ℕ) → l ≡ suc k → IsCellDeclared t u m x k (var_cell c) → CellsLeft s u m x all (suc index) l
  cells_more u l e d = record {
    place = e ∙ ap suc h.place;
    occurring = next.occurring;
    left = left_next s t u (flat_map cell_ids (map var_cell all)) (cell_ids (var_cell c)) (flat_map cell_ids (cells_from (suc index) all)) (variables_from m 1 x (map var_cell all)) (variables_at m x (suc index) (var_cell c)) (variables_from m (suc (suc index)) x (cells_from (suc index) all)) same_length next.left (subst (λ k. IsCellDeclared t u m x k (var_cell c)) h.place d);
  }

  pub cells_next : (u : State) → IsCellDeclared t u m x k (var_cell c) → CellsLeft s u m x all (index + 1) (k + 1)
  cells_next u d = subst (λ j. CellsLeft s u m x all j (k + 1)) (omega arith) (cells_more u (k + 1) (omega arith) d)

pub cells_done : (s t : State) (m : ModelVar) (x : Name) (all : List CodeCell) (index k : ℕ) → length all ≤ index → CellsLeft s t m x all index k → AreCellsDeclared s t m x (map var_cell all)
cells_done s t m x all index k low h = none_left s t (flat_map cell_ids (map var_cell all)) (variables_from m 1 x (map var_cell all)) (subst (λ cs. IsLeft s t (flat_map cell_ids (map var_cell all)) (variables_from m 1 x (map var_cell all)) (flat_map cell_ids (map var_cell cs)) (variables_from m (suc index) x (map var_cell cs))) (no_item all index low) h.left)

-- ---- the variables

abbrev pub vars_from : ℕ → List CodeVar → List ModelVar
vars_from i ms = map model_var (drop i ms)

pub record VarsLeft (s t : State) (table : List Name) (all : List CodeVar) (index : ℕ) : Type 0 where
  pub names : HaveNames table (vars_from index all)
  pub sound : AreModelVars (vars_from index all)
  pub left : IsLeft s t (ids (map model_var all)) (front_variables table (map model_var all)) (ids (vars_from index all)) (front_variables table (vars_from index all))

pub vars_begin : (s : State) (table : List Name) (all : List CodeVar) → IsState s → HaveNames table (map model_var all) → AreModelVars (map model_var all) → MayDeclareVars s table (map model_var all) → VarsLeft s s table all 0
vars_begin s table all g n o h = record { names = n; sound = o; left = all_left s (ids (map model_var all)) (front_variables table (map model_var all)) g h }

cells_length : (m : ModelVar) (k : ℕ) (x : Name) (cs : List VarCell) → AreOccurring m.opt cs → length (flat_map cell_ids cs) ≡ length (variables_from m k x cs)
cells_length m k x [] o = refl
cells_length m k x (c ∷ cs) o = length-append (cell_ids c) (flat_map cell_ids cs) ∙ ap₂ (λ a b. a + b) (cell_length (is_none m.index) m.opt k x (value_part m c) c.occurs c.term o.0) (cells_length m (suc k) x cs o.1) ∙ sym (length-append (cell_variables (is_none m.index) m.opt k x (value_part m c)) (variables_from m (suc k) x cs))

-- a name of the table has a place there
pub name_place : (table : List Name) (n : ℕ) → is_identifier (text_of table n) ≡ true → n < length table
name_place [] n h = absurd (cc)
name_place (t ∷ table) zero h = omega arith
name_place (t ∷ table) (suc n) h = let l = name_place table n h in omega (arith, l)

record VarNext (s t : State) (table : List Name) (all : List CodeVar) (m : ModelVar) (rest : List ModelVar) : Type 0 where
  name : HasName table m
  names : HaveNames table rest
  here : IsModelVar m
  sound : AreModelVars rest
  left : IsLeft s t (ids (map model_var all)) (front_variables table (map model_var all)) (var_ids m ++ ids rest) (variables_from m 1 (text_of table m.name) m.cells ++ front_variables table rest)

module _ (s t : State) (table : List Name) (all : List CodeVar) (index : ℕ) (m d : CodeVar) (low : index < length all) (is : m ≡ get_or all index d) (h : VarsLeft s t table all index) where
  abbrev m1 : ModelVar
  m1 = model_var m

  abbrev x1 : Name
  x1 = text_of table m.name

  next_var : VarNext s t table all m1 (vars_from (suc index) all)
  next_var = by (vars_from index all) (ap (map model_var) (next_item all index m d low is)) h.names h.sound h.left
    where
      by : (ms : List ModelVar) → ms ≡ m1 ∷ vars_from (suc index) all → HaveNames table ms → AreModelVars ms → IsLeft s t (ids (map model_var all)) (front_variables table (map model_var all)) (ids ms) (front_variables table ms) → VarNext s t table all m1 (vars_from (suc index) all)
      by ms e n o l =
          let p = subst (HaveNames table) e n in
          let q = subst AreModelVars e o in
          record { name = p.0; names = p.1; here = q.0; sound = q.1; left = subst (λ ms. IsLeft s t (ids (map model_var all)) (front_variables table (map model_var all)) (ids ms) (front_variables table ms)) e l }

  pub var_name : m.name < length table
  var_name = name_place table m.name next_var.name.name

  pub var_occurring : AreOccurring m1.opt m1.cells
  var_occurring = next_var.here.cells

  var_length : length (var_ids m1) ≡ length (variables_from m1 1 x1 m1.cells)
  var_length = cells_length m1 1 x1 m1.cells next_var.here.cells

  pub var_may : MayDeclareCells t m1 x1 m1.cells
  var_may = may_first t (var_ids m1) (ids (vars_from (suc index) all)) (variables_from m1 1 x1 m1.cells) (front_variables table (vars_from (suc index) all)) var_length next_var.left.may

  vars_more : (u : State) → AreCellsDeclared t u m1 x1 m1.cells → VarsLeft s u table all (suc index)
  vars_more u g = record {
    names = next_var.names;
    sound = next_var.sound;
    left = left_next s t u (ids (map model_var all)) (var_ids m1) (ids (vars_from (suc index) all)) (front_variables table (map model_var all)) (variables_from m1 1 x1 m1.cells) (front_variables table (vars_from (suc index) all)) var_length next_var.left g;
  }

  pub vars_next : (u : State) → AreCellsDeclared t u m1 x1 m1.cells → VarsLeft s u table all (index + 1)
  vars_next u g = subst (VarsLeft s u table all) (omega arith) (vars_more u g)

pub vars_done : (s t : State) (table : List Name) (all : List CodeVar) (index : ℕ) → length all ≤ index → VarsLeft s t table all index → AreVarsDeclared s t table (map model_var all)
vars_done s t table all index low h = none_left s t (ids (map model_var all)) (front_variables table (map model_var all)) (subst (λ ms. IsLeft s t (ids (map model_var all)) (front_variables table (map model_var all)) (ids (map model_var ms)) (front_variables table (map model_var ms))) (no_item all index low) h.left)

-- ---- arrays

-- what is left to be added of some arrays
pub record ItemsLeft (s t : State) (items more : List ArrayItem) : Type 0 where
  pub state : IsState t
  pub may : MayAddAll t.prog more
  pub same : with_prog t (with_arrays t.prog more) ≡ with_prog s (with_arrays s.prog items)
  pub args : t.args ≡ s.args

pub all_items : (s : State) (items : List ArrayItem) → IsState s → MayAddAll s.prog items → ItemsLeft s s items items
all_items s items g m = record { state = g; may = m; same = refl; args = refl }

add_first : (p : Program) (xs ys : List ArrayItem) → MayAddAll p (xs ++ ys) → MayAddAll p xs
add_first p [] ys m = tt
add_first p (x ∷ xs) ys m = (m.0, add_first (with_array p x) xs ys m.1)

add_rest : (p : Program) (xs ys : List ArrayItem) → MayAddAll p (xs ++ ys) → MayAddAll (with_arrays p xs) ys
add_rest p [] ys m = m
add_rest p (x ∷ xs) ys m = add_rest (with_array p x) xs ys m.1

added_in_turn : (p : Program) (xs ys : List ArrayItem) → with_arrays p (xs ++ ys) ≡ with_arrays (with_arrays p xs) ys
added_in_turn p [] ys = refl
added_in_turn p (x ∷ xs) ys = added_in_turn (with_array p x) xs ys

pub items_first : (s t : State) (items xs ys : List ArrayItem) → ItemsLeft s t items (xs ++ ys) → MayAddAll t.prog xs
items_first s t items xs ys h = add_first t.prog xs ys h.may

pub items_next : (s t u : State) (items xs ys : List ArrayItem) → ItemsLeft s t items (xs ++ ys) → AreAdded t u xs → ItemsLeft s u items ys
items_next s t u items xs ys h a = record {
  state = a.state;
  may = subst (λ (x : State). MayAddAll x.prog ys) (sym a.same) (add_rest t.prog xs ys h.may);
  same = ap (λ (x : State). with_prog x (with_arrays x.prog ys)) a.same ∙ ap (with_prog t) (sym (added_in_turn t.prog xs ys)) ∙ h.same;
  args = ap (λ (x : State). x.args) a.same ∙ h.args;
}

pub no_items : (s t : State) (items : List ArrayItem) → ItemsLeft s t items [] → AreAdded s t items
no_items s t items h = record { same = h.same; state = h.state }

pub one_item : (s t : State) (a : ArrayItem) → t ≡ with_prog s (with_array s.prog a) → IsState t → AreAdded s t (a ∷ [])
one_item s t a e g = record { same = e; state = g }

pub nothing_added : (s : State) → IsState s → AreAdded s s []
nothing_added s g = record { same = refl; state = g }

pub record ArraysLeft (s t : State) (table : List Name) (all : List CodeVar) (index : ℕ) : Type 0 where
  pub names : HaveNames table (vars_from index all)
  pub have : HaveAllElements s.args (vars_from index all)
  pub left : ItemsLeft s t (all_arrays s.args table (map model_var all)) (all_arrays s.args table (vars_from index all))

pub arrays_begin : (s : State) (table : List Name) (all : List CodeVar) → IsState s → HaveNames table (map model_var all) → HaveAllElements s.args (map model_var all) → MayAddAll s.prog (all_arrays s.args table (map model_var all)) → ArraysLeft s s table all 0
arrays_begin s table all g n h m = record { names = n; have = h; left = all_items s (all_arrays s.args table (map model_var all)) g m }

record ArrayNext (s t : State) (table : List Name) (all : List CodeVar) (m : ModelVar) (rest : List ModelVar) : Type 0 where
  name : HasName table m
  names : HaveNames table rest
  here : HaveElements s.args m.cells
  have : HaveAllElements s.args rest
  left : ItemsLeft s t (all_arrays s.args table (map model_var all)) (arrays_at s.args (text_of table m.name) m ++ all_arrays s.args table rest)

module _ (s t : State) (table : List Name) (all : List CodeVar) (index : ℕ) (m d : CodeVar) (low : index < length all) (is : m ≡ get_or all index d) (h : ArraysLeft s t table all index) where
  next_array : ArrayNext s t table all (model_var m) (vars_from (suc index) all)
  next_array = by (vars_from index all) (ap (map model_var) (next_item all index m d low is)) h.names h.have h.left
    where
      by : (ms : List ModelVar) → ms ≡ model_var m ∷ vars_from (suc index) all → HaveNames table ms → HaveAllElements s.args ms → ItemsLeft s t (all_arrays s.args table (map model_var all)) (all_arrays s.args table ms) → ArrayNext s t table all (model_var m) (vars_from (suc index) all)
      by ms e n o l =
          let p = subst (HaveNames table) e n in
          let q = subst (HaveAllElements s.args) e o in
          record { name = p.0; names = p.1; here = q.0; have = q.1; left = subst (λ ms. ItemsLeft s t (all_arrays s.args table (map model_var all)) (all_arrays s.args table ms)) e l }

  abbrev items1 : List ArrayItem
  items1 = arrays_at s.args (text_of table m.name) (model_var m)

  pub array_name : m.name < length table
  array_name = name_place table m.name next_array.name.name

  pub array_elements : HaveElements t.args (model_var m).cells
  array_elements = subst (λ args. HaveElements args (model_var m).cells) (sym h.left.args) next_array.here

  same_items : items1 ≡ arrays_at t.args (text_of table m.name) (model_var m)
  same_items = ap (λ args. arrays_at args (text_of table m.name) (model_var m)) (sym h.left.args)

  pub array_may : MayAddAll t.prog (arrays_at t.args (text_of table m.name) (model_var m))
  array_may = subst (MayAddAll t.prog) same_items (add_first t.prog items1 (all_arrays s.args table (vars_from (suc index) all)) next_array.left.may)

  arrays_more : (u : State) → AreAdded t u (arrays_at t.args (text_of table m.name) (model_var m)) → ArraysLeft s u table all (suc index)
  arrays_more u g = record {
    names = next_array.names;
    have = next_array.have;
    left = items_next s t u (all_arrays s.args table (map model_var all)) items1 (all_arrays s.args table (vars_from (suc index) all)) next_array.left (subst (AreAdded t u) (sym same_items) g);
  }

  pub arrays_next : (u : State) → AreAdded t u (arrays_at t.args (text_of table m.name) (model_var m)) → ArraysLeft s u table all (index + 1)
  arrays_next u g = subst (ArraysLeft s u table all) (omega arith) (arrays_more u g)

pub arrays_done : (s t : State) (table : List Name) (all : List CodeVar) (index : ℕ) → length all ≤ index → ArraysLeft s t table all index → AreAdded s t (all_arrays s.args table (map model_var all))
arrays_done s t table all index low h = no_items s t (all_arrays s.args table (map model_var all)) (subst (λ ms. ItemsLeft s t (all_arrays s.args table (map model_var all)) (all_arrays s.args table (map model_var ms))) (no_item all index low) h.left)

-- ---- the places of an array's elements

pub has_place : (args : List (Option Plain)) (i : ℕ) → HasVariable args i → IsSome (at args i)
has_place args i h = subst (λ (o : Option Plain). IsSome o) (sym h.is) refl

pub have_at : (args : List (Option Plain)) (is : List ℕ) (k : ℕ) → HaveVariables args is → k < length is → HasVariable args (slice_index_or is k 0)
have_at args [] k h l = absurd (omega (arith, l))
have_at args (i ∷ is) zero h l = h.0
have_at args (i ∷ is) (suc k) h l = have_at args is k h.1 (omega (arith, l))

take_next : (f : ℕ → ℕ) (is : List ℕ) (k : ℕ) → k < length is → map f (take (suc k) is) ≡ map f (take k is) ++ f (slice_index_or is k 0) ∷ []
take_next f [] k l = absurd (omega (arith, l))
take_next f (i ∷ is) zero l = refl
take_next f (i ∷ is) (suc k) l = ap (λ ns. f i ∷ ns) (take_next f is k (omega (arith, l)))

pub places_next : (args : List (Option Plain)) (is : List ℕ) (k : ℕ) (all more : List ℕ) (n : ℕ) → k < length is → all ≡ map (place_at args) (take k is) → n ≡ place_at args (slice_index_or is k 0) → more ≡ all ++ n ∷ [] → more ≡ map (place_at args) (take (k + 1) is)
places_next args is k all more n l a e p =
    let next : suc k ≡ k + 1 = omega arith in
    p ∙ ap₂ (λ xs m. xs ++ m ∷ []) a e ∙ sym (take_next (place_at args) is k l) ∙ ap (λ j. map (place_at args) (take j is)) next

pub places_all : (args : List (Option Plain)) (is : List ℕ) (k : ℕ) → length is ≤ k → map (place_at args) (take k is) ≡ map (place_at args) is
places_all args is k l = ap (map (place_at args)) (whole is k l)
  where
    whole : (is : List ℕ) (k : ℕ) → length is ≤ k → take k is ≡ is
    whole [] zero l = refl
    whole [] (suc k) l = refl
    whole (i ∷ is) zero l = absurd (omega (arith, l))
    whole (i ∷ is) (suc k) l = ap (λ ns. i ∷ ns) (whole is k (omega (arith, l)))

-- ---- the nodes of an array's elements

take_item : {X : Type 0} (xs : List X) (k : ℕ) (x d : X) → k < length xs → x ≡ get_or xs k d → take (k + 1) xs ≡ take k xs ++ x ∷ []
take_item {X = X} xs k x d low is = let next : k + 1 ≡ suc k = omega arith in ap (λ j. take j xs) next ∙ by xs k low is
  where
    by : (xs : List X) (k : ℕ) → k < length xs → x ≡ get_or xs k d → take (suc k) xs ≡ take k xs ++ x ∷ []
    by [] k low is = absurd (omega (arith, low))
    by (y ∷ xs) zero low is = ap (λ z. z ∷ []) (sym is)
    by (y ∷ xs) (suc k) low is = ap (λ zs. y ∷ zs) (by xs k (omega (arith, low)) is)

take_whole : {X : Type 0} (xs : List X) (k : ℕ) → length xs ≤ k → take k xs ≡ xs
take_whole [] zero low = refl
take_whole [] (suc k) low = refl
take_whole (x ∷ xs) zero low = absurd (omega (arith, low))
take_whole (x ∷ xs) (suc k) low = ap (λ zs. x ∷ zs) (take_whole xs k (omega (arith, low)))

values_push : (xs : List CodeCell) (c : CodeCell) → value_ids (map var_cell (xs ++ c ∷ [])) ≡ value_ids (map var_cell xs) ++ c.term ∷ []
values_push [] c = refl
values_push (x ∷ xs) c = ap (λ ns. x.term ∷ ns) (values_push xs c)

occurrences_push : (xs : List CodeCell) (c : CodeCell) → occurrence_ids (map var_cell (xs ++ c ∷ [])) ≡ occurrence_ids (map var_cell xs) ++ as_ids c.occurs
occurrences_push [] c = append-nil (as_ids c.occurs)
occurrences_push (x ∷ xs) c = ap (λ ns. as_ids x.occurs ++ ns) (occurrences_push xs c) ∙ sym (append_assoc (as_ids x.occurs) (occurrence_ids (map var_cell xs)) (as_ids c.occurs))

pub values_next : (xs : List CodeCell) (k : ℕ) (c d : CodeCell) (all more : List ℕ) → k < length xs → c ≡ get_or xs k d → all ≡ value_ids (map var_cell (take k xs)) → more ≡ all ++ c.term ∷ [] → more ≡ value_ids (map var_cell (take (k + 1) xs))
values_next xs k c d all more low is a e = e ∙ ap (λ ns. ns ++ c.term ∷ []) a ∙ sym (values_push (take k xs) c) ∙ ap (λ cs. value_ids (map var_cell cs)) (sym (take_item xs k c d low is))

pub values_all : (xs : List CodeCell) (k : ℕ) → length xs ≤ k → value_ids (map var_cell (take k xs)) ≡ value_ids (map var_cell xs)
values_all xs k low = ap (λ cs. value_ids (map var_cell cs)) (take_whole xs k low)

pub occurrences_next : (xs : List CodeCell) (k : ℕ) (c d : CodeCell) (all more : List ℕ) → k < length xs → c ≡ get_or xs k d → all ≡ occurrence_ids (map var_cell (take k xs)) → more ≡ all ++ as_ids c.occurs → more ≡ occurrence_ids (map var_cell (take (k + 1) xs))
occurrences_next xs k c d all more low is a e = e ∙ ap (λ ns. ns ++ as_ids c.occurs) a ∙ sym (occurrences_push (take k xs) c) ∙ ap (λ cs. occurrence_ids (map var_cell cs)) (sym (take_item xs k c d low is))

pub occurrences_all : (xs : List CodeCell) (k : ℕ) → length xs ≤ k → occurrence_ids (map var_cell (take k xs)) ≡ occurrence_ids (map var_cell xs)
occurrences_all xs k low = ap (λ cs. occurrence_ids (map var_cell cs)) (take_whole xs k low)
